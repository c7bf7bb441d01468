-- In which encoding a page is read, and what it is in it.
use Rattle.std.proofs.Common.{◌≡◌, ◌∙◌, ℕ, false, List, drop, Option, Result, Ok, Err, true, refl, sym, ap, subst}
use Rattle.std.specs.Prelude.{IfOk}
use Rattle.std.specs.String.{string_bytes}
use Rattle.html_tokens.specs.Table.{Row}
use Rattle.html_normal.specs.declared.fault.NormalFault.{NormalFault}
use Rattle.html_encodings.specs.Sniffing.{sniffed}
use Rattle.html_encodings.specs.declared.decoded.Decoded.{Decoded}
use Rattle.html_encodings.specs.declared.names.Encoding.{Encoding}
use Rattle.html_encodings.specs.declared.sniffing.Sniffed.{Sniffed}
use Rattle.html_encodings_multibyte.specs.Texts.{IsText}
use Rattle.html_decoded_pages.specs.Changing.{is_tentative, named_in, settled}
use Rattle.html_decoded_pages.specs.DecodedPages.{IsDecoded, IsParsedPage, encoding_of, text_in, unmarked}
use Rattle.html_decoded_pages.specs.declared.page.DecodedPage.{DecodedPage}
use Rattle.html_decoded_pages.specs.declared.parsing.Parsed.{Parsed}
use Rattle.html_decoded_pages.specs.declared.parsing.Parsed.TheVariants.{Other, Whole}
use Rattle.html_decoded_pages.proofs.Parsed.{changes, made-of, stays}
use Rattle.html_decoded_pages.proofs.Unmarked.{tentative-unmarked}

-- What was made of a page's text was made of the page.
module _ {T : Type 0} (Is : List ℕ → T → Type 0) (table : List Row) (found : Sniffed) (bytes : List ℕ) (decoded : Decoded)
    (text : IsText found.encoding bytes decoded) where
  -- what is read in the encoding that was found, and in another
  abbrev found_page : T → DecodedPage T
  found_page content = record { content = content; encoding = found.encoding; sniffed = found; errors = decoded.errors }

  abbrev other_page : Encoding → Decoded → T → DecodedPage T
  other_page encoding again content = record { content = content; encoding = encoding; sniffed = found; errors = again.errors }

  -- what is certain does not change
  stays-certain : is_tentative found.why ≡ false → found.encoding ≡ encoding_of table found bytes
  stays-certain certain = rw certain refl

  pub of-certain : (content : T) → is_tentative found.why ≡ false → Is (string_bytes decoded.text) content
      → IsDecoded Is table found bytes (found_page content)
  of-certain content certain is = record {
    sniffed = refl;
    encoding = stays-certain certain;
    errors = text.errors;
    content = subst (λ (t : List ℕ). Is t content) text.text is;
  }

  -- what is tentative changes to what is named
  changes-to : (encoding : Encoding) → is_tentative found.why ≡ true
      → settled found.encoding (named_in table (string_bytes decoded.text)) ≡ encoding → encoding ≡ encoding_of table found bytes
  changes-to encoding tentative is =
      let named : settled found.encoding (named_in table (text_in found.encoding bytes)) ≡ encoding =
      ap (λ t. settled found.encoding (named_in table t)) (sym text.text) ∙ is in
      rw tentative (sym named)

  -- something was parsed of a copy of the text
  module _ {P : Type 0} (Made : List ℕ → P → Type 0) (tentative : is_tentative found.why ≡ true) where
    whole : (made : P) (content : T) → IsParsedPage Made table (string_bytes decoded.text) found.encoding (Whole made)
        → Is (string_bytes decoded.text) content → IsDecoded Is table found bytes (found_page content)
    whole made content parsed is = record {
      sniffed = refl;
      encoding = changes-to found.encoding tentative (stays Made table (string_bytes decoded.text) found.encoding made parsed);
      errors = text.errors;
      content = subst (λ (t : List ℕ). Is t content) text.text is;
    }

    other : (encoding : Encoding) (again : Decoded) (content : T)
        → IsParsedPage Made table (string_bytes decoded.text) found.encoding (Other encoding) → IsText encoding bytes again
        → Is (string_bytes again.text) content → IsDecoded Is table found bytes (other_page encoding again content)
    other encoding again content parsed text_is is = record {
      sniffed = refl;
      encoding = changes-to encoding tentative (changes Made table (string_bytes decoded.text) found.encoding encoding parsed);
      errors = text_is.errors;
      content = subst (λ (t : List ℕ). Is t content) text_is.text is;
    }

    pub of-whole : (copy : List ℕ) (parsed : Parsed P) (made : P) (content : T) → copy ≡ string_bytes decoded.text
        → IsParsedPage Made table copy found.encoding parsed → parsed ≡ Whole made
        → (Made (string_bytes decoded.text) made → Is (string_bytes decoded.text) content)
        → IsDecoded Is table found bytes (found_page content)
    of-whole copy parsed made content copied is is_whole gives =
        let there : IsParsedPage Made table (string_bytes decoded.text) found.encoding (Whole made) = rw (copied, is_whole) at is in
        whole made content there (gives (made-of Made table (string_bytes decoded.text) found.encoding made there))

    pub of-other : (copy : List ℕ) (parsed : Parsed P) (encoding : Encoding) (again : Decoded) (content : T)
        → copy ≡ string_bytes decoded.text → IsParsedPage Made table copy found.encoding parsed → parsed ≡ Other encoding
        → IsText encoding bytes again → Is (string_bytes again.text) content
        → IsDecoded Is table found bytes (other_page encoding again content)
    of-other copy parsed encoding again content copied is is_other text_is content_is =
        other encoding again content (rw (copied, is_other) at is) text_is content_is

-- bytes without a mark are those after it
after-mark : (found : Sniffed) (bytes : List ℕ) → found.mark_length ≡ 0 → unmarked found bytes ≡ bytes
after-mark found bytes none = ap (λ n. drop n bytes) none

-- what was found of bytes
module _ (bytes : List ℕ) (label : Option (List ℕ)) (fallback : Encoding) (found : Sniffed)
    (is : found ≡ sniffed bytes label fallback) where
  -- before what is tentative there is no mark
  unmarked-all : is_tentative found.why ≡ true → unmarked found bytes ≡ bytes
  unmarked-all tentative =
      let there = subst (λ (f : Sniffed). is_tentative f.why ≡ true) is tentative in
      let none : found.mark_length ≡ 0 =
      ap (λ (f : Sniffed). f.mark_length) is ∙ tentative-unmarked bytes label fallback there in
      after-mark found bytes none

  pub text-of-all : (decoded : Decoded) → is_tentative found.why ≡ true → IsText found.encoding (unmarked found bytes) decoded
      → IsText found.encoding bytes decoded
  text-of-all decoded tentative text = subst (λ (bs : List ℕ). IsText found.encoding bs decoded) (unmarked-all tentative) text

  -- what a page without a mark is, it is as what was found
  pub of-all : {P : Type 0} (Q : Sniffed → List ℕ → P → Type 0) (result : Result P NormalFault) → is_tentative found.why ≡ true
      → IfOk result (Q found bytes)
      → IfOk result (λ page. let f = sniffed bytes label fallback in Q f (unmarked f bytes) page)
  of-all Q (Ok page) tentative holds =
      subst (λ (f : Sniffed). Q f (unmarked f bytes) page) is
      (subst (λ (bs : List ℕ). Q found bs page) (sym (unmarked-all tentative)) holds)
  of-all Q (Err fault) tentative holds = tt

  pub of-found : {P : Type 0} (Q : Sniffed → List ℕ → P → Type 0) (page : P) → Q found (unmarked found bytes) page
      → (let f = sniffed bytes label fallback in Q f (unmarked f bytes) page)
  of-found Q page holds = subst (λ (f : Sniffed). Q f (unmarked f bytes) page) is holds
