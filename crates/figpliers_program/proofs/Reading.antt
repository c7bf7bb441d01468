-- What was made of the text of a page, from what was decoded.
use Rattle.std.proofs.Common.{◌≡◌, ◌∙◌, List, Option, ap, subst, sym, ℕ}
use Rattle.std.specs.Prelude.{String, option_map}
use Rattle.std.specs.String.{string_bytes}
use Rattle.std.specs.declared.alloc.Global.{Global}
use Rattle.figpliers.specs.Encoding.{Encoding}
use Rattle.figpliers.specs.Sniffing.{sniffed}
use Rattle.figpliers.specs.Table.{Row}
use Rattle.html_decoded_pages.specs.DecodedPages.{IsDecoded, IsDecodedText, encoding_of, text_in, unmarked}
use Rattle.html_decoded_pages.specs.DecodedPages as pages
use Rattle.html_decoded_pages.specs.declared.page.DecodedPage.{DecodedPage}
use Rattle.figpliers_program.specs.Reading.{IsFallback, IsTextOf}
use Rattle.figpliers_program.specs.declared.command.Reading.{Reading}
use Rattle.figpliers_program.specs.declared.command.Reading.TheVariants.{Found}

module _ {T : Type 0} (Is : List ℕ → T → Type 0) (table : List Row) where
  -- what was made of a page in the encoding that was found was made of its text
  made-of-found : (label : Option (String Global)) (given : Option (List ℕ)) (bytes : List ℕ) (fallback : Encoding)
      (page : DecodedPage T) → given ≡ option_map string_bytes label → IsFallback bytes fallback
      → IsDecoded Is table (sniffed bytes given fallback) (unmarked (sniffed bytes given fallback) bytes) page
      → (text : List ℕ) × IsTextOf table (Found label) bytes text × Is text page.content
  made-of-found label given bytes fallback page same is made = (
    text_in page.encoding (unmarked (sniffed bytes given fallback) bytes),
    (
      fallback,
      is,
      ap (λ e. text_in e (unmarked (sniffed bytes given fallback) bytes)) made.encoding
          ∙ ap (λ g. text_in (encoding_of table (sniffed bytes g fallback) (unmarked (sniffed bytes g fallback) bytes))
          (unmarked (sniffed bytes g fallback) bytes)) same,
    ),
    made.content,
  )

  -- the same of a page whose bytes a slice has
  pub made-in-slice : (reading : Reading) (label : Option (String Global)) (given : Option (List ℕ)) (slice bytes : List ℕ)
      (fallback : Encoding) (page : DecodedPage T) → reading ≡ Found label → given ≡ option_map string_bytes label
      → slice ≡ bytes → IsFallback slice fallback
      → IsDecoded Is table (sniffed slice given fallback) (unmarked (sniffed slice given fallback) slice) page
      → (text : List ℕ) × IsTextOf table reading bytes text × Is text page.content
  made-in-slice reading label given slice bytes fallback page reading_is same value is made =
      subst (λ (r : Reading). (text : List ℕ) × IsTextOf table r bytes text × Is text page.content) (sym reading_is)
      (subst (λ (bs : List ℕ). (text : List ℕ) × IsTextOf table (Found label) bs text × Is text page.content) value
      (made-of-found label given slice fallback page same is made))

-- a string that is the text
string-of : (table : List Row) (reading : Reading) (bytes string : List ℕ)
    → (text : List ℕ) × IsTextOf table reading bytes text × (string ≡ text) → IsTextOf table reading bytes string
string-of table reading bytes string (text, is, same) = subst (λ (t : List ℕ). IsTextOf table reading bytes t) (sym same) is

pub text-in-slice : (table : List Row) (reading : Reading) (label : Option (String Global)) (given : Option (List ℕ)) (slice bytes : List ℕ)
    (fallback : Encoding) (page : DecodedPage (String Global)) → reading ≡ Found label → given ≡ option_map string_bytes label
    → slice ≡ bytes → IsFallback slice fallback
    → IsDecodedText table (sniffed slice given fallback) (unmarked (sniffed slice given fallback) slice) page
    → IsTextOf table reading bytes (string_bytes page.content)
text-in-slice table reading label given slice bytes fallback page reading_is same value is text =
    string-of table reading bytes (string_bytes page.content)
    (made-in-slice pages.IsTextOf table reading label given slice bytes fallback page reading_is same value is text)
