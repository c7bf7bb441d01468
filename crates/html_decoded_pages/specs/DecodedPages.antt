-- Pages in any encoding, and what they are read as (HTML Standard, section 13.2.3).
use Rattle.std.specs.declared.alloc.Global.{Global}
use Rattle.std.specs.Prelude.{◌≡◌, ℕ, ◌-◌, ◌^◌, min, true, false, List, String, drop, encode_utf8_all, string_bytes}
use Rattle.std.specs.Str.{chars}
use Rattle.markup.specs.Forest.{Forest}
use Rattle.html_tokens.specs.Table.{Row}
use Rattle.html_encodings.specs.Decoders.{decoding}
use Rattle.html_encodings.specs.Handlers.{error_count}
use Rattle.html_encodings.specs.declared.names.Encoding.{Encoding}
use Rattle.html_encodings.specs.declared.sniffing.Sniffed.{Sniffed}
use Rattle.html_encodings_multibyte.specs.Every.{decoded, every_end, every_start, every_step}
use Rattle.html_pages.specs.Pages.{IsPage}
use Rattle.html_places.specs.Noted.{IsPlaced}
use Rattle.html_places.specs.declared.noted.NotedForest.{NotedForest}
use Rattle.html_decoded_pages.specs.Changing.{is_tentative, named_in, settled, settled_if}
use Rattle.html_decoded_pages.specs.declared.page.DecodedPage.{DecodedPage}
use Rattle.html_decoded_pages.specs.declared.parsing.Parsed.{Parsed}
use Rattle.html_decoded_pages.specs.declared.parsing.Parsed.TheVariants.{Other, Whole}

-- the text that bytes are in an encoding, in UTF-8
abbrev pub text_in : Encoding → List ℕ → List ℕ
text_in encoding bytes = encode_utf8_all (decoded encoding bytes)

-- so many errors they have in it, up to the greatest number
abbrev pub errors_in : Encoding → List ℕ → ℕ
errors_in encoding bytes = min (error_count (decoding every_step every_end (every_start encoding) bytes)) (2 ^ 64 - 1)

-- the bytes of a page after its byte order mark
abbrev pub unmarked : Sniffed → List ℕ → List ℕ
unmarked found bytes = drop found.mark_length bytes

-- the encoding in which a page is read: the one that was found, unless it is tentative and a `meta` of the document that it makes says
-- otherwise
abbrev pub encoding_of : List Row → Sniffed → List ℕ → Encoding
encoding_of table found bytes = settled_if (is_tentative found.why) found.encoding (named_in table (text_in found.encoding bytes))

module _ {T : Type 0} (Is : List ℕ → T → Type 0) where
  -- Bytes, without a mark, were found to be in an encoding; they are read in one, and this was made of their text.
  pub record IsDecoded (table : List Row) (found : Sniffed) (bytes : List ℕ) (page : DecodedPage T) : Type 0 where
    pub sniffed : page.sniffed ≡ found
    pub encoding : page.encoding ≡ encoding_of table found bytes
    pub errors : page.errors ≡ errors_in page.encoding bytes
    pub content : Is (text_in page.encoding bytes) page.content

  -- A text in UTF-8 that was decoded by an encoding is read in it, and this was made of it; or it is to be read in another.
  unfoldable pub IsParsedPage : List Row → List ℕ → Encoding → Parsed T → Type 0
  IsParsedPage table text encoding (Whole made) = Is text made × (settled encoding (named_in table text) ≡ encoding)
  IsParsedPage table text encoding (Other other) = settled encoding (named_in table text) ≡ other

-- a string is a text
abbrev pub IsTextOf : List ℕ → String Global → Type 0
IsTextOf text string = string_bytes string ≡ text

-- a forest that keeps its errors is the document of a text, and has the places of its nodes and errors in it
abbrev pub IsNotedPage : List Row → List ℕ → NotedForest → Type 0
IsNotedPage table text noted = IsPage table true text noted.forest × IsPlaced (chars text) noted

abbrev pub IsDecodedText : List Row → Sniffed → List ℕ → DecodedPage (String Global) → Type 0
IsDecodedText table found bytes page = IsDecoded IsTextOf table found bytes page

abbrev pub IsDecodedDocument : List Row → Sniffed → List ℕ → DecodedPage Forest → Type 0
IsDecodedDocument table found bytes page = IsDecoded (IsPage table false) table found bytes page

abbrev pub IsDecodedNoted : List Row → Sniffed → List ℕ → DecodedPage NotedForest → Type 0
IsDecodedNoted table found bytes page = IsDecoded (IsNotedPage table) table found bytes page
