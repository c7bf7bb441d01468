-- Which items tell no error under the default options, and which readings.
use Rattle.std.specs.Prelude.{ℕ, zero, suc, ◌+◌, ◌-◌, Bool, true, false, ◌||◌, ◌&&◌, not, nat_eq, nat_le, List, [], ◌∷◌, take}
use Rattle.std.specs.Prelude.{drop, codes, Option, Some, None, is_none, Result, Ok, Err}
use Rattle.std.specs.Char.{is_ascii_lowercase, is_ascii_digit}
use Rattle.std.specs.List.{list_any}
use Rattle.html_tokens.specs.declared.replies.TokenSinkResult.{TokenSinkResult}
use Rattle.html_tokens.specs.declared.tags.Tag.{Tag}
use Rattle.html_tokens.specs.declared.tags.TagKind.{TagKind}
use Rattle.html_tokens.specs.declared.tags.TagKind.TheVariants.{StartTag, EndTag}
use Rattle.html_tokens.specs.declared.token.Token.{Token}
use Rattle.html_tokens.specs.declared.token.Token.TheVariants.{EOFToken}
use Rattle.html_tokens.specs.Characters.{ends_word, run, white, begins}
use Rattle.html_tokens.specs.Table.{Row, longest}
use Rattle.html_tokens.specs.Item.{TextPlace, InData, InRaw, InPlaintext, InCdata, InTag, Stand, fault_at_end}
use Rattle.html_tokens.specs.Items.{item, Opening as Markup, Letter, Slash, Mark, Question, Close, Other, opening}
use Rattle.html_tokens.specs.Tags.{Part, Space, Solidus, End, Attributes, part, has_attribute, is_faulty_tag}
use Rattle.html_tokens.specs.Reference.{ends_in_semicolon}
use Rattle.html_tokens.specs.RawText.{is_fitting_end, ends_at_tag}
use Rattle.html_tokens.specs.Reading.{said, next_stand, line_breaks}

-- a lower-case ASCII letter, a digit or a hyphen
abbrev pub is_clean_in_name : ℕ → Bool
is_clean_in_name c = is_ascii_lowercase c || is_ascii_digit c || nat_eq c 45

abbrev pub clean_name : List ℕ → ℕ
clean_name t = run (λ c. not (is_clean_in_name c)) t

-- white space or ">" at the front
abbrev pub is_word_end : List ℕ → Bool
is_word_end [] = false
is_word_end (c ∷ t) = ends_word c

-- a name of such characters, and white space or ">" after it
abbrev pub is_clean_name : List ℕ → Bool
is_clean_name t = nat_le 1 (clean_name t) && is_word_end (drop (clean_name t) t)

-- a name without a double quote, which would end a value
abbrev pub lacks_quote : Option Row → Bool
lacks_quote None = true
lacks_quote (Some row) = not (list_any (nat_eq 34) row.name)

-- a named reference with ";" and without a double quote after "&"
abbrev pub is_named : List Row → List ℕ → Bool
is_named rows [] = false
is_named rows (c ∷ t) =
    let row = longest rows (c ∷ t) in
    not (nat_eq c 35) && ends_in_semicolon row && lacks_quote row

-- a character of text or of a value that tells nothing: no "<", no U+0000, and "&" only as the beginning of a named reference with ";"
abbrev pub is_clean_text : List Row → ℕ → List ℕ → Bool
is_clean_text rows c t = not (nat_eq c 60) && not (nat_eq c 0) && (not (nat_eq c 38) || is_named rows t)

abbrev pub clean_value_by : Bool → Bool → List ℕ → (Unit {0} → Bool) → Bool
clean_value_by true clean t go = is_word_end t
clean_value_by false true t go = go tt
clean_value_by false false t go = false

-- the rest of a value in double quotes, with white space or ">" after it
abbrev pub is_clean_value : List Row → List ℕ → Bool
is_clean_value rows [] = false
is_clean_value rows (c ∷ t) = clean_value_by (nat_eq c 34) (is_clean_text rows c t) t (λ _. is_clean_value rows t)

-- a clean value in double quotes
abbrev pub is_clean_opening : List Row → List ℕ → Bool
is_clean_opening rows [] = false
is_clean_opening rows (c ∷ t) = nat_eq c 34 && is_clean_value rows t

abbrev pub clean_equals_by : Bool → List Row → List ℕ → Bool
clean_equals_by true rows t =
    let u = drop (suc (white t)) t in
    is_clean_opening rows (drop (white u) u)
clean_equals_by false rows t = true

-- after an attribute's name: no value, or "=" and a clean one, where white space may stand
abbrev pub is_clean_equals : List Row → List ℕ → Bool
is_clean_equals rows t = clean_equals_by (begins (codes "=") (drop (white t) t)) rows t

-- white space, ">" or "=" at the front
abbrev pub ends_clean_name : List ℕ → Bool
ends_clean_name [] = false
ends_clean_name (c ∷ t) = ends_word c || nat_eq c 61

-- an attribute with a clean name that the tag lacks, without a value or with one in double quotes
abbrev pub is_clean_attribute : List Row → Tag → List ℕ → Bool
is_clean_attribute rows tag t =
    let n = clean_name t in
    nat_le 1 n && ends_clean_name (drop n t) && not (has_attribute tag (take n t)) && is_clean_equals rows (drop n t)

abbrev pub is_clean_part : Part → TagKind → List Row → Tag → List ℕ → Bool
is_clean_part Space kind rows tag t = true
is_clean_part Solidus kind rows tag t = false
is_clean_part End kind rows tag t = not (is_faulty_tag tag)
is_clean_part Attributes StartTag rows tag t = is_clean_attribute rows tag t
is_clean_part Attributes EndTag rows tag t = false

abbrev pub is_clean_end : List ℕ → Bool
is_clean_end [] = false
is_clean_end (c ∷ t) = is_ascii_lowercase c && is_clean_name (c ∷ t)

-- a character of a comment that tells nothing: no hyphen, "<", ">" or U+0000
abbrev pub is_clean_in_comment : ℕ → Bool
is_clean_in_comment c = not (nat_eq c 45) && not (nat_eq c 60) && not (nat_eq c 62) && not (nat_eq c 0)

abbrev pub clean_comment : List ℕ → ℕ
clean_comment t = run (λ c. not (is_clean_in_comment c)) t

-- after "<!--": such characters or none, and "-->"
abbrev pub is_clean_comment : List ℕ → Bool
is_clean_comment t = begins (codes "-->") (drop (clean_comment t) t)

-- after "<": a comment, or the doctype
abbrev pub is_clean_declaration : List ℕ → Bool
is_clean_declaration t = begins (codes "!DOCTYPE html>") t || (begins (codes "!--") t && is_clean_comment (drop 3 t))

abbrev pub is_clean_open : Markup → List ℕ → Bool
is_clean_open Letter t = is_clean_end t
is_clean_open Slash t = is_clean_end (drop 1 t)
is_clean_open Mark t = is_clean_declaration t
is_clean_open Question t = false
is_clean_open Close t = false
is_clean_open Other t = false

-- after "<": a tag whose name is clean, a clean comment, or the doctype
abbrev pub is_clean_markup : List ℕ → Bool
is_clean_markup [] = false
is_clean_markup (c ∷ t) = is_clean_open (opening c) (c ∷ t)

abbrev pub is_clean_in : TextPlace → List Row → Stand → ℕ → List ℕ → Bool
is_clean_in InData rows st c t = is_clean_text rows c t || (nat_eq c 60 && is_clean_markup t)
is_clean_in (InRaw kind) rows st c t = is_clean_text rows c t
    || (nat_eq c 60 && ends_at_tag kind && is_fitting_end st.last_start_tag t && is_clean_end (drop 1 t))
is_clean_in InPlaintext rows st c t = is_clean_text rows c t
is_clean_in InCdata rows st c t = false
is_clean_in (InTag tag) rows st c t = is_clean_part (part c) tag.kind rows tag (c ∷ t)

-- whether the item at the front of a text is clean
abbrev pub is_clean : List Row → Stand → ℕ → List ℕ → Bool
is_clean rows st c t = is_clean_in st.place rows st c t

-- whether a token, if there is one, is quiet
abbrev pub quiet_by : {S : Type 0} → (S → Token → Bool) → Option Token → S → Bool
quiet_by quiet None s = true
quiet_by quiet (Some token) s = quiet s token

module _ {S H F : Type 0} (step : S → Token → ℕ → Result (S × TokenSinkResult H) F) (quiet : S → Token → Bool)
    (cdata : S → Bool) (rows : List Row) where
  abbrev pub clean_by : Bool → Result (S × TokenSinkResult H) F → (S × TokenSinkResult H → Bool) → Bool
  clean_by false r go = false
  clean_by true (Ok p) go = go p
  clean_by true (Err e) go = true

  -- whether each item of a reading is clean after n characters, and the sink finds no error in its token, up to a refusal
  unfoldable pub clean_from : ℕ → Stand → ℕ → S → List ℕ → Bool
  clean_from n st breaks s [] = is_none (fault_at_end st.place) && quiet s EOFToken
  clean_from zero st breaks s (c ∷ t) =
      let i = item rows (cdata s) st c t in
      let read = breaks + line_breaks (take i.len (c ∷ t)) in
      clean_by (is_clean rows st c t && quiet_by quiet i.token s) (said step (λ fault s. s) i.fault i.token read s)
      (λ p. clean_from (i.len - 1) (next_stand i.next p.1) read p.0 t)
  clean_from (suc n) st breaks s (c ∷ t) = clean_from n st breaks s t

  -- whether a text is read without anything that is not clean, and without an error of the sink
  abbrev pub is_clean_reading : Stand → ℕ → S → List ℕ → Bool
  is_clean_reading st breaks s t = clean_from 0 st breaks s t
