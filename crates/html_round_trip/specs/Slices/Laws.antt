-- The laws of reading written forms back.
use Rattle.std.specs.Prelude.{◌≡◌, ℕ, ◌+◌, Bool, true, List, [], ◌∷◌, ◌++◌, Option, Some, Result}
use Rattle.std.specs.List.{list_all}
use Rattle.markup.specs.declared.attributes.Attribute.{Attribute}
use Rattle.html_tokens.specs.declared.replies.TokenSinkResult.{TokenSinkResult}
use Rattle.html_tokens.specs.declared.replies.TokenSinkResult.TheVariants.{Continue, RawData}
use Rattle.html_tokens.specs.declared.states.RawKind.TheVariants.{Rcdata}
use Rattle.html_tokens.specs.declared.token.Token.{Token}
use Rattle.html_tokens.specs.declared.token.Token.TheVariants.{CharacterTokens, CommentToken}
use Rattle.html_tokens.specs.Item.{Fault, Stand}
use Rattle.html_tokens.specs.Laws.{ReadsEscapes, in_data, is_not_null, has_no_null}
use Rattle.html_tokens.specs.Notes.{Notes, noting, noting_error, noting_cdata, noting_end}
use Rattle.html_tokens.specs.Reading.{◌>>=◌, reading, line_breaks}
use Rattle.html_tokens.specs.Table.{Row}
use Rattle.html_round_trip.specs.Slices.Forms.{start_token, end_token, doctype_token, is_tag_name, is_letter_name}
use Rattle.html_round_trip.specs.Slices.Forms.{is_read_comment, AreReadBack, has_no_return, in_rcdata, TextPlace, in_text}
use Rattle.html_round_trip.specs.Slices.Slices.{IsSpelled, IsToken, IsCleanToken, Takes, IsReader, OfReaders}
use Rattle.markup.specs.Escape.{end_tag, escape, escape_value, escaped, start_tag, written_comment, written_doctype}
use Rattle.std.specs.Prelude.{codes}

-- the written forms, each with where it stands, its token, and where the reading goes on, where P holds of each
pub record EachForm (P : Stand → List ℕ → Token → Stand → Type 0) : Type 0 where
  pub doctype : (last : Option (List ℕ)) → P (in_data last) (written_doctype (codes "html")) (doctype_token (codes "html")) (in_data last)
  pub start : (last : Option (List ℕ)) (name : List ℕ) (attrs : List Attribute) → is_tag_name name ≡ true → AreReadBack attrs
      → P (in_data last) (start_tag name attrs) (start_token name attrs) (in_data (Some name))
  pub end : (last : Option (List ℕ)) (name : List ℕ) → is_tag_name name ≡ true → P (in_data last) (end_tag name)
      (end_token name) (in_data last)
  pub fitting_end : (name : List ℕ) → is_letter_name name ≡ true → P (in_rcdata (Some name)) (end_tag name)
      (end_token name) (in_data (Some name))
  pub comment : (last : Option (List ℕ)) (text : List ℕ) → is_read_comment text ≡ true
      → P (in_data last) (written_comment text) (CommentToken text) (in_data last)
  pub character : (place : TextPlace) (last : Option (List ℕ)) (c : ℕ) → is_not_null c ≡ true
      → P (in_text place last) (escaped c) (CharacterTokens (c ∷ [])) (in_text place last)

-- by a table that reads the references of escaping each written form spells its token
abbrev pub AreFormsSpelled : Type 0
AreFormsSpelled = (rows : List Row) → ReadsEscapes rows → EachForm (IsSpelled rows)

-- each is read as its token, whatever a fault makes of the sink, so none is met
abbrev pub AreFormsRead : {S H F : Type 0} → (S → Token → ℕ → Result (S × TokenSinkResult H) F) → (S → Bool) → (S → S) → Type 0
AreFormsRead {S} step cdata ends = (erred : Fault → S → S) (rows : List Row) → ReadsEscapes rows
    → EachForm (IsToken step erred cdata ends rows)

-- the same where is noted what is not quiet
abbrev pub AreFormsNoted : {S H F : Type 0} → (S → Token → ℕ → Result (S × TokenSinkResult H) F)
    → (S → Token → Bool) → (S → Bool) → (S → S) → Type 0
AreFormsNoted step quiet cdata ends = (rows : List Row) → ReadsEscapes rows
    → EachForm (IsToken (noting step quiet) noting_error (noting_cdata cdata) (noting_end ends) rows)

-- each is clean
abbrev pub AreFormsClean : {S H F : Type 0} → (S → Token → ℕ → Result (S × TokenSinkResult H) F)
    → (S → Token → Bool) → (S → Bool) → (S → S) → Type 0
AreFormsClean step quiet cdata ends = (rows : List Row) → ReadsEscapes rows → EachForm (IsCleanToken step quiet cdata ends rows)

-- a reading, one of which something is noted and the test for clean text take each slice that spells a token as that token
abbrev pub AreReaders : {S H F : Type 0} → (S → Token → ℕ → Result (S × TokenSinkResult H) F) → (S → Token → Bool)
    → (S → Bool) → (S → S) → Type 0
AreReaders step quiet cdata ends = (rows : List Row) → OfReaders step quiet cdata ends rows
    (λ X read. IsReader step quiet cdata ends rows read)

-- escaped text without U+0000, read in data or in the text of a title from a sound state, is told as that text, on whatever line
abbrev pub IsTextRead : {S H F : Type 0} → (S → Type 0) → (S → Token → ℕ → Result (S × TokenSinkResult H) F)
    → (Fault → S → S) → (S → Bool) → (S → S) → List Row → Type 0
IsTextRead {S} is_sound step erred cdata ends rows =
    (place : TextPlace) (last : Option (List ℕ)) (breaks : ℕ) (s : S) → is_sound s → (c : ℕ) (cs t : List ℕ)
    (line : ℕ) → has_no_null (c ∷ cs) ≡ true
    → reading step erred cdata ends rows (in_text place last) breaks s (escape (c ∷ cs) ++ t)
    ≡ (step s (CharacterTokens (c ∷ cs)) line >>= λ p. reading step erred cdata ends rows (in_text place last)
    (breaks + line_breaks (escape (c ∷ cs))) p.0 t)

abbrev pub AreTextsRead : {S H F : Type 0} → (S → Type 0) → (S → Token → ℕ → Result (S × TokenSinkResult H) F)
    → (S → Bool) → (S → S) → Type 0
AreTextsRead {S} is_sound step cdata ends = (erred : Fault → S → S) (rows : List Row) → ReadsEscapes rows
    → IsTextRead is_sound step erred cdata ends rows

-- the same where is noted what is not quiet
abbrev pub AreTextsNoted : {S H F : Type 0} → (S → Type 0) → (S → Token → ℕ → Result (S × TokenSinkResult H) F)
    → (S → Token → Bool) → (S → Bool) → (S → S) → Type 0
AreTextsNoted {S} {H} is_sound step quiet cdata ends =
    (rows : List Row) → ReadsEscapes rows → IsTextRead (λ (s : S × Notes H). is_sound s.0) (noting step quiet)
    noting_error (noting_cdata cdata) (noting_end ends) rows

-- states that text builds up, character by character, on whatever line
abbrev pub IsTextState : {S H F : Type 0} → (S → Token → ℕ → Result (S × TokenSinkResult H) F) → (S → Token → Bool)
    → (S → Bool) → (S → S) → List Row → (List ℕ → S) → Type 0
IsTextState step quiet cdata ends rows state = (a : List ℕ) (c line : ℕ) → Takes step quiet cdata ends rows
    (state a) (CharacterTokens (c ∷ [])) line (state (a ++ c ∷ [])) Continue

-- escaped text without U+0000 is read by a reader from state to state
abbrev pub IsTextTaken : {S H F X : Type 0} → (S → Token → ℕ → Result (S × TokenSinkResult H) F)
    → (S → Token → Bool) → (S → Bool) → (S → S) → List Row → (Stand → ℕ → S → List ℕ → X) → Type 0
IsTextTaken {S} step quiet cdata ends rows read =
    (state : List ℕ → S) → IsTextState step quiet cdata ends rows state → (place : TextPlace)
    (last : Option (List ℕ)) (cs a : List ℕ) → has_no_null cs ≡ true → (breaks : ℕ) (t : List ℕ)
    → read (in_text place last) breaks (state a) (escape cs ++ t) ≡ read (in_text place last)
    (breaks + line_breaks (escape cs)) (state (a ++ cs)) t

-- A whole element as "title": its start tag is answered by RCDATA, its text builds up states, and its end tag is taken. It is read
-- to the state after that.
abbrev pub IsTitleTaken : {S H F X : Type 0} → (S → Token → ℕ → Result (S × TokenSinkResult H) F)
    → (S → Token → Bool) → (S → Bool) → (S → S) → List Row → (Stand → ℕ → S → List ℕ → X) → Type 0
IsTitleTaken {S} step quiet cdata ends rows read =
    (name : List ℕ) → is_letter_name name ≡ true → (attrs : List Attribute) → AreReadBack attrs → (cs : List ℕ) → has_no_null cs ≡ true
    → (s new : S) (state : List ℕ → S)
    → ((line : ℕ) → Takes step quiet cdata ends rows s (start_token name attrs) line (state []) (RawData Rcdata))
    → IsTextState step quiet cdata ends rows state
    → ((line : ℕ) → Takes step quiet cdata ends rows (state cs) (end_token name) line new Continue)
    → (last : Option (List ℕ)) (breaks : ℕ) (t : List ℕ)
    → let written = start_tag name attrs ++ (escape cs ++ end_tag name) in read (in_data last) breaks s
    (written ++ t) ≡ read (in_data (Some name)) (breaks + line_breaks written) new t

-- each of the three readers reads such texts and such elements
abbrev pub AreTitlesRead : {S H F : Type 0} → (S → Token → ℕ → Result (S × TokenSinkResult H) F)
    → (S → Token → Bool) → (S → Bool) → (S → S) → Type 0
AreTitlesRead step quiet cdata ends =
    (rows : List Row) → ReadsEscapes rows → OfReaders step quiet cdata ends rows
    (λ X read. IsTextTaken step quiet cdata ends rows read × IsTitleTaken step quiet cdata ends rows read)

-- written forms of texts without U+000D have none, so what is written is its own normal text
pub record AreFormsNormal : Type 0 where
  pub start : (name : List ℕ) (attrs : List Attribute) → is_tag_name name ≡ true → AreReadBack attrs
      → list_all (λ a. has_no_return a.value) attrs ≡ true → has_no_return (start_tag name attrs) ≡ true
  pub end : (name : List ℕ) → is_tag_name name ≡ true → has_no_return (end_tag name) ≡ true
  pub comment : (text : List ℕ) → has_no_return text ≡ true → has_no_return (written_comment text) ≡ true
  pub text : (cs : List ℕ) → has_no_return cs ≡ true → has_no_return (escape cs) ≡ true
  pub value : (cs : List ℕ) → has_no_return cs ≡ true → has_no_return (escape_value cs) ≡ true
