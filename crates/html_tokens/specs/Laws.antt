-- What holds of the definitions whatever the text is.
use Rattle.std.specs.Prelude.{◌≡◌, ℕ, ◌+◌, ◌≤◌, Bool, nat_eq, List, [], ◌∷◌, ◌++◌, length, drop, codes, Option, Some, Result}
use Rattle.std.specs.Prelude.{IfOk, IfSome, false, true, not, ◌&&◌}
use Rattle.std.specs.List.{list_all}
pub use Rattle.markup.specs.Attributes.{are_distinct}
use Rattle.html_tokens.specs.declared.tags.Tag.{Tag}
use Rattle.html_tokens.specs.Characters.{lowered}
use Rattle.html_tokens.specs.Tags.{attribute, has_attribute, with_attribute}
use Rattle.html_tokens.specs.declared.replies.TokenSinkResult.{TokenSinkResult}
use Rattle.html_tokens.specs.declared.replies.TokenSinkResult.TheVariants.{Continue}
use Rattle.html_tokens.specs.declared.token.Token.{Token}
use Rattle.html_tokens.specs.declared.token.Token.TheVariants.{DoctypeToken, TagToken, CommentToken, CharacterTokens}
use Rattle.html_tokens.specs.declared.token.Token.TheVariants.{NullCharacterToken, EOFToken, ParseError}
use Rattle.html_tokens.specs.Item.{Fault, TextPlace, InData, InRaw, InPlaintext, InCdata, InTag, Stand, Item}
use Rattle.html_tokens.specs.Items.{item}
use Rattle.html_tokens.specs.Clean.{is_clean_reading}
use Rattle.html_tokens.specs.Notes.{Notes, noted_reading, owed, is_quiet_reading, without_notes}
use Rattle.html_tokens.specs.NormalText.{newlines_after}
use Rattle.html_tokens.specs.Reading.{◌>>=◌, reading, reading_from, play, line_breaks}
use Rattle.html_tokens.specs.Reference.{reference_at}
use Rattle.html_tokens.specs.Table.{Row, values}

-- an item takes a character at least, and its slice stands at the front of the text
abbrev pub IsItemInText : Type 0
IsItemInText =
    (rows : List Row) (cdata : Bool) (st : Stand) (c : ℕ) (t : List ℕ)
    → (1 ≤ (item rows cdata st c t).len) × ((item rows cdata st c t).len ≤ length (c ∷ t))

-- reading a text is reading its first item, told on the line of its slice's end, and then what follows
abbrev pub IsReadByItems : {S H F : Type 0} → (S → Token → ℕ → Result (S × TokenSinkResult H) F) → (S → Bool) → (S → S) → Type 0
IsReadByItems {S} step cdata ends =
    (erred : Fault → S → S) (rows : List Row) (st : Stand) (breaks : ℕ) (s : S) (c : ℕ) (t : List ℕ)
    → reading step erred cdata ends rows st breaks s (c ∷ t) ≡ play step erred cdata ends rows (item rows (cdata s) st c t) breaks s (c ∷ t)

-- a reading may be cut anywhere: after as many characters as an item took, it goes on as for what is left
abbrev pub IsSkipped : {S H F : Type 0} → (S → Token → ℕ → Result (S × TokenSinkResult H) F) → (S → Bool) → (S → S) → Type 0
IsSkipped {S} step cdata ends =
    (erred : Fault → S → S) (rows : List Row) (n : ℕ) (st : Stand) (breaks : ℕ) (s : S) (t : List ℕ)
    → reading_from step erred cdata ends rows n st breaks s t ≡ reading step erred cdata ends rows st breaks s (drop n t)

-- whether a text, after a carriage return or after none, ends in one
abbrev pub ends_in_return : Bool → List ℕ → Bool
ends_in_return cr [] = cr
ends_in_return cr (c ∷ t) = ends_in_return (nat_eq c 13) t

-- a text in two pieces has the line breaks of the whole, also where it is cut between CR and LF
abbrev pub AreNewlinesJoined : Type 0
AreNewlinesJoined = (cr : Bool) (a b : List ℕ) → newlines_after cr (a ++ b) ≡ newlines_after cr a ++ newlines_after (ends_in_return cr a) b

-- the normalised text of pieces, each after the carriage return that the pieces before it end in
abbrev pub newlines_of_pieces : Bool → List (List ℕ) → List ℕ
newlines_of_pieces cr [] = []
newlines_of_pieces cr (piece ∷ pieces) = newlines_after cr piece ++ newlines_of_pieces (ends_in_return cr piece) pieces

abbrev pub flatten : List (List ℕ) → List ℕ
flatten [] = []
flatten (piece ∷ pieces) = piece ++ flatten pieces

-- two lists of pieces with one joined text have one normalised text, and so one reading
abbrev pub IsCutAnywhere : Type 0
IsCutAnywhere = (cr : Bool) (ps qs : List (List ℕ)) → flatten ps ≡ flatten qs → newlines_of_pieces cr ps ≡ newlines_of_pieces cr qs

-- from sound states text in two pieces is as in one, on whatever line, leads to sound states, and gets no reply but to go on
pub record JoinsText {S H F : Type 0} (is_sound : S → Type 0) (step : S → Token → ℕ → Result (S × TokenSinkResult H) F) : Type 0 where
  pub keeps : (s : S) → is_sound s → (a : List ℕ) (k : ℕ) → IfOk (step s (CharacterTokens a) k) (λ p. is_sound p.0)
  pub pieces : (s : S) → is_sound s → (a b : List ℕ) (k l m : ℕ)
      → (step s (CharacterTokens a) k >>= λ p. step p.0 (CharacterTokens b) l) ≡ step s (CharacterTokens (a ++ b)) m
  pub goes_on : (s : S) → is_sound s → (a : List ℕ) (k : ℕ) → IfOk (step s (CharacterTokens a) k) (λ p. p.1 ≡ Continue)

-- a character of data that is itself: not "<", "&" or U+0000
abbrev pub is_itself : ℕ → Bool
is_itself c = not (nat_eq c 60) && not (nat_eq c 38) && not (nat_eq c 0)

abbrev pub in_data : Option (List ℕ) → Stand
in_data last = record { place = InData; last_start_tag = last }

-- from a sound state a run of such characters is read as one text, so it is nothing to a reading where the run is cut
abbrev pub IsRunOneText : {S H F : Type 0} → (S → Type 0) → (S → Token → ℕ → Result (S × TokenSinkResult H) F)
    → (S → Bool) → (S → S) → Type 0
IsRunOneText {S} is_sound step cdata ends =
    (erred : Fault → S → S) (rows : List Row) (last : Option (List ℕ)) (breaks : ℕ) (s : S) → is_sound s
    → (c : ℕ) (front t : List ℕ) (line : ℕ) → list_all is_itself (c ∷ front) ≡ true
    → reading step erred cdata ends rows (in_data last) breaks s ((c ∷ front) ++ t)
    ≡ (step s (CharacterTokens (c ∷ front)) line >>= λ p. reading step erred cdata ends rows (in_data last)
    (breaks + line_breaks (c ∷ front)) p.0 t)

-- a text that is read without anything that is not clean owes no error, and is quiet
abbrev pub IsCleanQuiet : {S H F : Type 0} → (S → Token → ℕ → Result (S × TokenSinkResult H) F) → (S → Token → Bool)
    → (S → Bool) → (S → S) → Type 0
IsCleanQuiet {S} step quiet cdata ends =
    (rows : List Row) (st : Stand) (breaks : ℕ) (s : S) (t : List ℕ) → is_clean_reading step quiet cdata rows st breaks s t ≡ true
    → (owed step quiet cdata ends rows st breaks s t ≡ 0) × (is_quiet_reading step quiet cdata ends rows st breaks s t ≡ true)

-- a reading of which something is noted is the reading, without what was noted
abbrev pub IsNotedReadAlike : {S H F : Type 0} → (S → Token → ℕ → Result (S × TokenSinkResult H) F)
    → (S → Token → Bool) → (S → Bool) → (S → S) → Type 0
IsNotedReadAlike {S} {H} step quiet cdata ends =
    (rows : List Row) (st : Stand) (breaks : ℕ) (s : S) (notes : Notes H) (t : List ℕ)
    → without_notes (noted_reading step quiet cdata ends rows st breaks (s, notes) t) ≡ reading step
    (λ fault s. s) cdata ends rows st breaks s t

-- the references that escaping writes are read by a table as their characters, in text and in a value
pub record ReadsEscapes (rows : List Row) : Type 0 where
  pub amp : (in_value : Bool) (t : List ℕ) → reference_at in_value rows (codes "amp;" ++ t) ≡ Some (record { chars = 38 ∷ []; len = 4 })
  pub lt : (in_value : Bool) (t : List ℕ) → reference_at in_value rows (codes "lt;" ++ t) ≡ Some (record { chars = 60 ∷ []; len = 3 })
  pub gt : (in_value : Bool) (t : List ℕ) → reference_at in_value rows (codes "gt;" ++ t) ≡ Some (record { chars = 62 ∷ []; len = 3 })
  pub quot : (in_value : Bool) (t : List ℕ) → reference_at in_value rows (codes "quot;" ++ t) ≡ Some (record { chars = 34 ∷ []; len = 5 })
  pub nbsp : (in_value : Bool) (t : List ℕ) → reference_at in_value rows (codes "nbsp;" ++ t) ≡ Some (record { chars = 0xA0 ∷ []; len = 5 })

abbrev pub is_not_null : ℕ → Bool
is_not_null c = not (nat_eq c 0)

-- text without a carriage return is its own normalised text
abbrev pub IsOwnNormalText : Type 0
IsOwnNormalText = (t : List ℕ) → list_all (λ c. not (nat_eq c 13)) t ≡ true → newlines_after false t ≡ t

abbrev pub has_no_null : List ℕ → Bool
has_no_null cs = list_all is_not_null cs

-- a name that is not empty and has no ASCII letter in upper case and no U+0000
abbrev pub is_lowered_name : List ℕ → Bool
is_lowered_name [] = false
is_lowered_name (c ∷ cs) = list_all (λ d. nat_eq (lowered d) d) (c ∷ cs)

-- what holds of each token that a reading tells
abbrev pub IsSoundToken : Token → Type 0
IsSoundToken (DoctypeToken d) = Unit {0}
IsSoundToken (TagToken tag) = (is_lowered_name tag.name ≡ true) × (are_distinct tag.attrs ≡ true)
IsSoundToken (CommentToken cs) = Unit {0}
IsSoundToken (CharacterTokens cs) = has_no_null cs ≡ true
IsSoundToken NullCharacterToken = Unit {0}
IsSoundToken EOFToken = Unit {0}
IsSoundToken (ParseError message) = Unit {0}

-- a tag that is being read
abbrev pub IsSoundPlace : TextPlace → Type 0
IsSoundPlace InData = Unit {0}
IsSoundPlace (InRaw kind) = Unit {0}
IsSoundPlace InPlaintext = Unit {0}
IsSoundPlace InCdata = Unit {0}
IsSoundPlace (InTag tag) = IsSoundToken (TagToken tag)

-- a table whose values are not 0
abbrev pub has_values : List Row → Bool
has_values rows = list_all (λ row. has_no_null (values row)) rows

abbrev pub IsSoundItem : Item → Type 0
IsSoundItem i = IfSome i.token IsSoundToken × IsSoundPlace i.next.place

-- no text holds U+0000, a tag's name is not empty and lowered, and its attributes have distinct names
abbrev pub IsEachTokenSound : Type 0
IsEachTokenSound =
    (rows : List Row) (cdata : Bool) (st : Stand) (c : ℕ) (t : List ℕ)
    → has_values rows ≡ true → IsSoundPlace st.place → IsSoundItem (item rows cdata st c t)

-- of attributes of one name the first stays
abbrev pub IsFirstKept : Type 0
IsFirstKept =
    (tag : Tag) (name value : List ℕ)
    → (has_attribute tag name ≡ true → (with_attribute tag name value).attrs ≡ tag.attrs)
    × (has_attribute tag name ≡ false → (with_attribute tag name value).attrs ≡ tag.attrs ++ attribute name value ∷ [])

-- line breaks add up, so the line of a token is one more than those up to its slice's end
abbrev pub AreLinesCounted : Type 0
AreLinesCounted = (a b : List ℕ) → line_breaks (a ++ b) ≡ line_breaks a + line_breaks b
