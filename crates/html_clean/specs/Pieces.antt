-- Start tags, texts and end tags as they are written one after the other, and as a sink is told them.
use Rattle.std.specs.Prelude.{ℕ, ◌+◌, Bool, ◌&&◌, not, List, [], ◌∷◌, ◌++◌, Option, Some, Result, Ok}
use Rattle.std.specs.List.{list_all}
use Rattle.markup.specs.Escape.{end_tag, escape, start_tag}
use Rattle.markup.specs.declared.attributes.Attribute.{Attribute}
use Rattle.html_tokens.specs.declared.replies.TokenSinkResult.{TokenSinkResult}
use Rattle.html_tokens.specs.declared.token.Token.{Token}
use Rattle.html_tokens.specs.declared.token.Token.TheVariants.{CharacterTokens}
use Rattle.html_tokens.specs.Laws.{are_distinct, has_no_null}
use Rattle.html_tokens.specs.Reading.{◌>>=◌, line_breaks, line_number}
use Rattle.html_round_trip.specs.Slices.Forms.{end_token, has_no_return, is_no_text, is_read_attribute, is_tag_name, start_token}

pub data Piece : Type 0 where
  Start : (name : List ℕ) (attributes : List Attribute) → Piece
  Text : (text : List ℕ) → Piece
  End : (name : List ℕ) → Piece

-- AS TEXT

abbrev pub written_piece : Piece → List ℕ
written_piece (Start name attributes) = start_tag name attributes
written_piece (Text text) = escape text
written_piece (End name) = end_tag name

abbrev pub written_pieces : List Piece → List ℕ
written_pieces [] = []
written_pieces (piece ∷ rest) = written_piece piece ++ written_pieces rest

-- AS TOKENS

abbrev pub token_of : Piece → Token
token_of (Start name attributes) = start_token name attributes
token_of (Text text) = CharacterTokens text
token_of (End name) = end_token name

-- the name of the last start tag, after pieces
abbrev pub last_after : Option (List ℕ) → List Piece → Option (List ℕ)
last_after last [] = last
last_after last (Start name attributes ∷ rest) = last_after (Some name) rest
last_after last (Text text ∷ rest) = last_after last rest
last_after last (End name ∷ rest) = last_after last rest

-- what a sink becomes that is told these pieces and nothing else, each on the line of its end, after so many line breaks
abbrev pub telling : {S H F : Type 0} → (S → Token → ℕ → Result (S × TokenSinkResult H) F) → ℕ → S → List Piece → Result S F
telling step breaks s [] = Ok s
telling step breaks s (piece ∷ rest) =
    let behind = breaks + line_breaks (written_piece piece) in
    step s (token_of piece) (line_number behind) >>= λ p. telling step behind p.0 rest

-- WHICH OF THEM ARE READ BACK

-- what holds of pieces that are read back: a name of a tag, among those of which this is said; attributes of plain names, none twice,
-- without U+0000 and U+000D; a text that is not empty and has neither
abbrev pub is_read_piece : (List ℕ → Bool) → Piece → Bool
is_read_piece named (Start name attributes) =
    ((is_tag_name name && named name) && (list_all is_read_attribute attributes && are_distinct attributes))
    && list_all (λ a. has_no_return a.value) attributes
is_read_piece named (Text text) = (not (is_no_text text) && has_no_null text) && has_no_return text
is_read_piece named (End name) = is_tag_name name && named name

abbrev pub are_read_pieces : (List ℕ → Bool) → List Piece → Bool
are_read_pieces named pieces = list_all (is_read_piece named) pieces
