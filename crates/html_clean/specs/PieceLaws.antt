-- The laws of pieces.
use Rattle.std.specs.Prelude.{◌≡◌, ℕ, ◌+◌, Bool, true, List, ◌++◌, Option, Result, IfOk}
use Rattle.markup.specs.declared.attributes.Attribute.{Attribute}
use Rattle.html_tokens.specs.declared.replies.TokenSinkResult.{TokenSinkResult}
use Rattle.html_tokens.specs.declared.replies.TokenSinkResult.TheVariants.{Continue}
use Rattle.html_tokens.specs.declared.token.Token.{Token}
use Rattle.html_tokens.specs.Item.{Fault}
use Rattle.html_tokens.specs.Laws.{ReadsEscapes, in_data}
use Rattle.html_tokens.specs.Reading.{◌>>=◌, reading, line_breaks}
use Rattle.html_tokens.specs.Table.{Row}
use Rattle.html_round_trip.specs.Slices.Forms.{end_token, has_no_return, start_token}
use Rattle.html_clean.specs.Pieces.{Piece, are_read_pieces, last_after, telling, written_pieces}

-- a sink that answers tags of these names by that data goes on after them, in each sound state that takes the tag
pub record GoesOn {S H F : Type 0} (is_sound : S → Type 0) (step : S → Token → ℕ → Result (S × TokenSinkResult H) F)
    (named : List ℕ → Bool) : Type 0 where
  pub starts : (s : S) → is_sound s → (name : List ℕ) → named name ≡ true → (attributes : List Attribute) (line : ℕ)
      → IfOk (step s (start_token name attributes) line) (λ p. p.1 ≡ Continue)
  pub ends : (s : S) → is_sound s → (name : List ℕ) → named name ≡ true → (line : ℕ)
      → IfOk (step s (end_token name) line) (λ p. p.1 ≡ Continue)

-- Written pieces, read in data from a sound state, are told as just these pieces; then what follows is read, in data again. This holds
-- whatever follows, whatever the sink's state is, however it answers the CDATA question, and whatever a fault makes of it.
abbrev pub ArePiecesRead : {S H F : Type 0} → (S → Type 0) → (S → Token → ℕ → Result (S × TokenSinkResult H) F)
    → (S → Bool) → (S → S) → Type 0
ArePiecesRead {S} is_sound step cdata ends =
    (named : List ℕ → Bool) → GoesOn is_sound step named → (erred : Fault → S → S) (rows : List Row) → ReadsEscapes rows
    → (pieces : List Piece) → are_read_pieces named pieces ≡ true → (last : Option (List ℕ)) (breaks : ℕ) (s : S)
    → is_sound s → (t : List ℕ)
    → reading step erred cdata ends rows (in_data last) breaks s (written_pieces pieces ++ t)
    ≡ (telling step breaks s pieces >>= λ told. reading step erred cdata ends rows
    (in_data (last_after last pieces)) (breaks + line_breaks (written_pieces pieces)) told t)

-- written pieces have no carriage return, so normalising line ends changes nothing in them
abbrev pub ArePiecesNormal : Type 0
ArePiecesNormal = (named : List ℕ → Bool) (pieces : List Piece) → are_read_pieces named pieces ≡ true
    → has_no_return (written_pieces pieces) ≡ true
