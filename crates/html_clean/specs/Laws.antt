-- The laws of cleaning.
use Rattle.std.specs.Prelude.{◌≡◌, ℕ, ◌+◌, Bool, true, List, [], ◌++◌, Option, Result}
use Rattle.markup.specs.Calls.{calls_of}
use Rattle.markup.specs.Trees.{Trees, default_entry, written}
use Rattle.html_tokens.specs.declared.replies.TokenSinkResult.{TokenSinkResult}
use Rattle.html_tokens.specs.declared.token.Token.{Token}
use Rattle.html_tokens.specs.Item.{Fault}
use Rattle.html_tokens.specs.Laws.{ReadsEscapes, in_data}
use Rattle.html_tokens.specs.NormalText.{normal_text}
use Rattle.html_tokens.specs.Reading.{◌>>=◌, reading, line_breaks}
use Rattle.html_tokens.specs.Table.{Row}
use Rattle.html_clean.specs.PieceLaws.{GoesOn}
use Rattle.html_clean.specs.Pieces.{last_after, telling}
use Rattle.html_clean.specs.Calls.{filtered}
use Rattle.html_clean.specs.Cleaned.{are_kept, are_kept_pieces, cleaned, is_balanced, pieces_of, unmarked}
use Rattle.html_clean.specs.Policies.{is_kept_name}
use Rattle.html_clean.specs.declared.policy.Policy.{Policy}

-- what cleaning leaves is kept
abbrev pub AreCleanedKept : Type 0
AreCleanedKept = (policy : Policy) (trees : Trees) → are_kept policy (cleaned policy trees) ≡ true

-- the tags and texts of trees that are kept are kept, and the tags are balanced
abbrev pub AreKeptPieces : Type 0
AreKeptPieces = (policy : Policy) (trees : Trees) → are_kept policy trees ≡ true
    → (are_kept_pieces policy (pieces_of trees) ≡ true) × (is_balanced (pieces_of trees) [] ≡ true)

-- What is written of cleaned trees is its own normal text, also where a mark at the front is dropped. Read in data from a sound state it
-- is told as just the tags and texts of these trees; then what follows is read, in data again.
abbrev pub IsCleanedRead : {S H F : Type 0} → (S → Type 0) → (S → Token → ℕ → Result (S × TokenSinkResult H) F)
    → (S → Bool) → (S → S) → Type 0
IsCleanedRead {S} is_sound step cdata ends =
    (policy : Policy) → GoesOn is_sound step (is_kept_name policy) → (erred : Fault → S → S) (rows : List Row) → ReadsEscapes rows
    → (scripting : Bool) (trees : Trees) (last : Option (List ℕ)) (breaks : ℕ) (s : S) → is_sound s → (t : List ℕ)
    → let text = written scripting default_entry (cleaned policy trees) in
    let pieces = pieces_of (cleaned policy trees) in
    ((discard_bom : Bool) → normal_text discard_bom text ≡ text)
    × (reading step erred cdata ends rows (in_data last) breaks s (text ++ t)
    ≡ (telling step breaks s pieces >>= λ told. reading step erred cdata ends rows
    (in_data (last_after last pieces)) (breaks + line_breaks text) told t))

-- filtering the calls of trees leaves the calls of the cleaned trees
abbrev pub AreCleanedCalls : Type 0
AreCleanedCalls = (policy : Policy) (trees : Trees) → filtered policy [] true (calls_of trees) ≡ calls_of (cleaned policy trees)

-- cleaning changes nothing in what is kept, but for U+FEFF in front of all, and so nothing in what was cleaned
pub record IsCleanedSame : Type 0 where
  pub kept : (policy : Policy) (trees : Trees) → are_kept policy trees ≡ true → cleaned policy trees ≡ unmarked trees
  pub again : (policy : Policy) (trees : Trees) → cleaned policy (cleaned policy trees) ≡ cleaned policy trees
