-- Decoders (Encoding Standard, sections 4 and 6): a handler is given one byte after another. It writes characters and
-- errors, and keeps a state. A byte that the Standard puts back is read at once, in the state that the handler is left in.
use Rattle.std.specs.Prelude.{◌≡◌, ℕ, ◌<◌, cond, Option, Some, None, List, [], ◌∷◌, ◌++◌, map, unwrap_or, ◌==◌}
use Rattle.std.specs.Prelude.{encode_utf8_all, count_by, is_none}
use lib.Utf8.{scalar}

-- what is written, where `None` is an error, and the state that follows
pub record Step (S : Type 0) : Type 0 where
  pub written : List (Option ℕ)
  pub state : S

-- nothing is written
abbrev pub silent : {S : Type 0} → S → Step S
silent state = record { written = []; state = state }

-- one character, or an error, is written
abbrev pub writes : {S : Type 0} → Option ℕ → S → Step S
writes item state = record { written = item ∷ []; state = state }

-- this was written before
abbrev pub past : {S : Type 0} → List (Option ℕ) → Step S → Step S
past items next = record { written = items ++ next.written; state = next.state }

-- what a handler makes of bytes
abbrev pub reading : {S : Type 0} → (S → ℕ → Step S) → S → List ℕ → Step S
reading step state [] = silent state
reading step state (byte ∷ bytes) = let first = step state byte in past first.written (reading step first.state bytes)

-- a code point as it is written: only scalar values are characters
abbrev pub code_point : ℕ → Option ℕ
code_point code = cond (scalar code) (Some code) None

-- an entry of an index as it is written: 0 stands where the index has nothing
abbrev pub entry_item : ℕ → Option ℕ
entry_item code = cond (code == 0) None (code_point code)

-- the characters of what is written: U+FFFD for an error (error mode "replacement")
abbrev pub characters : List (Option ℕ) → List ℕ
characters items = map (λ item. unwrap_or item 0xFFFD) items

-- their bytes in UTF-8
unfoldable pub utf8_of : List (Option ℕ) → List ℕ
utf8_of items = encode_utf8_all (characters items)

-- how many errors there are
abbrev pub error_count : List (Option ℕ) → ℕ
error_count items = count_by is_none items

-- ASCII bytes are written as they are, and leave the state as it is
abbrev pub CopiesAscii : {S : Type 0} → (S → ℕ → Step S) → S → Type 0
CopiesAscii step state = (byte : ℕ) → byte < 128 → step state byte ≡ writes (Some byte) state
