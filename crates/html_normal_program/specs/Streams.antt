-- Files and streams whose bytes may be stated.
use Rattle.std.specs.Prelude.{◌≡◌, ℕ, ◌≤◌, Bool, true, false, List, length, take, Option, Some, None}
use Rattle.std.specs.Io.KnownBytes.{append_known}

-- the bytes of a file that was opened: those that are stated for its name, if any are
abbrev pub IsOpened : Option (Option (List ℕ)) → Option (List ℕ) → Type 0
IsOpened None left = Unit {0}
IsOpened (Some None) left = ⊥
IsOpened (Some (Some bytes)) left = left ≡ Some bytes

-- no bytes are stated for a file that cannot be opened
abbrev pub IsMissing : Option (Option (List ℕ)) → Type 0
IsMissing (Some (Some bytes)) = ⊥
IsMissing told = Unit {0}

-- a stream after a text was written to it: all of the text, or a beginning of it where a write failed
abbrev pub IsPut : List ℕ → (old new : Option (List ℕ)) → (failed : Bool) → Type 0
IsPut text old new false = new ≡ append_known old text
IsPut text old new true = (n : ℕ) × (n ≤ length text) × (new ≡ append_known old (take n text))
