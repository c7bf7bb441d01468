-- How many runs and members a text has for a set of characters.
use Rattle.std.specs.Prelude.{ℕ, ◌+◌, Bool, true, ◌||◌, if◌then◌else◌, List, [], ◌∷◌}
use Rattle.html_queue.specs.Set.{has}

-- whether a character is the last of a run or a member of the set, where these characters stand after it
abbrev pub is_last : ℕ → ℕ → List ℕ → Bool
is_last bits c [] = true
is_last bits c (d ∷ ds) = has bits c || has bits d

-- how many members of the set and longest runs of other characters a text has
abbrev pub runs_and_members : ℕ → List ℕ → ℕ
runs_and_members bits [] = 0
runs_and_members bits (c ∷ cs) = (if is_last bits c cs then 1 else 0) + runs_and_members bits cs
