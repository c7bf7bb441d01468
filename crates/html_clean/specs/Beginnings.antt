-- How texts begin.
use Rattle.std.specs.Prelude.{ℕ, Bool, true, false, cond, ◌&&◌, nat_eq, List, [], ◌∷◌, Option, Some, None}
use Rattle.std.specs.List.{list_any}

-- whether a text begins with another, which comes first here
abbrev pub begins_with : List ℕ → List ℕ → Bool
begins_with [] text = true
begins_with (c ∷ cs) [] = false
begins_with (c ∷ cs) (d ∷ ds) = nat_eq c d && begins_with cs ds

-- whether a text begins with one of these
abbrev pub begins_with_one : List (List ℕ) → List ℕ → Bool
begins_with_one beginnings text = list_any (λ beginning. begins_with beginning text) beginnings

-- what follows such a beginning, if the text has it
abbrev pub after_beginning : List ℕ → List ℕ → Option (List ℕ)
after_beginning [] text = Some text
after_beginning (c ∷ cs) [] = None
after_beginning (c ∷ cs) (d ∷ ds) = cond (nat_eq c d) (after_beginning cs ds) None
