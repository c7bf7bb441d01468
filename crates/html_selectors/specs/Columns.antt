-- Columns: for each node of a forest, by its number, whether it passes a test.
use Rattle.std.specs.Prelude.{◌≡◌, ℕ, suc, Bool, true, false, cond, List, filter, length, slice_index_or}
use Rattle.markup.specs.Forest.{those_before}
use Rattle.html_selector_matching.specs.Around.{those_after}

-- whether a node is in a column; what is past its end is not
abbrev pub at : List Bool → ℕ → Bool
at column n = slice_index_or column n false

-- one place of a column of which some pass a test, as it was and as it is
abbrev pub Refines : (Bool → Type 0) → Bool → Bool → Type 0
Refines P true new = P new
Refines P false new = new ≡ false

-- the place of a node among those of a list that pass a test, from the first or from the last
abbrev pub place_among : (ℕ → Bool) → Bool → ℕ → List ℕ → ℕ
place_among t from_end n ns = suc (length (filter t (cond from_end (those_after n ns) (those_before n ns))))

-- the place of a node among those under its parent, as it was written down
abbrev pub place_at : List ℕ → ℕ → ℕ
place_at places n = slice_index_or places n 1
