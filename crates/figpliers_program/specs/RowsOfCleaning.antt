-- Worked examples: words, of which the first is the program's name, and those after `clean`, if they are for it.
use Rattle.std.specs.Prelude.{◌≡◌, ℕ, List, [], ◌∷◌, map, Option, Some, None, codes}
use Rattle.figpliers_program.specs.Cleaning.{clean_words}

abbrev pub clean_rows : List (List (List ℕ) × Option (List (List ℕ)))
clean_rows = (codes "figpliers" ∷ codes "clean" ∷ [], Some [])
    ∷ (codes "figpliers" ∷ codes "clean" ∷ codes "-o" ∷ codes "b" ∷ codes "a" ∷ [], Some (codes "-o" ∷ codes "b" ∷ codes "a" ∷ []))
    ∷ (codes "figpliers" ∷ codes "clean" ∷ codes "a" ∷ codes "--help" ∷ [], None)
    ∷ (codes "figpliers" ∷ codes "clean" ∷ codes "-V" ∷ [], None)
    ∷ (codes "figpliers" ∷ codes "text" ∷ codes "clean" ∷ [], None)
    ∷ (codes "figpliers" ∷ [], None)
    ∷ []

abbrev pub AreCleanWordsFound : Type 0
AreCleanWordsFound = map (λ (row : List (List ℕ) × Option (List (List ℕ))). clean_words row.0) clean_rows ≡ map (λ row. row.1) clean_rows
