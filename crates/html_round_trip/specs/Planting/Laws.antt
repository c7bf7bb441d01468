-- The laws of planted trees.
use Rattle.std.specs.Prelude.{◌≡◌, ℕ, Bool, true, false, List, ◌↔◌}
use Rattle.markup.specs.Forest.{Forest, IsParent, children_of, empty_forest}
use Rattle.markup.specs.Named.{IsTree}
use Rattle.markup.specs.TreeLaws.{LeavesErrors}
use Rattle.markup.specs.Trees.{Trees, trees_of}
use Rattle.html_plain.specs.Grammar.{IsPlain, IsPlainDocument, is_plain_forest}
use Rattle.html_plain.specs.Laws.{text_of}
use Rattle.html_plain.specs.declared.place.PlainPlace.{PlainPlace}
use Rattle.html_round_trip.specs.Planting.Planted.{ArePlantable, EndsInNoText, HasNoTemplates, IsPlanted, Shows, planted}

-- planted trees are there, and nothing else changed
abbrev pub ArePlantedAlone : Type 0
ArePlantedAlone =
    (trees : Trees) (p : ℕ) (f : Forest) (after_text : Bool) → IsTree f → IsParent f p
    → ArePlantable after_text trees → (after_text ≡ false → EndsInNoText f p)
    → (roots : List ℕ) × IsPlanted f (planted trees p f) p roots trees

-- planting leaves a tree, in which nodes that can hold others still can; it neither looks at the number of errors nor moves it
pub record IsPlantingLawful : Type 0 where
  pub tree : (trees : Trees) (p : ℕ) (f : Forest) (after_text : Bool) → IsTree f → IsParent f p
      → ArePlantable after_text trees → IsTree (planted trees p f)
  pub parents : (trees : Trees) (p q : ℕ) (f : Forest) (after_text : Bool) → IsTree f → IsParent f p
      → ArePlantable after_text trees → IsParent f q → IsParent (planted trees p f) q
  pub errors : (trees : Trees) (p : ℕ) → LeavesErrors (λ f. planted trees p f)

-- what nodes show is what is walked of them, so they show one list of trees at most
abbrev pub AreShownTreesWalked : Type 0
AreShownTreesWalked = (low : ℕ) (f : Forest) (ns : List ℕ) (trees : Trees) → IsTree f → HasNoTemplates trees
    → Shows low f ns trees → trees_of f ns ≡ trees

-- the trees of the plain grammar can be planted
abbrev pub ArePlainTreesPlantable : Type 0
ArePlainTreesPlantable = (place : PlainPlace) (after_text : Bool) (trees : Trees) → IsPlain place after_text trees
    → ArePlantable after_text trees

-- a plain document that is planted in a new forest is what is walked of it, and so what is written and what is judged
pub record ArePlainDocumentsPlanted : Type 0 where
  pub walked : (trees : Trees) → IsPlainDocument trees → let f = planted trees 0 empty_forest in trees_of f (children_of f 0) ≡ trees
  pub written : (trees : Trees) → IsPlainDocument trees → (scripting : Bool) → let f =
      planted trees 0 empty_forest in text_of scripting (trees_of f (children_of f 0)) ≡ text_of scripting trees
  -- a forest is judged plain exactly if a plain document is walked of it
  pub judged : (f : Forest) → (is_plain_forest f ≡ true) ↔ IsPlainDocument (trees_of f (children_of f 0))
