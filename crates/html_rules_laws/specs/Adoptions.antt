-- What the adoption agency keeps.
use Rattle.std.specs.Prelude.{ℕ, List}
use Rattle.html_rules.specs.Adoption.{adoption_agency, adoption_turn, handle_misnested_a_tags}
use Rattle.html_rules.specs.State.{State}
use Rattle.html_rules_laws.specs.Soundness.{Standing}

-- the tree is one, with the document on top, and the open elements are elements of it in order: after each turn, after all of them, and
-- where an `a` is closed
pub record AreAdoptionsStanding : Type 0 where
  pub turn : (name : List ℕ) (s : State) → Standing s → Standing (adoption_turn name s).state
  pub agency : (name : List ℕ) (s : State) → Standing s → Standing (adoption_agency name s)
  pub misnested_a : (s : State) → Standing s → Standing (handle_misnested_a_tags s)
