use Rattle.std.proofs.Common.{ℕ, ◌≤◌, length}
use Rattle.markup.specs.Forest.{Forest}
use Rattle.html_rules.specs.Places.{foster_place}
use Rattle.html_rules.specs.Templates.{foster_intended_parent}
use Rattle.html_stack.specs.Stacks.{open_of}
use Rattle.html_stack.proofs.WalksBack.{IsWalked}
use Rattle.html_stack.proofs.inserting.places.foster_point.Given as goal

abbrev pub invariant-loop-i : goal.invariant-loop-i
invariant-loop-i g l = record {
  within : l.i ≤ length l.elements;
  walked : (f : Forest) (root : ℕ) → IsWalked open_of (foster_place f root) l.elements l.i;
  asked : (root : ℕ) → IsWalked open_of (foster_intended_parent root) l.elements l.i;
}

abbrev pub decreases-loop-i : goal.decreases-loop-i
decreases-loop-i g l = l.i
