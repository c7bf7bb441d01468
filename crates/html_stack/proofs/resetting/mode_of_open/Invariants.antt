use Rattle.std.proofs.Common.{◌≤◌, length}
use Rattle.html_rules.specs.Reset.{mode_of_open}
use Rattle.html_rules.specs.State.{State}
use Rattle.html_stack.specs.Modes.{Knows}
use Rattle.html_stack.specs.Stacks.{open_of}
use Rattle.html_stack.proofs.WalksBack.{IsWalked}
use Rattle.html_stack.proofs.resetting.mode_of_open.Given as goal

abbrev pub invariant-loop-i : goal.invariant-loop-i
invariant-loop-i g l = record {
  within : l.i ≤ length l.elements;
  walked : (s : State) → Knows s l.template_mode l.has_head → IsWalked open_of (mode_of_open s) l.elements l.i;
}

abbrev pub decreases-loop-i : goal.decreases-loop-i
decreases-loop-i g l = l.i
