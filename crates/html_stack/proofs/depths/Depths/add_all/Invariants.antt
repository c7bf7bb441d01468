use Rattle.std.proofs.Common.{◌-◌, length}
use Rattle.html_stack.specs.Noted.{IsNoted, named}
use Rattle.html_stack.proofs.depths.Depths.add_all.Given as goal

abbrev pub invariant-loop-alloc : goal.invariant-loop-alloc
invariant-loop-alloc g l = IsNoted (named l.elements) l.self

abbrev pub decreases-loop-alloc : goal.decreases-loop-alloc
decreases-loop-alloc g l = length l.elements - length l.self.notes.items
