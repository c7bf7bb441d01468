use Rattle.std.proofs.Common.{◌≡◌, length}
use Rattle.html_plain.specs.Grammar.{are_distinct}
use Rattle.html_plain.proofs.attributes.are_few_distinct.Given as goal

abbrev pub invariant-loop-first : goal.invariant-loop-first
invariant-loop-first l = are_distinct l.left ≡ are_distinct l.fn.attributes

abbrev pub decreases-loop-first : goal.decreases-loop-first
decreases-loop-first l = length l.left
