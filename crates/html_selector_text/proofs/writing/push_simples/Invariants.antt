use Rattle.std.proofs.Common.{◌≡◌, ◌++◌, length}
use Rattle.html_selector_text.specs.Written.{simples_text}
use Rattle.html_selector_text.proofs.writing.push_simples.Given as goal

abbrev pub invariant-loop-left : goal.invariant-loop-left
invariant-loop-left l = l.text ++ simples_text l.left ≡ l.fn.text ++ simples_text l.fn.simples

abbrev pub decreases-loop-left : goal.decreases-loop-left
decreases-loop-left l = length l.left
