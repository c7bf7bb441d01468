use Rattle.html_rules.specs.Adoption.{is_number}
use Rattle.html_rules.specs.Stack.{in_scope}
use Rattle.html_rules.specs.declared.tag_set.TagSet.TheVariants.{DefaultScope}
use Rattle.html_stack.specs.Stacks.{open_of}
use Rattle.html_stack.proofs.WalksBack.{IsWalked}
use Rattle.html_faithful_judge.specs.Contexts.{number_of}
use Rattle.html_faithful_judge.proofs.spot.is_number_in_scope.Given as goal

abbrev pub invariant-loop-i : goal.invariant-loop-i
invariant-loop-i l = IsWalked {H = Unit {0}} (λ n. open_of number_of) (in_scope DefaultScope (is_number l.number)) l.elements l.i

abbrev pub decreases-loop-i : goal.decreases-loop-i
decreases-loop-i l = l.i
