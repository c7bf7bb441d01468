use Rattle.html_rules.specs.Adoption.{is_number}
use Rattle.html_rules.specs.Stack.{in_scope}
use Rattle.html_rules.specs.declared.tag_set.TagSet.TheVariants.{DefaultScope}
use Rattle.html_stack.specs.Stacks.{open_of}
use Rattle.html_stack.proofs.WalksBack.{IsWalked}
use Rattle.html_tree_builder.proofs.walks.is_node_in_scope.Given as goal

abbrev pub invariant-loop-i : goal.invariant-loop-i
invariant-loop-i g l = IsWalked {H = Unit {0}} (λ n. open_of g.Sink.TreeSink.node)
    (in_scope DefaultScope (is_number (g.Sink.TreeSink.node l.node))) l.elements l.i

abbrev pub decreases-loop-i : goal.decreases-loop-i
decreases-loop-i g l = l.i
