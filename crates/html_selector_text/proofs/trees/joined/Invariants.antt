use Rattle.std.proofs.Common.{◌≡◌, map, vec_len}
use Rattle.html_selector_text.specs.Trees.{joined, left_tree, relative_tree}
use Rattle.html_selector_text.proofs.trees.joined.Given as goal

abbrev pub invariant-loop-combinator : goal.invariant-loop-combinator
invariant-loop-combinator l = joined (map left_tree l.fn.lefts.items) (relative_tree l.fn.last)
    ≡ joined (map left_tree l.lefts.items) (relative_tree l.relative)

abbrev pub decreases-loop-combinator : goal.decreases-loop-combinator
decreases-loop-combinator l = vec_len l.lefts
