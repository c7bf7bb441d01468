use Rattle.std.proofs.Common.{◌≡◌, ◌++◌, ◌∷◌}
use Rattle.std.specs.Prelude.{filter}
use Rattle.html_selectors.specs.Order.{inner_below, is_inner}
use Rattle.html_selectors.proofs.order.push_tree.Given as goal

abbrev pub invariant-loop-id : goal.invariant-loop-id
invariant-loop-id l =
    l.order.items ++ filter (is_inner l.fn.forest) l.id-iterator
    ≡ l.fn.order.items ++ l.fn.root ∷ inner_below l.fn.forest l.fn.root
