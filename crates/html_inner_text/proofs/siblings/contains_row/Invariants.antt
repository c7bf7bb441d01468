use Rattle.std.proofs.Common.{◌≡◌}
use Rattle.std.specs.List.{list_any}
use Rattle.markup.specs.Forest.{children_of}
use Rattle.html_inner_text.specs.Items.{is_row}
use Rattle.html_inner_text.proofs.siblings.contains_row.Given as goal

abbrev pub invariant-loop-child : goal.invariant-loop-child
invariant-loop-child l =
    list_any (is_row l.fn.forest) l.child-iterator ≡ list_any (is_row l.fn.forest) (children_of l.fn.forest l.fn.id)
