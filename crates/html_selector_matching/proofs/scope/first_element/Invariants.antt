use Rattle.std.proofs.Common.{◌≡◌}
use Rattle.std.specs.List.{find}
use Rattle.markup.specs.Forest.{children_of}
use Rattle.html_selector_matching.specs.Around.{is_element}
use Rattle.html_selector_matching.proofs.scope.first_element.Given as goal

abbrev pub invariant-loop-child : goal.invariant-loop-child
invariant-loop-child l = find (is_element l.fn.forest) (children_of l.fn.forest l.fn.top) ≡ find (is_element l.fn.forest) l.child-iterator
