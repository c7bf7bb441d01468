use Rattle.std.proofs.Common.{◌≡◌}
use Rattle.std.specs.List.{list_all}
use Rattle.markup.specs.Forest.{children_of, data_of}
use Rattle.html_selector_matching.specs.Simples.{is_nothing}
use Rattle.html_selector_matching.proofs.simples.is_empty.Given as goal

abbrev pub invariant-loop-child : goal.invariant-loop-child
invariant-loop-child l = list_all (λ child. is_nothing (data_of l.fn.forest child)) (children_of l.fn.forest l.fn.id)
    ≡ list_all (λ child. is_nothing (data_of l.fn.forest child)) l.child-iterator
