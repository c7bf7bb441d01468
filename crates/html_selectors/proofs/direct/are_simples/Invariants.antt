use Rattle.std.proofs.Common.{◌≡◌, drop}
use Rattle.std.specs.List.{list_all}
use Rattle.html_selector_matching.specs.Simples.{is_simple}
use Rattle.html_selectors.proofs.direct.are_simples.Given as goal

abbrev pub invariant-loop-simple : goal.invariant-loop-simple
invariant-loop-simple l = list_all (is_simple l.forest l.scope l.id) l.simples
    ≡ list_all (is_simple l.forest l.scope l.id) (drop l.simple-index l.simples)
