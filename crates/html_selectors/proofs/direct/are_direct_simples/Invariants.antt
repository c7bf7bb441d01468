use Rattle.std.proofs.Common.{◌≡◌, drop}
use Rattle.std.specs.List.{list_all}
use Rattle.html_selectors.specs.Direct.{is_direct_simple}
use Rattle.html_selectors.proofs.direct.are_direct_simples.Given as goal

abbrev pub invariant-loop-simple : goal.invariant-loop-simple
invariant-loop-simple l = list_all is_direct_simple l.simples ≡ list_all is_direct_simple (drop l.simple-index l.simples)
