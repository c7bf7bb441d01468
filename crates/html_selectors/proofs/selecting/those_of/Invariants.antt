use Rattle.std.proofs.Common.{◌≡◌, ◌++◌, drop}
use Rattle.std.specs.Prelude.{filter}
use Rattle.html_selectors.specs.Columns.{at}
use Rattle.html_selectors.proofs.selecting.those_of.Given as goal

abbrev pub invariant-loop-id : goal.invariant-loop-id
invariant-loop-id l = l.found.items ++ filter (at l.fn.column) (drop l.id-index l.fn.nodes) ≡ filter (at l.fn.column) l.fn.nodes
