use Rattle.std.proofs.Common.{◌≡◌, ◌++◌}
use Rattle.html_nodes.specs.Below.{below}
use Rattle.html_extracts.specs.Links.{lines_of_links}
use Rattle.html_extracts.proofs.links.links_below.Given as goal

abbrev pub invariant-loop-id : goal.invariant-loop-id
invariant-loop-id l = l.found.items ++ lines_of_links l.fn.forest l.id-iterator ≡ lines_of_links l.fn.forest (below l.fn.forest l.fn.top)
