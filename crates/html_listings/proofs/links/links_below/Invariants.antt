use Rattle.std.proofs.Common.{◌≡◌, ◌++◌}
use Rattle.std.specs.List.{flat_map}
use Rattle.html_nodes.specs.Below.{below}
use Rattle.html_listings.specs.Links.{links_at}
use Rattle.html_listings.proofs.links.links_below.Given as goal

abbrev pub invariant-loop-node : goal.invariant-loop-node
invariant-loop-node l =
    l.links.items ++ flat_map (links_at l.fn.forest) l.node-iterator ≡ flat_map (links_at l.fn.forest) (below l.fn.forest l.fn.top)
