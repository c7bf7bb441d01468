use Rattle.std.proofs.Common.{◌≡◌, ◌++◌, take}
use Rattle.std.specs.List.{flat_map}
use Rattle.html_listings.specs.Links.{links_of}
use Rattle.html_listings.proofs.links.push_kinds.Given as goal

abbrev pub invariant-loop-kind : goal.invariant-loop-kind
invariant-loop-kind l =
    l.links.items ≡ l.fn.links.items ++ flat_map (links_of l.forest l.node l.local) (take l.kind-index l.kinds)
