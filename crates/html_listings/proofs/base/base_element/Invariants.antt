use Rattle.std.proofs.Common.{◌≡◌}
use Rattle.html_nodes.specs.Below.{below}
use Rattle.html_listings.specs.Listings.{base_in}
use Rattle.html_listings.proofs.base.base_element.Given as goal

abbrev pub invariant-loop-id : goal.invariant-loop-id
invariant-loop-id l = base_in l.forest l.id-iterator ≡ base_in l.forest (below l.forest 0)
