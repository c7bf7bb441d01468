use Rattle.std.proofs.Common.{◌-◌, ℕ, List, length}
use Rattle.markup.specs.Forest.{node_count}
use Rattle.html_places.specs.Places.{ArePlaces, IsPlaceIn}
use Rattle.html_places.proofs.marking.fill_nodes.Given as goal

abbrev pub invariant-loop-place : goal.invariant-loop-place
invariant-loop-place l = (text : List ℕ) → ArePlaces text l.fn.places.items → IsPlaceIn text l.place → ArePlaces text l.places.items

abbrev pub decreases-loop-place : goal.decreases-loop-place
decreases-loop-place l = node_count l.forest - length l.places.items
