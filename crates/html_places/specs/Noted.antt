-- A forest with the places of its nodes and of its errors.
use Rattle.std.specs.Prelude.{◌≡◌, ℕ, List, length, map}
use Rattle.markup.specs.Forest.{node_count}
use Rattle.html_places.specs.Places.{ArePlaces}
use Rattle.html_places.specs.declared.noted.Noted.{Noted}
use Rattle.html_places.specs.declared.noted.NotedForest.{NotedForest}
use Rattle.html_places.specs.declared.place.Place.{Place}

abbrev pub place_of : Noted → Place
place_of error = error.place

-- Each node has a place of the text, and so has each error. In the order of their numbers no node is before an earlier one, and no error
-- before one that was reported earlier.
pub record IsPlaced (text : List ℕ) (noted : NotedForest) : Type 0 where
  pub each : length noted.places.items ≡ node_count noted.forest
  pub nodes : ArePlaces text noted.places.items
  pub errors : ArePlaces text (map place_of noted.errors.items)
