-- A text in pieces, and the places that are noted as it is taken.
use Rattle.std.specs.Prelude.{◌≡◌, ◌++◌, ℕ, List, IfSome}
use Rattle.std.specs.Str.{IsUtf8, chars}
use Rattle.html_places.specs.Places.{ArePlaces, IsPlaceIn}
use Rattle.html_places.specs.Fronts.{IsFront}
use Rattle.html_places.specs.declared.pieces.Pieces.{Pieces}

-- Some front of the text was taken, and all that is noted are places of the text.
pub record IsTaken (p : Pieces) : Type 0 where
  pub taken : List ℕ
  pub utf8 : IsUtf8 taken
  pub whole : taken ++ p.rest.now ≡ p.text.now
  pub front : IsFront (chars taken) p.front
  pub token : IsPlaceIn (chars p.text.now) p.token
  pub next_token : IsPlaceIn (chars p.text.now) p.next_token
  pub text_place : IfSome p.text_place (IsPlaceIn (chars p.text.now))
  pub nodes : ArePlaces (chars p.text.now) p.nodes.items
  pub errors : ArePlaces (chars p.text.now) p.errors.items
