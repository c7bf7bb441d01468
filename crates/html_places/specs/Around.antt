-- What stands around a place of a text.
use Rattle.std.specs.Prelude.{◌≡◌, ◌++◌, ℕ, List}
use Rattle.std.specs.Str.{IsUtf8, chars}
use Rattle.html_places.specs.Places.{place_after}
use Rattle.html_places.specs.Fronts.{IsFront}
use Rattle.html_places.specs.declared.around.Around.{Around}
use Rattle.html_places.specs.declared.around.Surroundings.{Surroundings}
use Rattle.html_places.specs.declared.place.Place.{Place}

-- An end of what comes before a place of a text, and a front of what comes from there on.
pub record IsAround (text : List ℕ) (place : Place) (around : Around) : Type 0 where
  pub left : List ℕ
  pub right : List ℕ
  pub whole : (left ++ around.before.now) ++ (around.behind.now ++ right) ≡ text
  pub is : place ≡ place_after (chars (left ++ around.before.now))

-- A text was gone through up to the rest of it.
pub record IsGone (s : Surroundings) : Type 0 where
  pub gone : List ℕ
  pub utf8 : IsUtf8 gone
  pub text : IsUtf8 s.text.now
  pub whole : gone ++ s.rest.now ≡ s.text.now
  pub front : IsFront (chars gone) s.front
