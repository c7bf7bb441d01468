use Rattle.std.proofs.Common.{◌≡◌, length, map, take}
use Rattle.html_places.specs.Noted.{place_of}
use Rattle.html_places.proofs.noted.put_places.Given as goal

abbrev pub invariant-loop-at : goal.invariant-loop-at
invariant-loop-at l = record {
  len : length l.errors ≡ length l.initial.errors;
  places : map place_of (take l.at l.errors) ≡ take l.at l.places;
}
