use Rattle.std.proofs.Common.{◌≡◌, ◌+◌, length}
use Rattle.html_selector_text.specs.Characters.{place_of, place_after}
use Rattle.html_selector_text.proofs.characters.place_of.Given as goal

abbrev pub invariant-loop-rest : goal.invariant-loop-rest
invariant-loop-rest l = record {
  place : l.place + place_after l.cr l.left l.rest ≡ place_of l.at l.text;
  within : l.place + length l.rest ≡ length l.text;
}

abbrev pub decreases-loop-rest : goal.decreases-loop-rest
decreases-loop-rest l = length l.rest
