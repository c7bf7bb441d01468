-- Markers in the list.
use Rattle.std.proofs.Common.{◌≡◌, true, false, List, ◌∷◌, refl}
use Rattle.html_rules.specs.Formatting.{after_marker}
use Rattle.html_rules.specs.State.{Entry, Element, Marker}
use Rattle.html_stack.specs.Stacks.{is_mark}

pub behind-mark : (x : Entry) (xs : List Entry) → true ≡ is_mark x → after_marker (x ∷ xs) ≡ xs
behind-mark (Element n tag) xs h = absurd cc
behind-mark Marker xs h = refl

pub behind-element : (x : Entry) (xs : List Entry) → false ≡ is_mark x → after_marker (x ∷ xs) ≡ after_marker xs
behind-element (Element n tag) xs h = refl
behind-element Marker xs h = absurd cc
