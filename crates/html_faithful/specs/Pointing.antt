-- Between tokens the two pointers follow from what is open.
use Rattle.std.specs.Prelude.{◌≡◌}
use Rattle.html_rules.specs.State.{State}
use Rattle.html_faithful.specs.Faces.{Looks, Points}
use Rattle.html_faithful.specs.Listing.{AreApart, ListsLinks}
use Rattle.html_faithful.specs.Spots.{Spot, form_of}

-- The form element pointer names the form that is open in no template, if one is. So what is asked of it and of the list is the same
-- at the spot.
abbrev pub ArePointsGiven : Type 0
ArePointsGiven = (s : State) (p : Spot) → Looks s p → s.form_elem ≡ form_of s.open_elems → AreApart s.open_elems → AreApart p.path
    → ListsLinks s.open_elems s.active_formatting → Points s p
