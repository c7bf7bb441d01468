-- What has to become of the list of active formatting elements (HTML Standard, section 13.2.4.3) and of the form element pointer
-- (section 13.2.4.4) where elements are opened and closed.
use Rattle.std.specs.Prelude.{ℕ, Bool, true, false, cond, ◌&&◌, not, List, [], ◌∷◌, is_some}
use Rattle.std.specs.Str.{bytes_eq}
use Rattle.html_rules.specs.Stack.{has_open}
use Rattle.html_rules.specs.State.{Open, is_in}
use Rattle.html_rules.specs.declared.tag_set.TagSet.TheVariants as set
use Rattle.html_faithful.specs.Harmless.{Change, EntryLeft, EntryPushed, FormChange, FormForgotten, FormKept, FormSet, Made}
use Rattle.html_faithful.specs.Harmless.{MarkerLeft, MarkerPushed, is_opened, is_unchanged}
use Rattle.html_faithful.specs.Listing.{link_open}
use Rattle.html_faithful.specs.Spots.{Spot, form_of, is_marked}

-- neither a formatting element nor a marked one
abbrev pub is_unlisted : Open → Bool
is_unlisted x = not (is_in set.FormattingEnd x) && not (is_marked x)

-- a form that stands in no template, to which the pointer points
abbrev pub is_pointed : Open → List Open → Bool
is_pointed x xs = is_in set.Form x && not (has_open set.Template xs)

abbrev pub is_form_kept : FormChange → Bool
is_form_kept FormKept = true
is_form_kept form = false

-- WHERE AN ELEMENT IS OPENED

-- formatting elements are pushed onto the list, no link in a link, and markers for marked elements
abbrev pub lists_opened : List ℕ → Open → List Open → Change → Bool
lists_opened name x xs EntryPushed =
    (is_in set.FormattingEnd x && not (is_marked x)) && (bytes_eq name x.name && not (is_in set.A x && link_open xs))
lists_opened name x xs MarkerPushed = is_marked x
lists_opened name x xs change = is_unchanged change && is_unlisted x

abbrev pub points_opened : Open → List Open → FormChange → Bool
points_opened x xs FormSet = is_pointed x xs
points_opened x xs form = is_form_kept form && not (is_pointed x xs)

-- by the tag of that name; a sink is asked nothing of the element
abbrev pub opens_so : List ℕ → List Open → Change → FormChange → Bool
opens_so name [] change form = false
opens_so name (x ∷ xs) change form =
    not (is_in set.AnnotationXml x) && (lists_opened name x xs change && points_opened x xs form)

-- WHERE THE CURRENT NODE IS CLOSED

abbrev pub lists_closed : Open → Change → Bool
lists_closed x EntryLeft = not (is_marked x)
lists_closed x MarkerLeft = is_marked x
lists_closed x change = is_unchanged change && is_unlisted x

-- no other form is open below the one that is closed
abbrev pub points_closed : Open → List Open → FormChange → Bool
points_closed x xs FormForgotten = is_pointed x xs && not (is_some (form_of xs))
points_closed x xs form = is_form_kept form && not (is_pointed x xs)

abbrev pub closes_so : List Open → Change → FormChange → Bool
closes_so [] change form = false
closes_so (x ∷ xs) change form = lists_closed x change && points_closed x xs form

-- BOTH

-- what a token makes of a spot keeps the list and the pointer those of the path
abbrev pub is_kept_so : List ℕ → Spot → Made → Bool
is_kept_so name p made =
    cond made.closed (closes_so p.path made.change made.form)
    (cond (is_opened made.put) (opens_so name made.spot.path made.change made.form) (is_unchanged made.change && is_form_kept made.form))
