-- Holes of page templates in which plain trees may be put.
use Rattle.std.specs.Prelude.{◌≡◌, Bool, true, false, ◌&&◌, ◌||◌, not, codes, is_none, is_some}
use Rattle.markup.specs.Trees.{Trees}
use Rattle.html_plain.specs.Elements.{is_in_link}
use Rattle.html_plain.specs.Grammar.{is_plain}
use Rattle.html_plain.specs.declared.place.PlainPlace.{PlainPlace}
use Rattle.html_plain.specs.declared.place.PlainPlace.TheVariants.{InFlow, InLine}
use Rattle.html_rules.specs.ForeignContent.{is_html_element}
use Rattle.html_rules.specs.Formatting.{last_named}
use Rattle.html_rules.specs.Reset.{mode_of_open}
use Rattle.html_rules.specs.Stack.{in_scope}
use Rattle.html_rules.specs.State.{current_is, is_in}
use Rattle.html_rules.specs.declared.insertion_mode.InsertionMode.{InsertionMode}
use Rattle.html_rules.specs.declared.insertion_mode.InsertionMode.TheVariants as mode
use Rattle.html_rules.specs.declared.tag_set.TagSet.TheVariants as set
use Rattle.html_faithful.specs.Holes.{AreAlike, Hole, begins_with_text}
use Rattle.html_faithful.specs.Listing.{link_open}
use Rattle.html_faithful.specs.Spots.{Spot, entries_of, hollow}
use Rattle.html_faithful.specs.Walk.{OfCurrent, Parent}

-- the places of flow content and of a line
abbrev pub is_flow : PlainPlace → Bool
is_flow InFlow = true
is_flow place = false

abbrev pub is_line : PlainPlace → Bool
is_line (InLine in_link) = true
is_line place = false

-- the mode is the one that is asked for: in the body, or in a cell
abbrev pub is_mode_of : InsertionMode → InsertionMode → Bool
is_mode_of mode.InBody mode.InBody = true
is_mode_of mode.InCell mode.InCell = true
is_mode_of m n = false

-- What rows ask of a spot of flow content: in HTML, in the mode that a table there would lead back to, in no paragraph that a block would
-- close, and in no heading; and of a line that is in no link, that no link is open.
abbrev pub holds_plain : PlainPlace → Spot → Bool
holds_plain place p =
    current_is is_html_element p.path && is_mode_of p.mode (mode_of_open (hollow p) p.path) && is_none p.orig_mode && not p.frameset_ok
    && (is_line place || not (in_scope set.ButtonScope (is_in set.P) p.path))
    && (is_line place || not (current_is (is_in set.HeadingTag) p.path))
    && (is_in_link place || (not (is_some (last_named (codes "a") (entries_of p.path))) && not (link_open p.path)))

abbrev pub is_in_current : Parent → Bool
is_in_current OfCurrent = true
is_in_current parent = false

-- a hole for flow content or for a line: no text is beside it
abbrev pub is_plain_hole : PlainPlace → Hole → Bool
is_plain_hole place hole =
    (is_flow place || is_line place) && is_none hole.raw && is_in_current hole.parent
    && not hole.after_text && not hole.drops && not (begins_with_text hole.behind) && holds_plain place hole.spot

-- in such a hole any plain trees are like any others
abbrev pub ArePlainTreesAlike : Type 0
ArePlainTreesAlike = (scripting : Bool) (place : PlainPlace) (hole : Hole) → is_plain_hole place hole ≡ true
    → (a b : Trees) → is_plain place false a ≡ true → is_plain place false b ≡ true → AreAlike scripting hole a b
