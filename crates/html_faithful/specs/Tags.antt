-- The start tag and the end tag of an element, at a spot where the element is faithful.
use Rattle.std.specs.Prelude.{◌≡◌, None, Bool, true, false, cond, List, ◌∷◌, IfSome}
use Rattle.markup.specs.declared.attributes.Attribute.{Attribute}
use Rattle.markup.specs.declared.names.QualName.{QualName}
use Rattle.html_rules.specs.Names.{Namespace, element_name_of, namespace_of}
use Rattle.html_rules.specs.Places.{next_open, put_element}
use Rattle.html_rules.specs.Rules.{Settled, settle}
use Rattle.html_rules.specs.Stack.{without_current}
use Rattle.html_rules.specs.State.{State}
use Rattle.html_faithful.specs.Harmless.{Made}
use Rattle.html_faithful.specs.Keeping.{IsAt}
use Rattle.html_faithful.specs.Spots.{Spot, opened_at}
use Rattle.html_faithful.specs.Turns.{IsDone, IsReplied}
use Rattle.html_faithful.specs.Walk.{end_tag, finished, is_void, start_tag, started, stays_open}

-- The element with that name and those attributes is put where the rules put it, and is open if it is not void.
pub record IsStarted (name : QualName) (attributes : List Attribute) (p : Spot) (s : State) (left : Settled) (made : Made) : Type 0 where
  pub done : IsDone (start_tag name attributes) s left made
  -- whether a line feed that comes next is dropped
  pub drops : s.ignore_lf ≡ false → left.state.ignore_lf ≡ made.drops_line_feed
  pub now : IsAt left.state made.spot
  pub namespace : Namespace
  pub is_name : name ≡ element_name_of namespace name.local
  pub known : namespace_of name.ns ≡ namespace
  pub tree : left.state.forest ≡ (put_element namespace name.local attributes false s).forest
  pub stack : left.state.open_elems ≡ cond (is_void name) s.open_elems (next_open s namespace name.local ∷ s.open_elems)
  pub path : made.spot.path ≡ cond (is_void name) p.path (opened_at made.spot.rules namespace name.local p.path ∷ p.path)

-- Nothing is put, and the current node is closed; `body` and `html` stay open.
pub record IsFinished (name : QualName) (p : Spot) (s : State) (left : Settled) (after : Spot) : Type 0 where
  pub is_done : left.is_settled ≡ true
  pub keeps_line_feeds : s.ignore_lf ≡ false → left.state.ignore_lf ≡ false
  pub now : IsAt left.state after
  pub tree : left.state.forest ≡ s.forest
  pub stack : left.state.open_elems ≡ cond (stays_open name) s.open_elems (without_current s.open_elems)
  pub plain : IsReplied None left.reply
  pub path : after.path ≡ cond (stays_open name) p.path (without_current p.path)

pub record AreTagsFollowed : Type 0 where
  pub starts : (name : QualName) (attributes : List Attribute) (template : Bool) (p : Spot) (s : State) → IsAt s p
      → IfSome (started name attributes template p) (λ made. IsStarted name attributes p s (settle (start_tag name attributes) s) made)
  pub ends : (name : QualName) (p : Spot) (s : State) → IsAt s p
      → IfSome (finished name p) (λ after. IsFinished name p s (settle (end_tag name) s) after)
