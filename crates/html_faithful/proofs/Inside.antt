-- What the start tag of an element left.
use Rattle.std.proofs.Common.{◌≡◌, ◌∙◌, Bool, true, false, List, refl, sym, ap}
use Rattle.std.specs.Prelude.{◌&&◌}
use Rattle.markup.specs.Forest.{node_count, put}
use Rattle.markup.specs.declared.attributes.Attribute.{Attribute}
use Rattle.markup.specs.declared.names.QualName.{QualName}
use Rattle.html_rules.specs.Actions.{set_ignore_lf}
use Rattle.html_rules.specs.Names.{Namespace, namespace_of}
use Rattle.html_rules.specs.Places.{put_element, with_element}
use Rattle.html_rules.specs.Rules.{Settled, settle}
use Rattle.html_rules.specs.State.{State}
use Rattle.html_rules.specs.Step.{taken}
use Rattle.html_faithful.specs.Harmless.{Made}
use Rattle.html_faithful.specs.Inside.{next}
use Rattle.html_faithful.specs.Keeping.{IsAt}
use Rattle.html_faithful.specs.Planting.{element_put}
use Rattle.html_faithful.specs.Spots.{Spot}
use Rattle.html_faithful.specs.Tags.{IsStarted}
use Rattle.html_faithful.specs.Texts.{place_in}
use Rattle.html_faithful.specs.Walk.{start_tag}
use Rattle.html_faithful.proofs.Texts.{foster-none, place-here, ready}

pub both-so : (a b : Bool) → a ≡ true → b ≡ true → (a && b) ≡ true
both-so true b h g = g
both-so false b h g = h

-- ELEMENTS

element-there : (s : State) (p : Spot) → IsAt s p → (namespace : Namespace) (name : QualName) (attributes : List Attribute)
    → namespace_of name.ns ≡ namespace
    → (put_element namespace name.local attributes false s).forest ≡ element_put (place_in s.open_elems) name attributes s.forest
unfolding put_element
element-there s p here namespace name attributes known =
    let f = with_element s.forest namespace name.local attributes false in
    ap (λ place. put f place (node_count s.forest)) (place-here s.foster_parenting f s.open_elems (foster-none s p here))
    ∙ ap (λ ns. put (with_element s.forest ns name.local attributes false) (place_in s.open_elems) (node_count s.forest)) (sym known)

module _ (name : QualName) (attributes : List Attribute) (before : Settled) (r : State) (p : Spot) (here : IsAt r p)
    (done : before.is_settled ≡ true) (made : Made)
    (o : IsStarted name attributes p (set_ignore_lf false r)
    (settle (start_tag name attributes) (set_ignore_lf false before.state)) made) where
  abbrev opened : Settled
  opened = next (start_tag name attributes) before

  pub opened-now : IsAt opened.state made.spot
  unfolding taken
  opened-now = o.now

  pub opened-done : opened.is_settled ≡ true
  unfolding taken
  opened-done = both-so before.is_settled (settle (start_tag name attributes) (set_ignore_lf false before.state)).is_settled done o.done.1

  pub opened-drops : opened.state.ignore_lf ≡ made.drops_line_feed
  unfolding taken set_ignore_lf
  opened-drops = o.drops refl

  pub opened-tree : opened.state.forest ≡ element_put (place_in r.open_elems) name attributes r.forest
  unfolding taken set_ignore_lf
  opened-tree = o.tree ∙ element-there (set_ignore_lf false r) p (ready r p here) o.namespace name attributes o.known
