-- Which node is the first that is not read, as the walk goes on.
use Rattle.std.proofs.Common.{◌≡◌, ◌∙◌, ℕ, Bool, true, false, List, [], ◌∷◌, ◌++◌, Option, Some, None, refl, sym, ap, ap₂, subst}
use Rattle.std.proofs.Common.{true≢false}
use Rattle.std.specs.Prelude.{IfSome, reverse}
use Rattle.std.proofs.lemmas.List.{reverse-append}
use Rattle.markup.specs.Forest as forest
use Rattle.markup.specs.Forest.{Forest, NodeData, children_of, data_of}
use Rattle.markup.specs.Trees.{inner_of}
use Rattle.markup.specs.declared.attributes.Attribute.{Attribute}
use Rattle.markup.specs.declared.names.QualName.{QualName}
use Rattle.html_faithful.specs.Spots.{Spot}
use Rattle.markup.specs.declared.quirks.QuirksMode.TheVariants.{Quirks}
use Rattle.html_rules.specs.declared.rules.Rules.TheVariants.{Html5ever}
use Rattle.html_faithful.specs.Walk.{first_spot}
use Rattle.html_faithful_walk.specs.First.{AtEnd, Bare, Element, End, First, Leaf, OddBare, OddEnd, OddInside, OddLeaf, OddStart}
use Rattle.html_faithful_walk.specs.First.{Outcome, Point, Reads}
use Rattle.html_faithful_walk.specs.First.{Inside, IsFirst, Through, entered, is_bare, is_end, is_leaf, leaf_read, left}
use Rattle.html_faithful_walk.specs.Firsts.{ByEnd, IsPast, IsTagTaken, IsUpward, Leads, LeftAt, LeftOf, Went, left_by, point_if, point_of}
use Rattle.html_faithful_walk.specs.Left.{Walk, descends}
use Rattle.html_faithful_walk.specs.Steps.{parent_of}
use Rattle.html_faithful_walk.specs.declared.parents.Parent.TheVariants.{Document}
use Rattle.html_faithful_walk.specs.declared.stand.Inside.TheVariants.{Start}
use Rattle.html_faithful_walk.specs.declared.stand.After.{After}
use Rattle.html_faithful_walk.specs.declared.walker.Level.{Level}

reverse-last : (levels : List Level) (level : Level) → reverse (levels ++ level ∷ []) ≡ level ∷ reverse levels
reverse-last levels level = reverse-append levels (level ∷ [])

pub some-weaker : {A : Type 0} (o : Option A) (P Q : A → Type 0) → ((x : A) → P x → Q x) → IfSome o P → IfSome o Q
some-weaker None P Q h k = tt
some-weaker (Some x) P Q h k = h x k

module _ (scripting : Bool) (f : Forest) where
  -- more before what is left
  pub lift : (levels : List Level) (ns ms : List ℕ) (at to : Point)
      → ((x : Outcome) → Reads scripting f ms to x → Reads scripting f ns at x)
      → (o : Outcome) → LeftOf scripting f levels ms to o → LeftOf scripting f levels ns at o
  lift [] ns ms at to h o r = h o r
  lift (level ∷ levels) ns ms at to h o r = (r.0, (h r.0 r.1.0, r.1.1))

  at-once : (levels : List Level) (ns : List ℕ) (at : Point) (m : ℕ) → Reads scripting f ns at (First m)
      → LeftOf scripting f levels ns at (First m)
  at-once [] ns at m r = r
  at-once (level ∷ levels) ns at m r = (First m, (r, refl))

  at-once-as : (levels : List Level) (ns : List ℕ) (at : Point) (m : ℕ) (o : Outcome) → o ≡ First m → Reads scripting f ns at (First m)
      → LeftOf scripting f levels ns at o
  at-once-as levels ns at m o e r = subst (λ o. LeftOf scripting f levels ns at o) (sym e) (at-once levels ns at m r)

  -- LEAVES

  pub leaf-past : (old new : Walk) (n : ℕ) (about : NodeData) (goes_on : Bool) → data_of f n ≡ about → is_leaf about ≡ true
      → leaf_read about (point_of old.stand old.spot) ≡ point_if goes_on (point_of new.stand new.spot)
      → new.nodes ≡ old.nodes → new.levels ≡ old.levels → IsPast scripting f n old new goes_on
  leaf-past old new n about true d leaf e k l = λ o r.
      let at = point_of old.stand old.spot in
      let to = point_of new.stand new.spot in
      lift (reverse old.levels) (n ∷ old.nodes) old.nodes at to
      (λ x r. Leaf to (ap is_leaf d ∙ leaf) (ap (λ about. leaf_read about at) d ∙ e) r) o
      (subst (λ ls. LeftOf scripting f (reverse ls) old.nodes to o) l (subst (λ ns. LeftOf scripting f (reverse new.levels) ns to o) k r))
  leaf-past old new n about false d leaf e k l =
      let at = point_of old.stand old.spot in
      at-once (reverse old.levels) (n ∷ old.nodes) at n (OddLeaf (ap is_leaf d ∙ leaf) (ap (λ about. leaf_read about at) d ∙ e))

  -- DOWNWARD

  -- what is left is that below a node, which waits
  down-as : (old new : Walk) (n inner : ℕ) (behind : Option After) → descends f n inner behind old.nodes old.levels new.nodes new.levels
      → (o : Outcome) → LeftAt scripting f new o
      → LeftOf scripting f (record { node = n; behind = behind; rest = old.nodes } ∷ reverse old.levels) (children_of f inner)
      (point_of new.stand new.spot) o
  down-as old new n inner behind d o r =
      let to = point_of new.stand new.spot in
      subst (λ ls. LeftOf scripting f ls (children_of f inner) to o)
      (ap reverse d.1 ∙ reverse-last old.levels (record { node = n; behind = behind; rest = old.nodes }))
      (subst (λ ns. LeftOf scripting f (reverse new.levels) ns to o) d.0 r)

  pub bare-past : (old new : Walk) (n : ℕ) (about : NodeData) → data_of f n ≡ about → is_bare about ≡ true
      → new.stand ≡ old.stand → new.spot ≡ old.spot → descends f n n None old.nodes old.levels new.nodes new.levels
      → IsPast scripting f n old new true
  bare-past old new n about d bare e k descent o r =
      let at = point_of old.stand old.spot in
      let same : point_of new.stand new.spot ≡ at = ap₂ point_of e k in
      let down = subst (λ to. LeftOf scripting f (record { node = n; behind = None; rest = old.nodes } ∷ reverse old.levels)
      (children_of f n) to o) same (down-as old new n n None descent o r) in
      by down.0 down.1.0 down.1.1 where
        by : (x : Outcome) → Reads scripting f (children_of f n) (point_of old.stand old.spot) x
            → Went None n x o (λ at o. LeftOf scripting f (reverse old.levels) old.nodes at o)
            → LeftOf scripting f (reverse old.levels) (n ∷ old.nodes) (point_of old.stand old.spot) o
        by (First m) reads w =
            at-once-as (reverse old.levels) (n ∷ old.nodes) (point_of old.stand old.spot) m o w (OddBare m (ap is_bare d ∙ bare) reads)
        by (Through last) reads w =
            lift (reverse old.levels) (n ∷ old.nodes) old.nodes (point_of old.stand old.spot) last
            (λ x r. Bare last (ap is_bare d ∙ bare) reads r) o w

  module _ (old new : Walk) (n inner : ℕ) (name : QualName) (attributes : List Attribute) (template integration_point : Bool)
      (after : After)
      (d : data_of f n ≡ forest.NodeData.Element name attributes template integration_point) (i : inner_of f n ≡ children_of f inner)
      (e : entered scripting name attributes template (point_of old.stand old.spot) ≡ Some (point_of new.stand new.spot))
      (l : (last : Point) → left_by after last ≡ left name (parent_of old.stand.parent) last) where
    abbrev at : Point
    at = point_of old.stand old.spot

    abbrev to : Point
    to = point_of new.stand new.spot

    abbrev Whole : Outcome → Type 0
    Whole o = LeftOf scripting f (reverse old.levels) (n ∷ old.nodes) at o

    kids-read : (x : Outcome) → Reads scripting f (children_of f inner) to x → Reads scripting f (inner_of f n) to x
    kids-read x r = subst (λ ns. Reads scripting f ns to x) (sym i) r

    end-past : (last : Point) (o : Outcome) (q : Option Point) → left_by after last ≡ q
        → Reads scripting f (children_of f inner) to (Through last)
        → ByEnd q n o (λ at o. LeftOf scripting f (reverse old.levels) old.nodes at o) → Whole o
    end-past last o None k reads w =
        at-once-as (reverse old.levels) (n ∷ old.nodes) at n o w
        (OddEnd name attributes template integration_point to last d e (kids-read (Through last) reads) (sym (l last) ∙ k))
    end-past last o (Some next) k reads w =
        lift (reverse old.levels) (n ∷ old.nodes) old.nodes at next
        (λ x r. Element name attributes template integration_point to last next d e (kids-read (Through last) reads)
        (sym (l last) ∙ k) r) o w

    kids-past : (x o : Outcome) → Reads scripting f (children_of f inner) to x
        → Went (Some after) n x o (λ at o. LeftOf scripting f (reverse old.levels) old.nodes at o) → Whole o
    kids-past (First m) o reads w =
        at-once-as (reverse old.levels) (n ∷ old.nodes) at m o w
        (OddInside m name attributes template integration_point to d e (kids-read (First m) reads))
    kids-past (Through last) o reads w = end-past last o (left_by after last) refl reads w

    element-past : descends f n inner (Some after) old.nodes old.levels new.nodes new.levels → IsPast scripting f n old new true
    element-past descent o r =
        let down = down-as old new n inner (Some after) descent o r in
        kids-past down.0 o down.1.0 down.1.1

  element-odd : (old new : Walk) (n : ℕ) (name : QualName) (attributes : List Attribute) (template integration_point : Bool)
      → data_of f n ≡ forest.NodeData.Element name attributes template integration_point
      → entered scripting name attributes template (point_of old.stand old.spot) ≡ None → IsPast scripting f n old new false
  element-odd old new n name attributes template integration_point d e =
      at-once (reverse old.levels) (n ∷ old.nodes) (point_of old.stand old.spot) n (OddStart name attributes template integration_point d e)

  pub tag-past : (old new : Walk) (n inner : ℕ) (name : QualName) (attributes : List Attribute) (template integration_point goes_on : Bool)
      → data_of f n ≡ forest.NodeData.Element name attributes template integration_point → inner_of f n ≡ children_of f inner
      → IsTagTaken scripting f n inner name attributes template old new goes_on → IsPast scripting f n old new goes_on
  tag-past old new n inner name attributes template integration_point false d i h =
      element-odd old new n name attributes template integration_point d h
  tag-past old new n inner name attributes template integration_point true d i h =
      element-past old new n inner name attributes template integration_point h.0 d i h.1.0.0 h.1.0.1 h.1.1

  pub past-as : (old new : Walk) (n : ℕ) (goes_on : Bool) → goes_on ≡ true → IsPast scripting f n old new true
      → IsPast scripting f n old new goes_on
  past-as old new n true e h = h
  past-as old new n false e h = absurd (true≢false (sym e))

  -- THE LOOP

  pub start-leads : (spot : Spot) (nodes : List ℕ) (levels : List Level) → spot ≡ first_spot Html5ever scripting Quirks
      → nodes ≡ children_of f 0 → levels ≡ [] → Leads scripting f (record {
        stand = record { parent = Document; after_text = false; drops = false; inside = Start };
        spot = spot;
        nodes = nodes;
        levels = levels;
      })
  start-leads spot nodes levels e k l o r =
      let at = λ (p : Spot). point_of (record { parent = Document; after_text = false; drops = false; inside = Start }) p in
      subst (λ p. Reads scripting f (children_of f 0) (at p) o) e
      (subst (λ ns. Reads scripting f ns (at spot) o) k (subst (λ ls. LeftOf scripting f (reverse ls) nodes (at spot) o) l r))

  -- a node was taken
  pub leads-on : (old new : Walk) (n : ℕ) (goes_on : Bool) → goes_on ≡ true → IsPast scripting f n old new goes_on
      → Leads scripting f (record old { nodes = n ∷ old.nodes }) → Leads scripting f new
  leads-on old new n true e past h = λ o r. h o (past o r)
  leads-on old new n false e past h = absurd (true≢false (sym e))

  pub leads-as : (w : Walk) (ns : List ℕ) → w.nodes ≡ ns → Leads scripting f w → Leads scripting f (record w { nodes = ns })
  leads-as w ns e h = subst (λ ns. Leads scripting f (record w { nodes = ns })) e h

  pub first-here : (old new : Walk) (n : ℕ) (goes_on : Bool) → goes_on ≡ false → IsPast scripting f n old new goes_on
      → Leads scripting f (record old { nodes = n ∷ old.nodes }) → IsFirst scripting f n
  first-here old new n true e past h = absurd (true≢false e)
  first-here old new n false e past h = Inside (h (First n) past)

  -- UPWARD

  -- the walk goes on behind the nodes that ended
  up-past : (w old new : Walk) (init : List Level) (level : Level) → w.nodes ≡ [] → w.levels ≡ init ++ level ∷ []
      → point_of old.stand old.spot ≡ point_of w.stand w.spot
      → IsUpward level.behind (point_of old.stand old.spot) (point_of new.stand new.spot) true → new.nodes ≡ level.rest → new.levels ≡ init
      → (o : Outcome) → LeftAt scripting f new o → LeftAt scripting f w o
  up-past w old new init level e k p h r i o left_new =
      let at = point_of w.stand w.spot in
      let to = point_of new.stand new.spot in
      let upper : LeftOf scripting f (reverse init) level.rest to o =
      subst (λ ls. LeftOf scripting f (reverse ls) level.rest to o) i
      (subst (λ ns. LeftOf scripting f (reverse new.levels) ns to o) r left_new) in
      let whole : LeftOf scripting f (level ∷ reverse init) [] at o = (
        Through at,
        (
          End,
          up-by level.behind level.node o upper
              (subst (λ q. IsUpward level.behind q to true) p h),
        ),
      ) in
      subst (λ ls. LeftOf scripting f ls w.nodes at o) (sym (ap reverse k ∙ reverse-last init level))
      (subst (λ ns. LeftOf scripting f (level ∷ reverse init) ns at o) (sym e) whole) where
        up-by : (behind : Option After) (n : ℕ) (o : Outcome) → LeftOf scripting f (reverse init) level.rest (point_of new.stand new.spot) o
            → IsUpward behind (point_of w.stand w.spot) (point_of new.stand new.spot) true
            → Went behind n (Through (point_of w.stand w.spot)) o (λ at o. LeftOf scripting f (reverse init) level.rest at o)
        up-by None n o upper h = subst (λ at. LeftOf scripting f (reverse init) level.rest at o) h.0 upper
        up-by (Some after) n o upper h =
            subst (λ q. ByEnd q n o (λ at o. LeftOf scripting f (reverse init) level.rest at o)) (sym h) upper

  pub leads-up : (w old new : Walk) (init : List Level) (level : Level) (goes_on : Bool) → goes_on ≡ true → w.nodes ≡ [] → w.levels
      ≡ init ++ level ∷ []
      → point_of old.stand old.spot ≡ point_of w.stand w.spot
      → IsUpward level.behind (point_of old.stand old.spot) (point_of new.stand new.spot) goes_on → new.nodes ≡ level.rest → new.levels
      ≡ init
      → Leads scripting f w → Leads scripting f new
  leads-up w old new init level true g e k p h r i leads o left_new = leads o (up-past w old new init level e k p h r i o left_new)
  leads-up w old new init level false g e k p h r i leads o left_new = absurd (true≢false (sym g))

  -- or the element whose end is not read is the first
  up-odd : (w old new : Walk) (init : List Level) (level : Level) → w.nodes ≡ [] → w.levels ≡ init ++ level ∷ []
      → point_of old.stand old.spot ≡ point_of w.stand w.spot
      → IsUpward level.behind (point_of old.stand old.spot) (point_of new.stand new.spot) false → LeftAt scripting f w (First level.node)
  up-odd w old new init level e k p h =
      let at = point_of w.stand w.spot in
      let to = point_of new.stand new.spot in
      let whole : LeftOf scripting f (level ∷ reverse init) [] at (First level.node) =
      (Through at, (End, odd-by level.behind level.node (subst (λ q. IsUpward level.behind q to false) p h))) in
      subst (λ ls. LeftOf scripting f ls w.nodes at (First level.node)) (sym (ap reverse k ∙ reverse-last init level))
      (subst (λ ns. LeftOf scripting f (level ∷ reverse init) ns at (First level.node)) (sym e) whole) where
        odd-by : (behind : Option After) (n : ℕ) → IsUpward behind (point_of w.stand w.spot) (point_of new.stand new.spot) false
            → Went behind n (Through (point_of w.stand w.spot)) (First n) (λ at o. LeftOf scripting f (reverse init) level.rest at o)
        odd-by None n h = absurd (true≢false (sym h.1))
        odd-by (Some after) n h =
            subst (λ q. ByEnd q n (First n) (λ at o. LeftOf scripting f (reverse init) level.rest at o)) (sym h) refl

  pub first-up : (w old new : Walk) (init : List Level) (level : Level) (goes_on : Bool) → goes_on ≡ false → w.nodes ≡ [] → w.levels
      ≡ init ++ level ∷ []
      → point_of old.stand old.spot ≡ point_of w.stand w.spot
      → IsUpward level.behind (point_of old.stand old.spot) (point_of new.stand new.spot) goes_on
      → Leads scripting f w → IsFirst scripting f level.node
  first-up w old new init level true g e k p h leads = absurd (true≢false g)
  first-up w old new init level false g e k p h leads = Inside (leads (First level.node) (up-odd w old new init level e k p h))

  -- all was read, and the document may not end there
  pub first-end : (w : Walk) (n : ℕ) → w.nodes ≡ [] → w.levels ≡ [] → n ≡ 0 → is_end (point_of w.stand w.spot) ≡ false
      → Leads scripting f w → IsFirst scripting f n
  first-end w n e k z odd leads =
      let at = point_of w.stand w.spot in
      let whole : LeftAt scripting f w (Through at) =
      subst (λ ls. LeftOf scripting f (reverse ls) w.nodes at (Through at)) (sym k)
      (subst (λ ns. Reads scripting f ns at (Through at)) (sym e) End) in
      subst (λ m. IsFirst scripting f m) (sym z) (AtEnd at (leads (Through at) whole) odd)
