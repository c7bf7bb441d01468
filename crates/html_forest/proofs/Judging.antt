-- What is left to judge, after a node.
use Rattle.std.proofs.Common.{◌≡◌, ◌∙◌, ◌+◌, ◌<◌, ℕ, suc, arith, length, Bool, true, false, List, [], ◌∷◌, ◌++◌, Option, Some}
use Rattle.std.proofs.Common.{None, refl, sym, ap}
use Rattle.std.specs.Prelude.{◌&&◌, reverse}
use Rattle.std.proofs.lemmas.List.{reverse-append}
use Rattle.markup.specs.Forest as forest
use Rattle.markup.specs.Forest.{Forest, children_of, data_of, template_of}
use Rattle.markup.specs.Named.{IsTree}
use Rattle.markup.specs.NodeCounts.{nodes_in}
use Rattle.markup.proofs.WholeTrees.{trees-first, trees-none, nodes-first, nodes-none}
use Rattle.markup.specs.Trees.{Trees, Nothing, ProcessingInstruction, Element, inner_of, node_before, trees_before}
use Rattle.markup.specs.declared.attributes.Attribute.{Attribute}
use Rattle.markup.specs.declared.names.QualName.{QualName}
use Rattle.html_plain.specs.Elements.{place_after_element, place_after_text, element_of, inside, may_end}
use Rattle.html_plain.specs.Grammar.{is_plain, is_plain_start, is_some_and}
use Rattle.html_plain.specs.declared.elements.PlainElement.{PlainElement}
use Rattle.html_plain.specs.declared.place.PlainPlace.TheVariants.{BeforeRoot}
use Rattle.html_forest.specs.Judging.{AreChildrenTaken, Descends, GoesOn, IsAround, IsAscent, IsAfterComment, IsAfterDoctype}
use Rattle.html_forest.specs.Judging.{IsAfterText, IsElementTaken, IsTaken, Walk, are_levels_plain, is_left_plain}
use Rattle.html_forest.specs.Judging.{is_walk_plain, nodes_left, plain_by, trees_after, trees_by, waiting_nodes, around_of}
use Rattle.html_forest.specs.Judging.{goes_on_at, is_plain_at, opens_here, takes_comment_here, takes_here}
use Rattle.html_forest.specs.declared.plain.Level.{Level}
use Rattle.html_forest.specs.declared.plain.Stand.{Stand}

pub text-goes_on : (stand : Stand) (text : List ℕ) → takes_here stand text ≡ true → IsAfterText stand text
    (Some (record { place = place_after_text stand.place; after_text = true }))
unfolding is_plain
text-goes_on stand text h rest = rw h refl

pub text-ends : (stand : Stand) (text : List ℕ) → takes_here stand text ≡ false → IsAfterText stand text None
unfolding is_plain
text-ends stand text h rest = rw h refl

pub comment-goes_on : (stand : Stand) (text : List ℕ) → takes_comment_here stand text ≡ true
    → IsAfterComment stand text (Some (record { place = stand.place; after_text = false }))
unfolding is_plain
comment-goes_on stand text h rest = rw h refl

pub comment-ends : (stand : Stand) (text : List ℕ) → takes_comment_here stand text ≡ false → IsAfterComment stand text None
unfolding is_plain
comment-ends stand text h rest = rw h refl

pub doctype-goes_on : (stand : Stand) (name public_id system_id : List ℕ)
    → opens_here stand name public_id system_id ≡ true → IsAfterDoctype stand name public_id system_id
    (Some (record { place = BeforeRoot; after_text = false }))
unfolding is_plain
doctype-goes_on stand name public_id system_id h rest = rw h refl

pub doctype-ends : (stand : Stand) (name public_id system_id : List ℕ)
    → opens_here stand name public_id system_id ≡ false → IsAfterDoctype stand name public_id system_id None
unfolding is_plain
doctype-ends stand name public_id system_id h rest = rw h refl

pub element-goes_on : (stand : Stand) (name : QualName) (attributes : List Attribute) (k : PlainElement)
    → element_of name ≡ Some k → is_plain_start stand.place attributes false k ≡ true
    → IsAround stand name attributes (Some (around_of stand k))
unfolding is_plain
element-goes_on stand name attributes k e h kids rest =
    ap (λ o. is_some_and o (λ k. is_plain_start stand.place attributes false k
    && (is_plain (inside stand.place k) false kids && is_plain (place_after_element stand.place) false rest))) e ∙ (rw h refl)

pub element-ends : (stand : Stand) (name : QualName) (attributes : List Attribute) (k : PlainElement)
    → element_of name ≡ Some k → is_plain_start stand.place attributes false k ≡ false → IsAround stand name attributes None
unfolding is_plain
element-ends stand name attributes k e h kids rest =
    ap (λ o. is_some_and o (λ k. is_plain_start stand.place attributes false k
    && (is_plain (inside stand.place k) false kids && is_plain (place_after_element stand.place) false rest))) e ∙ (rw h refl)

pub no-element : (stand : Stand) (name : QualName) (attributes : List Attribute) → element_of name ≡ None
    → IsAround stand name attributes None
unfolding is_plain
no-element stand name attributes e kids rest =
    ap (λ o. is_some_and o (λ k. is_plain_start stand.place attributes false k
    && (is_plain (inside stand.place k) false kids && is_plain (place_after_element stand.place) false rest))) e

-- WALKS

and-assoc : (a b c : Bool) → ((a && b) && c) ≡ (a && (b && c))
and-assoc true b c = refl
and-assoc false b c = refl

pub and-true : (b : Bool) → (b && true) ≡ b
and-true true = refl
and-true false = refl

reverse-last : (levels : List Level) (level : Level) → reverse (levels ++ level ∷ []) ≡ level ∷ reverse levels
reverse-last levels level = reverse-append levels (level ∷ [])

waiting-more : (f : Forest) (levels : List Level) (level : Level)
    → waiting_nodes f (levels ++ level ∷ []) ≡ waiting_nodes f levels + suc (nodes_in f level.rest + nodes_in f level.rest)
waiting-more f [] level = omega arith
waiting-more f (first ∷ levels) level = omega (arith, waiting-more f levels level)

no-template : (holds rest : Bool) → ((holds && false) && rest) ≡ false
no-template true rest = refl
no-template false rest = refl

template-by : (stand : Stand) (attributes : List Attribute) (inner outer : PlainElement → Bool)
    (o : Option PlainElement) → is_some_and o (λ k. is_plain_start stand.place attributes true k && (inner k && outer k)) ≡ false
template-by stand attributes inner outer None = refl
template-by stand attributes inner outer (Some k) = no-template _ _

template-odd : (stand : Stand) (name : QualName) (attributes : List Attribute) (kids rest : Trees)
    → is_plain_at stand (Element name attributes true kids rest) ≡ false
unfolding is_plain
template-odd stand name attributes kids rest = template-by stand attributes
    (λ k. is_plain (inside stand.place k) false kids) (λ k. is_plain (place_after_element stand.place) false rest) (element_of name)

instruction-odd : (stand : Stand) (target text : List ℕ) (rest : Trees) → is_plain_at stand (ProcessingInstruction target text rest) ≡ false
unfolding is_plain
instruction-odd stand target text rest = refl

pub inner-plain : (f : Forest) (n : ℕ) (b : Bool) → template_of (data_of f n) ≡ b → b ≡ false → inner_of f n ≡ children_of f n
inner-plain f n true e h = absurd cc
inner-plain f n false e h = rw e refl

nothing-plain : (stand : Stand) → is_plain_at stand Nothing ≡ may_end stand.place
unfolding is_plain
nothing-plain stand = refl

-- a list without a length
pub none-left : (levels : List Level) → length levels ≡ 0 → levels ≡ []
none-left [] h = refl
none-left (level ∷ levels) h = absurd (omega (arith, h))

module _ (f : Forest) (tree : IsTree f) where
  -- what comes after those that are judged, and whether what comes then is plain
  abbrev longer_by : Walk → Trees
  longer_by w = trees_before f w.1 (trees_after f (reverse w.2))

  abbrev levels_plain : Walk → Bool
  levels_plain w = are_levels_plain f (reverse w.2)

  abbrev with_node : Walk → ℕ → Walk
  with_node w n = (w.0, n ∷ w.1, w.2)

  node-plain : (w : Walk) (n : ℕ) (about : forest.NodeData) → data_of f n ≡ about
      → is_walk_plain f (with_node w n) ≡
      (is_plain_at w.0 (node_before about (trees_before f (inner_of f n)) (longer_by w)) && levels_plain w)
  node-plain w n about e =
      ap (λ t. is_plain_at w.0 t && levels_plain w)
      (trees-first f tree.forest tree.contents n w.1 (trees_after f (reverse w.2))
      ∙ ap (λ about. node_before about (trees_before f (inner_of f n)) (longer_by w)) e)

  fewer : (old new : Walk) (n : ℕ) → new.1 ≡ old.1 → new.2 ≡ old.2 → nodes_left f new < nodes_left f (with_node old n)
  fewer old new n e k =
      let one = nodes-first f tree.forest tree.contents n old.1 in
      let a : nodes_in f new.1 ≡ nodes_in f old.1 = ap (nodes_in f) e in
      let b : waiting_nodes f new.2 ≡ waiting_nodes f old.2 = ap (waiting_nodes f) k in
      omega (arith, one, a, b)

  went-on : (old new : Walk) (behind : Option Stand) (goes_on : Bool) → GoesOn behind new.0 goes_on → new.1 ≡ old.1
      → new.2 ≡ old.2 → (goes_on_at behind (longer_by old) && levels_plain old) ≡ (goes_on && is_walk_plain f new)
  went-on old new None goes_on g e k = rw g refl
  went-on old new (Some b) goes_on g e k = rw (g.1, g.0, e, k) refl

  -- a node in which nothing stands, after which it goes on or not
  leaf-taken : (old new : Walk) (n : ℕ) (about : forest.NodeData) (behind : Option Stand) (goes_on : Bool)
      → data_of f n ≡ about → ((inner : Trees → Trees) (rest : Trees)
      → is_plain_at old.0 (node_before about inner rest) ≡ goes_on_at behind rest) → GoesOn behind new.0 goes_on
      → new.1 ≡ old.1 → new.2 ≡ old.2
      → IsTaken f n old new goes_on
  leaf-taken old new n about behind goes_on d h g e k = record {
    plain = node-plain old n about d
        ∙ (ap (λ b. b && levels_plain old) (h (trees_before f (inner_of f n)) (longer_by old)) ∙ went-on old new behind goes_on g e k);
    less = λ on. fewer old new n e k;
  }

  pub text-taken : (old new : Walk) (n : ℕ) (text : List ℕ) (behind : Option Stand) (goes_on : Bool)
      → data_of f n ≡ forest.NodeData.Text text → IsAfterText old.0 text behind → GoesOn behind new.0 goes_on
      → new.1 ≡ old.1 → new.2 ≡ old.2 → IsTaken f n old new goes_on
  text-taken old new n text behind goes_on d h g e k = leaf-taken old new n (forest.NodeData.Text text) behind
      goes_on d (λ inner rest. h rest) g e k

  pub comment-taken : (old new : Walk) (n : ℕ) (text : List ℕ) (behind : Option Stand) (goes_on : Bool)
      → data_of f n ≡ forest.NodeData.Comment text → IsAfterComment old.0 text behind → GoesOn behind new.0 goes_on
      → new.1 ≡ old.1 → new.2 ≡ old.2 → IsTaken f n old new goes_on
  comment-taken old new n text behind goes_on d h g e k = leaf-taken old new n (forest.NodeData.Comment text) behind
      goes_on d (λ inner rest. h rest) g e k

  pub doctype-taken : (old new : Walk) (n : ℕ) (name public_id system_id : List ℕ) (behind : Option Stand)
      (goes_on : Bool) → data_of f n ≡ forest.NodeData.Doctype name public_id system_id
      → IsAfterDoctype old.0 name public_id system_id behind → GoesOn behind new.0 goes_on → new.1 ≡ old.1
      → new.2 ≡ old.2 → IsTaken f n old new goes_on
  doctype-taken old new n name public_id system_id behind goes_on d h g e k = leaf-taken old new n
      (forest.NodeData.Doctype name public_id system_id) behind goes_on d (λ inner rest. h rest) g e k

  -- a node that may stand nowhere
  odd : (old new : Walk) (n : ℕ) (about : forest.NodeData) → data_of f n ≡ about
      → is_plain_at old.0 (node_before about (trees_before f (inner_of f n)) (longer_by old)) ≡ false → IsTaken f n old new false
  odd old new n about d h = record { plain = node-plain old n about d ∙ ap (λ b. b && levels_plain old) h; less = λ on. absurd cc }

  pub instruction-taken : (old new : Walk) (n : ℕ) (target text : List ℕ)
      → data_of f n ≡ forest.NodeData.ProcessingInstruction target text → IsTaken f n old new false
  instruction-taken old new n target text d = odd old new n _ d (instruction-odd old.0 target text _)

  pub template-taken : (old new : Walk) (n : ℕ) (name : QualName) (attributes : List Attribute)
      (integration_point : Bool) → data_of f n ≡ forest.NodeData.Element name attributes true integration_point → IsTaken f n old new false
  template-taken old new n name attributes integration_point d = odd old new n _ d (template-odd old.0 name attributes _ _)

  deeper : (old new : Walk) (n : ℕ) (behind : Option Stand) → inner_of f n ≡ children_of f n
      → Descends f n behind old new → nodes_left f new < nodes_left f (with_node old n)
  deeper old new n behind i d =
      let one = nodes-first f tree.forest tree.contents n old.1 in
      let a : nodes_in f new.1 ≡ nodes_in f (inner_of f n) = ap (nodes_in f) (d.0 ∙ sym i) in
      let b : waiting_nodes f new.2 ≡ waiting_nodes f old.2 + suc (nodes_in f old.1 + nodes_in f old.1) =
      ap (waiting_nodes f) d.1 ∙ waiting-more f old.2 (record { behind = behind; rest = old.1 }) in
      omega (arith, one, a, b)

  -- what a walk comes to once it went down
  down : (old new : Walk) (n : ℕ) (behind : Option Stand) → Descends f n behind old new
      → is_walk_plain f new ≡ (is_plain_at new.0
      (trees_before f (children_of f n) (trees_by f behind old.1 (trees_after f (reverse old.2))))
      && plain_by f behind old.1 (trees_after f (reverse old.2)) (levels_plain old))
  down old new n behind d =
      ap (λ ns. is_left_plain f new.0 ns new.2) d.0
      ∙ (ap (λ ls. is_left_plain f new.0 (children_of f n) ls) d.1
      ∙ ap (λ ls. is_plain_at new.0 (trees_before f (children_of f n) (trees_after f ls)) && are_levels_plain f ls)
      (reverse-last old.2 (record { behind = behind; rest = old.1 })))

  pub children-taken : (old new : Walk) (n : ℕ) (goes_on : Bool) (about : forest.NodeData) → data_of f n ≡ about
      → inner_of f n ≡ children_of f n
      → ((inner : Trees → Trees) (rest : Trees) → node_before about inner rest ≡ inner rest)
      → AreChildrenTaken f n old new goes_on → IsTaken f n old new goes_on
  children-taken old new n goes_on about d i same h = record {
    plain =
        node-plain old n about d
        ∙ (ap (λ t. is_plain_at old.0 t && levels_plain old) (same _ _)
        ∙ (ap (λ ns. is_plain_at old.0 (trees_before f ns (longer_by old)) && levels_plain old) i
        ∙ (ap (λ stand. is_plain_at stand (trees_before f (children_of f n) (longer_by old)) && levels_plain old) (sym h.1)
        ∙ (sym (down old new n None h.2) ∙ ap (λ b. b && is_walk_plain f new) (sym h.0)))));
    less = λ on. deeper old new n None i h.2;
  }

  pub element-taken : (old new : Walk) (n : ℕ) (name : QualName) (attributes : List Attribute)
      (integration_point goes_on : Bool) → data_of f n ≡ forest.NodeData.Element name attributes false
      integration_point → IsElementTaken f n name attributes old new goes_on → IsTaken f n old new goes_on
  element-taken old new n name attributes integration_point false d h = odd old new n _ d (h _ _)
  element-taken old new n name attributes integration_point true d h =
      let i : inner_of f n ≡ children_of f n = inner-plain f n _ refl (ap template_of d) in record {
        plain =
            node-plain old n _ d
            ∙ (ap (λ b. b && levels_plain old) (h.1.0 (trees_before f (inner_of f n) Nothing) (longer_by old))
            ∙ (and-assoc (is_plain_at new.0 (trees_before f (inner_of f n) Nothing)) (is_plain_at h.0 (longer_by old)) (levels_plain old)
            ∙ (ap (λ ns. is_plain_at new.0 (trees_before f ns Nothing) && (is_plain_at h.0 (longer_by old) && levels_plain old)) i
            ∙ sym (down old new n (Some h.0) h.1.1))));
        less = λ on. deeper old new n (Some h.0) i h.1.1;
      }

  -- UPWARD

  pub ended : (w : Walk) → w.1 ≡ [] → w.2 ≡ [] → is_walk_plain f w ≡ may_end w.0.place
  ended w e k =
      ap (λ ls. is_left_plain f w.0 w.1 ls) k
      ∙ (ap (λ ns. is_left_plain f w.0 ns []) e
      ∙ (ap (λ t. is_plain_at w.0 t && true) (trees-none f Nothing)
      ∙ (and-true (is_plain_at w.0 Nothing) ∙ nothing-plain w.0)))

  ascent-by : (behind : Option Stand) (rest : List ℕ) (t : Trees) (above : Bool) (old new : Stand) (ends : Bool)
      → IsAscent behind old new ends
      → (is_plain_at old (trees_by f behind rest t) && plain_by f behind rest t above) ≡
      (ends && (is_plain_at new (trees_before f rest t) && above))
  ascent-by None rest t above old new ends h = rw (h.0, h.1) refl
  ascent-by (Some b) rest t above old new ends h =
      rw (h.0, h.1) (ap (λ x. x && (is_plain_at b (trees_before f rest t) && above)) (nothing-plain old))

  pub ascended : (w : Walk) (new : Stand) (init : List Level) (level : Level) (ends : Bool) → w.1 ≡ [] → w.2 ≡ init
      ++ level ∷ [] → IsAscent level.behind w.0 new ends → is_walk_plain f w ≡ (ends && is_walk_plain f (new, level.rest, init))
  ascended w new init level ends e k h =
      ap (λ ls. is_left_plain f w.0 w.1 ls) k
      ∙ (ap (λ ns. is_left_plain f w.0 ns (init ++ level ∷ [])) e
      ∙ (ap (λ ls. is_plain_at w.0 (trees_before f [] (trees_after f ls)) && are_levels_plain f ls) (reverse-last init level)
      ∙ (ap (λ t. is_plain_at w.0 t && are_levels_plain f (level ∷ reverse init)) (trees-none f (trees_after f (level ∷ reverse init)))
      ∙ ascent-by level.behind level.rest (trees_after f (reverse init)) (are_levels_plain f (reverse init)) w.0 new ends h)))

  -- where a level goes on: where those before it may not end nothing is plain, and else what is left is
  pub ascent-odd : (w v : Walk) (init : List Level) (level : Level) (ends whole : Bool) → w.1 ≡ [] → w.2 ≡ init
      ++ level ∷ [] → IsAscent level.behind w.0 v.0 ends → ends ≡ false → is_walk_plain f w ≡ whole → false ≡ whole
  ascent-odd w v init level ends whole e k h odd is =
      sym (ap (λ b. b && is_walk_plain f (v.0, level.rest, init)) odd) ∙ (sym (ascended w v.0 init level ends e k h) ∙ is)

  pub ascent-kept : (w v : Walk) (init : List Level) (level : Level) (ends whole : Bool) → w.1 ≡ [] → w.2 ≡ init
      ++ level ∷ [] → IsAscent level.behind w.0 v.0 ends → v.1 ≡ level.rest → v.2 ≡ init → ends ≡ true
      → is_walk_plain f w ≡ whole → is_walk_plain f v ≡ whole
  ascent-kept w v init level ends whole e k h r i even is =
      ap (λ ns. is_left_plain f v.0 ns v.2) r
      ∙ (ap (λ ls. is_left_plain f v.0 level.rest ls) i
      ∙ (sym (ap (λ b. b && is_walk_plain f (v.0, level.rest, init)) even) ∙ (sym (ascended w v.0 init level ends e k h) ∙ is)))

  -- less is left once a level is gone
  pub ascent-less : (w v : Walk) (init : List Level) (level : Level) → w.1 ≡ [] → w.2 ≡ init ++ level ∷
      [] → v.1 ≡ level.rest → v.2 ≡ init → nodes_left f v < nodes_left f w
  ascent-less w v init level e k r i =
      let a : nodes_in f w.1 ≡ 0 = ap (nodes_in f) e ∙ nodes-none f in
      let b : waiting_nodes f w.2 ≡ waiting_nodes f init + suc (nodes_in f level.rest + nodes_in f level.rest) =
      ap (waiting_nodes f) k ∙ waiting-more f init level in
      let c : nodes_in f v.1 ≡ nodes_in f level.rest = ap (nodes_in f) r in
      let d : waiting_nodes f v.2 ≡ waiting_nodes f init = ap (waiting_nodes f) i in
      omega (arith, a, b, c, d)
