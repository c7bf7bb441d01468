-- What is left to walk of a forest, after a node and after an element.
use Rattle.std.proofs.Common.{◌≡◌, ◌∙◌, ◌+◌, ◌<◌, ℕ, suc, arith, Bool, true, false, List, [], ◌∷◌, ◌++◌, Option, Some, None, refl, sym}
use Rattle.std.proofs.Common.{ap, ap₂}
use Rattle.std.proofs.Common.{length}
use Rattle.std.specs.Prelude.{◌&&◌, cond, reverse}
use Rattle.std.proofs.lemmas.List.{reverse-append}
use Rattle.markup.specs.Forest as forest
use Rattle.markup.specs.Forest.{Forest, children_of, contents_of, data_of, template_of}
use Rattle.markup.specs.Named.{IsTree}
use Rattle.markup.specs.NodeCounts.{nodes_in}
use Rattle.markup.proofs.WholeTrees.{trees-first, trees-none, nodes-first, nodes-none}
use Rattle.markup.specs.Trees.{Trees, Nothing, Text, Comment, ProcessingInstruction, Doctype, Element, inner_of, node_before, trees_before}
use Rattle.markup.specs.declared.attributes.Attribute.{Attribute}
use Rattle.markup.specs.declared.names.QualName.{QualName}
use Rattle.markup.specs.declared.quirks.QuirksMode.TheVariants.{Quirks}
use Rattle.html_rules.specs.Choice.{choose}
use Rattle.html_faithful.specs.Harmless.{and_then}
use Rattle.html_faithful.specs.Spots.{Spot}
use Rattle.html_rules.specs.declared.rules.Rules.TheVariants.{Html5ever}
use Rattle.html_faithful.specs.Walk.{OfDocument, first_spot, is_at_end, is_faithful, is_faithful_by, is_faithful_forest}
use Rattle.html_faithful_walk.specs.Left.{IsAscent, IsElementTaken, IsTaken, Walk, descends, ended_by, left, levels_left, nodes_left}
use Rattle.html_faithful_walk.specs.Left.{trees_after, trees_by, waiting_nodes, with_node}
use Rattle.html_faithful_walk.specs.Steps.{spot_if}
use Rattle.html_faithful_walk.specs.Walking.{Passes, after_stand, around, begun, finish_by, walk_at}
use Rattle.html_faithful_walk.specs.declared.parents.Parent.TheVariants.{Document}
use Rattle.html_faithful_walk.specs.declared.stand.After.{After}
use Rattle.html_faithful_walk.specs.declared.stand.Inside.TheVariants.{Start}
use Rattle.html_faithful_walk.specs.declared.stand.Stand.{Stand}
use Rattle.html_faithful_walk.specs.declared.walker.Level.{Level}
use Rattle.html_faithful_walk.proofs.Options.{choose-first, then-assoc, then-same, then-some}

reverse-last : (levels : List Level) (level : Level) → reverse (levels ++ level ∷ []) ≡ level ∷ reverse levels
reverse-last levels level = reverse-append levels (level ∷ [])

waiting-more : (f : Forest) (levels : List Level) (level : Level)
    → waiting_nodes f (levels ++ level ∷ []) ≡ waiting_nodes f levels + suc (nodes_in f level.rest + nodes_in f level.rest)
waiting-more f [] level = omega arith
waiting-more f (first ∷ levels) level = omega (arith, waiting-more f levels level)

pub none-left : (levels : List Level) → length levels ≡ 0 → levels ≡ []
none-left [] h = refl
none-left (level ∷ levels) h = absurd (omega (arith, h))

inner-by : (f : Forest) (n inner : ℕ) (b : Bool) → template_of (data_of f n) ≡ b → Some inner ≡ cond b (Some (n + 1)) None
    → inner_of f n ≡ children_of f inner
inner-by f n inner true e h = rw e (ap (children_of f) (let same : inner ≡ n + 1 = cc in sym same))
inner-by f n inner false e h = absurd cc

-- the nodes in a template are those in its contents
pub inner-contents : (f : Forest) (n inner : ℕ) → Some inner ≡ contents_of f n → inner_of f n ≡ children_of f inner
inner-contents f n inner h = inner-by f n inner (template_of (data_of f n)) refl h

pub inner-plain : (f : Forest) (n : ℕ) (b : Bool) → template_of (data_of f n) ≡ b → b ≡ false → inner_of f n ≡ children_of f n
inner-plain f n true e h = absurd cc
inner-plain f n false e h = rw e refl

spot-first : {A : Type 0} (b : Bool) (p : Spot) (f : Spot → Option A) → and_then (spot_if b p) f ≡ choose b (λ _. f p) (λ _. None)
spot-first true p f = refl
spot-first false p f = refl

module _ (scripting : Bool) (f : Forest) (tree : IsTree f) where
  -- what comes after the nodes that are next, and where that ends
  abbrev longer : Walk → Trees
  longer w = trees_before f w.nodes (trees_after f (reverse w.levels))

  abbrev above : Walk → Spot → Option Spot
  above w p = levels_left scripting f (reverse w.levels) p

  node-left : (w : Walk) (n : ℕ) (about : forest.NodeData) → data_of f n ≡ about → left scripting f (with_node n w)
      ≡ and_then (walk_at scripting w.stand (node_before about (trees_before f (inner_of f n)) (longer w)) w.spot) (λ p. above w p)
  node-left w n about e =
      ap (λ t. and_then (walk_at scripting w.stand t w.spot) (λ p. above w p))
      (trees-first f tree.forest tree.contents n w.nodes (trees_after f (reverse w.levels))
      ∙ ap (λ about. node_before about (trees_before f (inner_of f n)) (longer w)) e)

  left-as : (old new : Walk) → new.nodes ≡ old.nodes → new.levels ≡ old.levels
      → and_then (walk_at scripting new.stand (longer old) new.spot) (λ p. above old p) ≡ left scripting f new
  left-as old new e k =
      ap₂ (λ ns ls. and_then (walk_at scripting new.stand (trees_before f ns (trees_after f (reverse ls))) new.spot)
      (λ p. levels_left scripting f (reverse ls) p)) (sym e) (sym k)

  fewer : (old new : Walk) (n : ℕ) → new.nodes ≡ old.nodes → new.levels ≡ old.levels → nodes_left f new < nodes_left f (with_node n old)
  fewer old new n e k =
      let one = nodes-first f tree.forest tree.contents n old.nodes in
      let a : nodes_in f new.nodes ≡ nodes_in f old.nodes = ap (nodes_in f) e in
      let b : waiting_nodes f new.levels ≡ waiting_nodes f old.levels = ap (waiting_nodes f) k in
      omega (arith, one, a, b)

  -- a node in which nothing stands
  pub leaf-taken : (old new : Walk) (n : ℕ) (about : forest.NodeData) (tree_of : Trees → Trees) (goes_on : Bool) → data_of f n ≡ about
      → ((inner : Trees → Trees) (rest : Trees) → node_before about inner rest ≡ tree_of rest)
      → Passes tree_of old.stand old.spot new.stand new.spot goes_on → new.nodes ≡ old.nodes → new.levels ≡ old.levels
      → IsTaken scripting f n old new goes_on
  leaf-taken old new n about tree_of goes_on d h passes e k = record {
    ends =
        node-left old n about d
        ∙ (ap (λ t. and_then (walk_at scripting old.stand t old.spot) (λ p. above old p)) (h _ _)
        ∙ (ap (λ o. and_then o (λ p. above old p)) (passes scripting (longer old))
        ∙ (choose-first goes_on (walk_at scripting new.stand (longer old) new.spot) (λ p. above old p)
        ∙ ap (λ o. choose goes_on (λ _. o) (λ _. None)) (left-as old new e k))));
    less = λ on. fewer old new n e k;
  }

  deeper : (old new : Walk) (n inner : ℕ) (behind : Option After) → inner_of f n ≡ children_of f inner
      → descends f n inner behind old.nodes old.levels new.nodes new.levels → nodes_left f new < nodes_left f (with_node n old)
  deeper old new n inner behind i d =
      let one = nodes-first f tree.forest tree.contents n old.nodes in
      let a : nodes_in f new.nodes ≡ nodes_in f (inner_of f n) = ap (nodes_in f) (d.0 ∙ sym i) in
      let b : waiting_nodes f new.levels ≡ waiting_nodes f old.levels + suc (nodes_in f old.nodes + nodes_in f old.nodes) =
      ap (waiting_nodes f) d.1 ∙ waiting-more f old.levels (record { node = n; behind = behind; rest = old.nodes }) in
      omega (arith, one, a, b)

  -- what is left of a walk once it went down
  down : (old new : Walk) (n inner : ℕ) (behind : Option After) → descends f n inner behind old.nodes old.levels new.nodes new.levels
      → left scripting f new ≡ and_then (walk_at scripting new.stand
      (trees_before f (children_of f inner) (trees_by f behind old.nodes (trees_after f (reverse old.levels)))) new.spot)
      (λ p. ended_by scripting f behind old.nodes (trees_after f (reverse old.levels)) (λ p. above old p) p)
  down old new n inner behind d =
      ap₂ (λ ns ls. and_then (walk_at scripting new.stand (trees_before f ns (trees_after f ls)) new.spot)
      (λ p. levels_left scripting f ls p)) d.0
      (ap reverse d.1 ∙ reverse-last old.levels (record { node = n; behind = behind; rest = old.nodes }))

  pub children-taken : (old new : Walk) (n : ℕ) (about : forest.NodeData) → data_of f n ≡ about → inner_of f n ≡ children_of f n
      → ((inner : Trees → Trees) (rest : Trees) → node_before about inner rest ≡ inner rest)
      → new.stand ≡ old.stand → new.spot ≡ old.spot → descends f n n None old.nodes old.levels new.nodes new.levels
      → IsTaken scripting f n old new true
  children-taken old new n about d i same e k descent = record {
    ends =
        node-left old n about d
        ∙ (ap (λ t. and_then (walk_at scripting old.stand t old.spot) (λ p. above old p)) (same _ _)
        ∙ (ap (λ ns. and_then (walk_at scripting old.stand (trees_before f ns (longer old)) old.spot) (λ p. above old p)) i
        ∙ (ap₂ (λ (stand : Stand) (spot : Spot). and_then (walk_at scripting stand (trees_before f (children_of f n) (longer old)) spot)
        (λ p. above old p)) (sym e) (sym k)
        ∙ sym (down old new n n None descent))));
    less = λ on. deeper old new n n None i descent;
  }

  around-then : (stand : Stand) (p : Spot) (after : After) (kids rest : Trees) (more : Spot → Option Spot)
      → and_then (around scripting stand p after kids rest) more
      ≡ and_then (walk_at scripting stand kids p)
      (λ p. and_then (finish_by after.finishes p) (λ p. and_then (walk_at scripting (after_stand after.parent) rest p) more))
  around-then stand p after kids rest more =
      then-assoc (walk_at scripting stand kids p)
      (λ p. and_then (finish_by after.finishes p) (λ p. walk_at scripting (after_stand after.parent) rest p)) more
      ∙ then-same (walk_at scripting stand kids p) _ _
      (λ p. then-assoc (finish_by after.finishes p) (λ p. walk_at scripting (after_stand after.parent) rest p) more)

  pub element-taken : (old new : Walk) (n inner : ℕ) (name : QualName) (attributes : List Attribute)
      (template integration_point goes_on : Bool) → data_of f n ≡ forest.NodeData.Element name attributes template integration_point
      → inner_of f n ≡ children_of f inner
      → IsElementTaken scripting f n inner name attributes template old new goes_on → IsTaken scripting f n old new goes_on
  element-taken old new n inner name attributes template integration_point false d i h = record {
    ends = node-left old n _ d ∙ ap (λ o. and_then o (λ p. above old p)) (h (trees_before f (inner_of f n) Nothing) (longer old));
    less = λ on. absurd cc;
  }
  element-taken old new n inner name attributes template integration_point true d i h = record {
    ends =
        node-left old n _ d
        ∙ (ap (λ o. and_then o (λ p. above old p)) (h.1.0 (trees_before f (inner_of f n) Nothing) (longer old))
        ∙ (around-then new.stand new.spot h.0 (trees_before f (inner_of f n) Nothing) (longer old) (λ p. above old p)
        ∙ (ap (λ ns. and_then (walk_at scripting new.stand (trees_before f ns Nothing) new.spot)
        (λ p. and_then (finish_by h.0.finishes p)
        (λ p. and_then (walk_at scripting (after_stand h.0.parent) (longer old) p) (λ p. above old p)))) i
        ∙ sym (down old new n inner (Some h.0) h.1.1))));
    less = λ on. deeper old new n inner (Some h.0) i h.1.1;
  }

  -- UPWARD

  pub ended : (w : Walk) → w.nodes ≡ [] → w.levels ≡ [] → left scripting f w ≡ walk_at scripting w.stand Nothing w.spot
  ended w e k =
      ap₂ (λ ns ls. and_then (walk_at scripting w.stand (trees_before f ns (trees_after f (reverse ls))) w.spot)
      (λ p. levels_left scripting f (reverse ls) p)) e k
      ∙ (ap (λ t. and_then (walk_at scripting w.stand t w.spot) (λ p. Some p)) (trees-none f Nothing)
      ∙ then-some (walk_at scripting w.stand Nothing w.spot))

  after-by : (new : Walk) (goes_on : Bool) (after : After) (t : Trees) (more : Spot → Option Spot)
      → (goes_on ≡ true → new.stand ≡ after_stand after.parent)
      → choose goes_on (λ _. and_then (walk_at scripting (after_stand after.parent) t new.spot) more) (λ _. None)
      ≡ choose goes_on (λ _. and_then (walk_at scripting new.stand t new.spot) more) (λ _. None)
  after-by new false after t more h = refl
  after-by new true after t more h = ap (λ (stand : Stand). and_then (walk_at scripting stand t new.spot) more) (sym (h refl))

  ascent-by : (behind : Option After) (rest : List ℕ) (t : Trees) (more : Spot → Option Spot) (w new : Walk) (goes_on : Bool)
      → IsAscent behind w new goes_on
      → and_then (walk_at scripting w.stand (trees_by f behind rest t) w.spot) (λ p. ended_by scripting f behind rest t more p)
      ≡ choose goes_on (λ _. and_then (walk_at scripting new.stand (trees_before f rest t) new.spot) more) (λ _. None)
  ascent-by None rest t more w new goes_on h =
      ap₂ (λ (stand : Stand) (spot : Spot). and_then (walk_at scripting stand (trees_before f rest t) spot) more) (sym h.0) (sym h.1)
      ∙ ap (λ b. choose b (λ _. and_then (walk_at scripting new.stand (trees_before f rest t) new.spot) more) (λ _. None)) (sym h.2)
  ascent-by (Some after) rest t more w new goes_on h =
      sym (then-assoc (walk_at scripting w.stand Nothing w.spot) (λ p. finish_by after.finishes p)
      (λ p. and_then (walk_at scripting (after_stand after.parent) (trees_before f rest t) p) more))
      ∙ (ap (λ o. and_then o (λ p. and_then (walk_at scripting (after_stand after.parent) (trees_before f rest t) p) more)) (h.0 scripting)
      ∙ (spot-first goes_on new.spot (λ p. and_then (walk_at scripting (after_stand after.parent) (trees_before f rest t) p) more)
      ∙ after-by new goes_on after (trees_before f rest t) more h.1))

  pub ascended : (w old new : Walk) (init : List Level) (level : Level) (goes_on : Bool) → w.nodes ≡ [] → w.levels ≡ init ++ level ∷ []
      → old.stand ≡ w.stand → old.spot ≡ w.spot → IsAscent level.behind old new goes_on → new.nodes ≡ level.rest → new.levels ≡ init
      → left scripting f w ≡ choose goes_on (λ _. left scripting f new) (λ _. None)
  ascended w old new init level goes_on e k a b h r i =
      ap₂ (λ ns ls. and_then (walk_at scripting w.stand (trees_before f ns (trees_after f ls)) w.spot)
      (λ p. levels_left scripting f ls p)) e (ap reverse k ∙ reverse-last init level)
      ∙ (ap (λ t. and_then (walk_at scripting w.stand t w.spot) (λ p. levels_left scripting f (level ∷ reverse init) p))
      (trees-none f (trees_after f (level ∷ reverse init)))
      ∙ (ap₂ (λ (stand : Stand) (spot : Spot). and_then
      (walk_at scripting stand (trees_by f level.behind level.rest (trees_after f (reverse init))) spot)
      (λ p. ended_by scripting f level.behind level.rest (trees_after f (reverse init))
      (λ p. levels_left scripting f (reverse init) p) p)) (sym a) (sym b)
      ∙ (ascent-by level.behind level.rest (trees_after f (reverse init)) (λ p. levels_left scripting f (reverse init) p) old new goes_on h
      ∙ ap₂ (λ ns ls. choose goes_on (λ _. and_then (walk_at scripting new.stand (trees_before f ns (trees_after f (reverse ls))) new.spot)
      (λ p. levels_left scripting f (reverse ls) p)) (λ _. None)) (sym r) (sym i))))

  pub ascent-less : (w v : Walk) (init : List Level) (level : Level) → w.nodes ≡ [] → w.levels ≡ init ++ level ∷ [] → v.nodes ≡ level.rest
      → v.levels ≡ init → nodes_left f v < nodes_left f w
  ascent-less w v init level e k r i =
      let a : nodes_in f w.nodes ≡ 0 = ap (nodes_in f) e ∙ nodes-none f in
      let b : waiting_nodes f w.levels ≡ waiting_nodes f init + suc (nodes_in f level.rest + nodes_in f level.rest) =
      ap (waiting_nodes f) k ∙ waiting-more f init level in
      let c : nodes_in f v.nodes ≡ nodes_in f level.rest = ap (nodes_in f) r in
      let d : waiting_nodes f v.levels ≡ waiting_nodes f init = ap (waiting_nodes f) i in
      omega (arith, a, b, c, d)

pub taken-as : (scripting : Bool) (f : Forest) (n : ℕ) (old new : Walk) (goes_on : Bool) → goes_on ≡ true
    → IsTaken scripting f n old new true → IsTaken scripting f n old new goes_on
taken-as scripting f n old new true e h = h
taken-as scripting f n old new false e h = absurd cc

-- THE WHOLE

-- where a walk stops, and where it goes on
pub stopped : (o x : Option Spot) (goes_on whole : Bool) → o ≡ choose goes_on (λ _. x) (λ _. None) → goes_on ≡ false
    → is_at_end o ≡ whole → false ≡ whole
stopped o x goes_on whole e odd is = sym (ap (λ b. is_at_end (choose b (λ _. x) (λ _. None))) odd) ∙ (sym (ap is_at_end e) ∙ is)

pub kept : (o x : Option Spot) (goes_on whole : Bool) → o ≡ choose goes_on (λ _. x) (λ _. None) → goes_on ≡ true
    → is_at_end o ≡ whole → is_at_end x ≡ whole
kept o x goes_on whole e even is = sym (ap (λ b. is_at_end (choose b (λ _. x) (λ _. None))) even) ∙ (sym (ap is_at_end e) ∙ is)

begins-by : (b x : Bool) (o : Option Spot) → x ≡ is_at_end o → (b && x) ≡ is_at_end (choose b (λ _. o) (λ _. None))
begins-by true x o h = h
begins-by false x o h = refl

begins : (scripting : Bool) (trees : Trees)
    → is_faithful scripting trees ≡ is_at_end (begun scripting OfDocument false false trees (first_spot Html5ever scripting Quirks))
unfolding is_faithful_by begun
begins scripting Nothing = refl
begins scripting (Text text rest) = refl
begins scripting (Comment text rest) = begins-by _ _ _ (begins scripting rest)
begins scripting (ProcessingInstruction target text rest) = refl
begins scripting (Doctype name public_id system_id rest) = begins-by _ _ _ refl
begins scripting (Element name attributes template kids rest) = refl

pub first : (scripting : Bool) (f : Forest) (spot : Spot) (nodes : List ℕ) (levels : List Level)
    → spot ≡ first_spot Html5ever scripting Quirks
    → nodes ≡ children_of f 0 → levels ≡ [] → is_at_end (left scripting f (record {
      stand = record { parent = Document; after_text = false; drops = false; inside = Start };
      spot = spot;
      nodes = nodes;
      levels = levels;
    })) ≡ is_faithful_forest scripting f
first scripting f spot nodes levels e k l =
    ap is_at_end (ap₂ (λ ns ls. and_then (begun scripting OfDocument false false (trees_before f ns (trees_after f (reverse ls))) spot)
    (λ p. levels_left scripting f (reverse ls) p)) k l
    ∙ (ap (λ p. and_then (begun scripting OfDocument false false (trees_before f (children_of f 0) Nothing) p) (λ p. Some p)) e
    ∙ then-some (begun scripting OfDocument false false (trees_before f (children_of f 0) Nothing)
    (first_spot Html5ever scripting Quirks))))
    ∙ sym (begins scripting (trees_before f (children_of f 0) Nothing))
