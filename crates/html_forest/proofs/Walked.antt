-- Turns of the walk of a node.
use Rattle.std.proofs.Common.{◌≡◌, ◌∙◌, ◌==◌, ℕ, zero, suc, ◌+◌, ◌-◌, ◌<◌, Bool, true, false, cond, ◌&&◌, is_none, List, []}
use Rattle.std.proofs.Common.{◌∷◌, ◌++◌, Option, Some, None, Result, Ok, Err, inl, inr, refl, sym, ap, arith, append_assoc}
use Rattle.std.proofs.Common.{IfSome}
use Rattle.std.proofs.lemmas.Bool.{cases_Bool, eq-eqb, eqb-true, ne_eqb}
use Rattle.std.proofs.lemmas.List.{append-nil}
use Rattle.std.proofs.lemmas.Result.{err_from_is_err_and}
use Rattle.std.specs.Result.{IsErrAnd}
use Rattle.markup.specs.Calls.{Call, Refuses, Step, Stops, StopsBefore, Walks, and_then, calls_before, calls_of, ended, first_calls, run}
use Rattle.markup.specs.Calls.Call.{StartElem, EndElem, WriteText, WriteComment, WriteDoctype, WriteProcessingInstruction}
use Rattle.markup.specs.Forest as tree
use Rattle.markup.specs.Forest.{Forest, IsDistinct, IsForest, NodeData, children_of, data_of, element_name, holds_children}
use Rattle.markup.specs.Forest.{is_among, is_contents, node_count, parent_of, template_of}
use Rattle.markup.specs.Named.{HasContents}
use Rattle.markup.specs.Trees as trees
use Rattle.markup.specs.Trees.{Trees, Nothing, inner_of, trees_of, weight}
use Rattle.markup.specs.declared.names.QualName.{QualName}
use Rattle.markup.specs.declared.serializer.SerializeFault.{SerializeFault}
use Rattle.markup.proofs.WalkCalls.{leaf-calls, node-calls, weight-first}
use Rattle.markup.proofs.WholeTrees.{Within, among-first, among-later, inner-within, trees-first, trees-none}
use Rattle.html_forest.specs.Links.{after_in, first_of, next_under}
use Rattle.html_forest.specs.Walk.{Advances, IsAhead, IsBelow, IsEnded, IsSpot, Meets, behind, after_under, calls_above}
use Rattle.html_forest.specs.Walk.{calls_left, from, is_end, size_above, stands_under, those_after, up_of}
use Rattle.html_forest.specs.declared.walk.Spot.{Spot}

-- LISTS

after-those : (n : ℕ) (xs : List ℕ) → after_in n xs ≡ first_of (those_after n xs)
after-those n [] = refl
after-those n (x ∷ xs) = by (n == x) (after-those n xs)
  where
    by : (b : Bool) → after_in n xs ≡ first_of (those_after n xs) → cond b (first_of xs) (after_in n xs) ≡ first_of
        (cond b xs (those_after n xs))
    by true rest = refl
    by false rest = rest

-- the next neighbour is the first after
pub next-behind : (f : Forest) (n : ℕ) → next_under f n (parent_of f n) ≡ first_of (behind f n)
next-behind f n = by (parent_of f n)
  where
    by : (o : Option ℕ) → next_under f n o ≡ first_of (after_under f n o)
    by None = refl
    by (Some p) = after-those n (children_of f p)

-- what stands before a number in a list, it, and those after it
split-at : (n : ℕ) (xs : List ℕ) → is_among n xs ≡ true → (done : List ℕ) × (done ++ n ∷ those_after n xs ≡ xs)
split-at n [] among = absurd cc
split-at n (x ∷ xs) among = by (n == x) refl among (λ is. split-at n xs is)
  where
    by : (b : Bool) → (n == x) ≡ b → cond b true (is_among n xs) ≡ true
        → (is_among n xs ≡ true → (done : List ℕ) × (done ++ n ∷ those_after n xs ≡ xs))
        → (done : List ℕ) × (done ++ n ∷ cond b xs (those_after n xs) ≡ x ∷ xs)
    by true same is rest = ([], let it : n ≡ x = eqb-true n x same in ap (λ (m : ℕ). m ∷ xs) it)
    by false other is rest = (x ∷ (rest is).0, ap (λ (ys : List ℕ). x ∷ ys) (rest is).1)

among-split : (done : List ℕ) (n : ℕ) (rest : List ℕ) → is_among n (done ++ n ∷ rest) ≡ true
among-split [] n rest = among-first n rest
among-split (x ∷ done) n rest = among-later n x (done ++ n ∷ rest) (among-split done n rest)

-- in a list without repeats
behind-split : (done : List ℕ) (n : ℕ) (rest : List ℕ) → IsDistinct (done ++ n ∷ rest) → those_after n (done ++ n ∷ rest) ≡ rest
behind-split [] n rest distinct = rw (eq-eqb n n refl) refl
behind-split (x ∷ done) n rest distinct = by (n == x) refl (behind-split done n rest distinct.1)
  where
    by : (b : Bool) → (n == x) ≡ b → those_after n (done ++ n ∷ rest) ≡ rest → cond b (done ++ n ∷ rest)
        (those_after n (done ++ n ∷ rest)) ≡ rest
    by true same more =
        let it : n ≡ x = eqb-true n x same in
        let among : is_among x (done ++ n ∷ rest) ≡ true = rw (← it) (among-split done n rest) in
        let apart = distinct.0 in
        absurd cc
    by false other more = more

ended-more : (name : Option QualName) (calls : List Call) → ended name calls ≡ ended name [] ++ calls
ended-more None calls = refl
ended-more (Some name) calls = refl

calls-append : (t : Trees) (calls : List Call) → calls_before t calls ≡ calls_before t [] ++ calls
calls-append Nothing calls = refl
calls-append (trees.Text text next) calls = ap (λ (cs : List Call). WriteText text ∷ cs) (calls-append next calls)
calls-append (trees.Comment text next) calls = ap (λ (cs : List Call). WriteComment text ∷ cs) (calls-append next calls)
calls-append (trees.ProcessingInstruction target text next) calls =
    ap (λ (cs : List Call). WriteProcessingInstruction target text ∷ cs) (calls-append next calls)
calls-append (trees.Doctype name public_id system_id next) calls = ap (λ (cs : List Call). WriteDoctype name ∷ cs) (calls-append next calls)
calls-append (trees.Element name attributes template kids next) calls =
    ap (λ (cs : List Call). StartElem name attributes ∷ cs)
    (ap (λ (cs : List Call). calls_before kids (EndElem name ∷ cs)) (calls-append next calls)
    ∙ calls-append kids (EndElem name ∷ (calls_before next [] ++ calls))
    ∙ sym (append_assoc (calls_before kids []) (EndElem name ∷ calls_before next []) calls)
    ∙ ap (λ (cs : List Call). cs ++ calls) (sym (calls-append kids (EndElem name ∷ calls_before next []))))

-- a walk that has not come to its end, with none left within a node
pub goes-on : (at : Spot) → is_end at ≡ false → at.next ≡ None → at.depth ≡ suc (at.depth - 1)
goes-on at goes none = by at.depth at.next goes none
  where
    by : (depth : ℕ) (next : Option ℕ) → ((depth == 0) && is_none next) ≡ false → next ≡ None → depth ≡ suc (depth - 1)
    by zero None goes is = absurd cc
    by zero (Some n) goes is = absurd cc
    by (suc depth) next goes is = omega arith

-- NEIGHBOURS IN A FOREST

module _ (f : Forest) (is_forest : IsForest f) (contents : HasContents f) where
  -- from the first of the last children on, these are
  from-first : (k : ℕ) (done rest : List ℕ) → done ++ rest ≡ children_of f k → from f (first_of rest) ≡ rest
  from-first k done [] whole = refl
  from-first k done (n ∷ rest) whole =
      let parent : parent_of f n ≡ Some k = is_forest.one_parent k n (rw (← whole) (among-split done n rest)) in
      ap (λ (xs : List ℕ). n ∷ xs) (rw (parent, ← whole) (behind-split done n rest (rw whole (is_forest.once k))))

  within-first : (k : ℕ) (done rest : List ℕ) → done ++ rest ≡ children_of f k → IfSome (first_of rest)
      (λ n. is_among n (children_of f k) ≡ true)
  within-first k done [] whole = tt
  within-first k done (n ∷ rest) whole = rw (← whole) (among-split done n rest)

  split-behind : (k n : ℕ) → is_among n (children_of f k) ≡ true → (done : List ℕ) × (done ++ behind f n ≡ children_of f k)
  split-behind k n among =
      let parent = is_forest.one_parent k n among in
      let parts = split-at n (children_of f k) among in
      (parts.0 ++ n ∷ [], append_assoc parts.0 (n ∷ []) (behind f n) ∙ rw parent (parts.1))

  from-behind : (k n : ℕ) → is_among n (children_of f k) ≡ true → from f (first_of (behind f n)) ≡ behind f n
  from-behind k n among = let parts = split-behind k n among in from-first k parts.0 (behind f n) parts.1

  within-behind : (k n : ℕ) → is_among n (children_of f k) ≡ true → IfSome (first_of (behind f n))
      (λ m. is_among m (children_of f k) ≡ true)
  within-behind k n among = let parts = split-behind k n among in within-first k parts.0 (behind f n) parts.1

  -- what is in a list of children is not the contents of a template
  no_contents : (k n : ℕ) → is_among n (children_of f k) ≡ true → is_contents (data_of f n) ≡ false
  no_contents k n among =
      elim (cases_Bool (is_contents (data_of f n))) [
        | inl held ↦ absurd (let some = is_forest.one_parent k n among in let none = is_forest.contents_stay n held in cc)
        | inr other ↦ other
      ]

  -- a node stands in the one in which it is walked
  stands-in : (p n : ℕ) → is_contents (data_of f p) ≡ false → is_among n (inner_of f p) ≡ true → stands_under f n (parent_of f n) ≡ p
  stands-in p n plain among = by (template_of (data_of f p)) refl among
    where
      by : (b : Bool) → template_of (data_of f p) ≡ b → is_among n (children_of f (cond b (p + 1) p)) ≡ true
          → stands_under f n (parent_of f n) ≡ p
      by true template is =
          let parent = is_forest.one_parent (p + 1) n is in
          let held : data_of f (p + 1) ≡ tree.NodeData.Contents = contents.follow p template in
          let back : (p + 1) - 1 ≡ p = omega arith in
          rw (parent, held) back
      by false template is = let parent = is_forest.one_parent p n is in rw (parent, plain) refl

  -- PLACES OF A WALK

  up-is : (root depth parent n : ℕ) → IsBelow f root depth parent → is_among n (inner_of f parent) ≡ true → up_of f root depth n ≡ parent
  unfolding IsBelow
  up-is root zero parent n below among = sym below
  up-is root (suc depth) parent n below among =
      let more : (suc depth == 0) ≡ false = ne_eqb (suc depth) 0 (omega arith) in
      rw more (stands-in parent n (no_contents _ parent below.0) among)

  -- so deep only as there are levels
  levels-left : (root depth n l : ℕ) → node_count f ≡ suc l → IsBelow f root (suc depth) n → (k : ℕ) × ((k + depth ≡ l) × Within f k n)
  unfolding IsBelow
  levels-left root zero n l count below =
      let up : up_of f root 0 n ≡ root = below.1 in
      (l, (omega arith, inner-within f is_forest contents l count root n (rw up at below.0)))
  levels-left root (suc depth) n l count below =
      let outer = levels-left root depth (up_of f root (suc depth) n) l count below.1 in
      by outer.0 outer.1.0 outer.1.1
    where
      by : (k : ℕ) → k + depth ≡ l → Within f k (up_of f root (suc depth) n) → (k : ℕ) × ((k + suc depth ≡ l) × Within f k n)
      by zero sum within = absurd within
      by (suc k) sum within = (k, (omega (arith, sum), within n below.0))

  pub depth-below : (root depth n : ℕ) → IsBelow f root depth n → depth < node_count f
  depth-below root zero n below = is_forest.document
  depth-below root (suc depth) n below = by (node_count f) refl is_forest.document
    where
      by : (count : ℕ) → node_count f ≡ count → 0 < count → suc depth < count
      by zero is some = absurd (omega arith)
      by (suc l) is some = let left = levels-left root depth n l is below in by_left left.0 left.1.0 left.1.1
        where
          by_left : (k : ℕ) → k + depth ≡ l → Within f k n → suc depth < suc l
          by_left zero sum within = absurd within
          by_left (suc k) sum within = omega (arith, sum)

  -- THE CALLS OF A NODE

  calls-first : (n : ℕ) (ns : List ℕ) (rest : List Call) → holds_children (data_of f n) ≡ true
      → calls_before (trees_of f (n ∷ ns)) rest ≡ first_calls (data_of f n)
      ++ calls_before (trees_of f (inner_of f n)) (ended (element_name (data_of f n)) (calls_before (trees_of f ns) rest))
  calls-first n ns rest holds = ap (λ t. calls_before t rest) (trees-first f is_forest contents n ns Nothing)
      ∙ node-calls f (data_of f n) n (trees_of f ns) rest holds

  calls-leaf : (n : ℕ) (ns : List ℕ) (rest : List Call) → holds_children (data_of f n) ≡ false
      → calls_before (trees_of f (n ∷ ns)) rest ≡ first_calls (data_of f n) ++ calls_before (trees_of f ns) rest
  calls-leaf n ns rest holds = ap (λ t. calls_before t rest) (trees-first f is_forest contents n ns Nothing)
      ∙ leaf-calls f (data_of f n) n (trees_of f ns) rest holds

  -- its own come first
  calls-some : (n : ℕ) (ns : List ℕ) (rest : List Call) → (more : List Call)
      × (calls_before (trees_of f (n ∷ ns)) rest ≡ first_calls (data_of f n) ++ more)
  calls-some n ns rest =
      elim (cases_Bool (holds_children (data_of f n))) [
        | inl holds ↦ (_, calls-first n ns rest holds)
        | inr leaf ↦ (_, calls-leaf n ns rest leaf)
      ]

  -- TURNS

  abbrev spot : ℕ → ℕ → Option ℕ → Spot
  spot parent depth next = record { parent = parent; depth = depth; next = next }

  pub first-spot : (root : ℕ) → IsSpot f root (spot root 0 (first_of (inner_of f root)))
  unfolding IsBelow
  first-spot root = record { below = refl; within = within-first _ [] (inner_of f root) refl }

  -- nothing was walked yet
  pub first-left : (root : ℕ) → calls_left f root (spot root 0 (first_of (inner_of f root))) ≡ calls_of (trees_of f (inner_of f root))
  unfolding calls_above
  first-left root = ap (λ ns. calls_of (trees_of f ns)) (from-first _ [] (inner_of f root) refl)

  -- all was
  pub end-left : (root : ℕ) (at : Spot) → is_end at ≡ true → calls_left f root at ≡ []
  unfolding calls_above
  end-left root at end = by at.depth at.next end
    where
      by : (depth : ℕ) (next : Option ℕ) → is_end (spot at.parent depth next) ≡ true
          → calls_before (trees_of f (from f next)) (calls_above f root depth at.parent) ≡ []
      by zero None is = ap (λ t. calls_of t) (trees-none f Nothing)
      by zero (Some n) is = absurd cc
      by (suc depth) next is = absurd (let more : (suc depth == 0) ≡ false = ne_eqb (suc depth) 0 (omega arith) in
          let none = rw more at is in cc)

  module _ {S : Type 0} (step : Step S) (refuses : Refuses S) (root : ℕ) (at : Spot) (is_spot : IsSpot f root at) (old new : S) where
    -- the next node was met, and others stand in it
    pub entered : (n : ℕ) (holds : Bool) → at.next ≡ Some n → Meets step refuses f n old (Ok holds) new → holds ≡ true
        → Advances step refuses f root old at (Ok (spot n (at.depth + 1) (first_of (inner_of f n)))) new
    unfolding calls_above size_above IsBelow
    entered n holds next met opens =
        let among : is_among n (inner_of f at.parent) ≡ true = rw next at is_spot.within in
        let up = up-is root at.depth at.parent n is_spot.below among in
        let inner : from f (first_of (inner_of f n)) ≡ inner_of f n = from-first _ [] (inner_of f n) refl in
        let rest = calls_above f root at.depth at.parent in
        let deep : at.depth + 1 ≡ suc at.depth = omega arith in
        let inside = ended (element_name (data_of f n)) (calls_before (trees_of f (behind f n)) rest) in
        let first : calls_left f root at ≡ first_calls (data_of f n) ++ calls_before (trees_of f (inner_of f n))
        inside = rw next (calls-first n (behind f n) rest (sym met.0 ∙ opens)) in
        let later : calls_left f root (spot n (at.depth + 1) (first_of (inner_of f n))) ≡ calls_before
        (trees_of f (inner_of f n)) inside = rw (deep, up, inner) refl in (
          record { below = rw (deep, up) (among, is_spot.below); within = within-first _ [] (inner_of f n) refl },
          (
            first_calls (data_of f n),
            (first ∙ ap (λ (calls : List Call). first_calls (data_of f n) ++ calls) (sym later), met.1),
          ),
          (let whole = weight-first f is_forest contents n (behind f n) in rw (deep, up, inner, next) (omega (arith, whole))),
        )

    -- it was met, and none do
    pub passed : (n : ℕ) (holds : Bool) → at.next ≡ Some n → Meets step refuses f n old (Ok holds) new → holds ≡ false
        → Advances step refuses f root old at (Ok (spot at.parent at.depth (first_of (behind f n)))) new
    passed n holds next met opens =
        let among : is_among n (inner_of f at.parent) ≡ true = rw next at is_spot.within in
        let rest = from-behind _ n among in
        let above = calls_above f root at.depth at.parent in
        let first : calls_left f root at ≡ first_calls (data_of f n) ++ calls_before (trees_of f (behind f n))
        above = rw next (calls-leaf n (behind f n) above (sym met.0 ∙ opens)) in (
          record { below = is_spot.below; within = within-behind _ n among },
          (
            first_calls (data_of f n),
            (first ∙ ap (λ (ns : List ℕ). first_calls (data_of f n) ++ calls_before (trees_of f ns) above) (sym rest), met.1),
          ),
          (let whole = weight-first f is_forest contents n (behind f n) in rw (rest, next) (omega (arith, whole))),
        )

    -- its call was refused
    pub refused : (n : ℕ) (fault : SerializeFault) (result : Result Spot SerializeFault) → at.next ≡ Some n
        → IsErrAnd result (λ y. y ≡ fault)
        → Meets step refuses f n old (Err fault) new → Advances step refuses f root old at result new
    refused n fault result next err met =
        let p = err_from_is_err_and result err in
        let more = calls-some n (behind f n) (calls_above f root at.depth at.parent) in
        let first : calls_left f root at ≡ first_calls (data_of f n) ++ more.0 = rw next more.1 in
        rw (p.1, p.2)
        (record {
          made = [];
          left = met.0 ∷ more.0;
          reached = old;
          parts = first ∙ ap (λ (calls : List Call). calls ++ more.0) met.1.0;
          ran = refl;
          stopped = inr met.1.1;
        })

    -- the node in which none is left has ended
    pub left-behind : (depth : ℕ) → at.next ≡ None → at.depth ≡ suc depth
        → run step old (ended (element_name (data_of f at.parent)) []) ≡ Ok new
        → Advances step refuses f root old at (Ok (spot (up_of f root depth at.parent) depth (first_of (behind f at.parent)))) new
    unfolding calls_above size_above IsBelow
    left-behind depth next deep ends =
        let below = rw deep at is_spot.below in
        let rest = from-behind _ at.parent below.0 in
        let name = element_name (data_of f at.parent) in
        let above = calls_above f root depth (up_of f root depth at.parent) in
        let more = calls_before (trees_of f (behind f at.parent)) above in
        let first : calls_left f root at ≡ ended name more =
        rw (next, deep) (ap (λ t. calls_before t (ended name more)) (trees-none f Nothing)) in (
          record { below = below.1; within = within-behind _ at.parent below.0 },
          (
            ended name [],
            (first ∙ ended-more name more ∙ ap (λ (ns : List ℕ). ended name [] ++ calls_before (trees_of f ns) above) (sym rest), ends),
          ),
          rw (rest, next, deep) (omega arith),
        )

    -- its end was refused
    pub refused-end : (depth : ℕ) (fault : SerializeFault) (result : Result Spot SerializeFault) → at.next ≡ None
        → at.depth ≡ suc depth → IsErrAnd result (λ y. y ≡ fault)
        → (call : Call) × ((ended (element_name (data_of f at.parent)) [] ≡ call ∷ []) × refuses old call fault new)
        → Advances step refuses f root old at result new
    unfolding calls_above
    refused-end depth fault result next deep err met =
        let p = err_from_is_err_and result err in
        let name = element_name (data_of f at.parent) in
        let more = calls_before (trees_of f (behind f at.parent)) (calls_above f root depth (up_of f root depth at.parent)) in
        let first : calls_left f root at ≡ ended name more =
        rw (next, deep) (ap (λ t. calls_before t (ended name more)) (trees-none f Nothing)) in
        rw (p.1, p.2)
        (record {
          made = [];
          left = met.0 ∷ more;
          reached = old;
          parts = first ∙ ended-more name more ∙ ap (λ (calls : List Call). calls ++ more) met.1.0;
          ran = refl;
          stopped = inr met.1.1;
        })

  -- A NODE ALONE

  module _ {S : Type 0} (step : Step S) (refuses : Refuses S) (n : ℕ) (old new : S) where
    calls-alone : holds_children (data_of f n) ≡ true → calls_of (trees_of f (n ∷ [])) ≡ first_calls (data_of f n)
        ++ (calls_of (trees_of f (inner_of f n)) ++ ended (element_name (data_of f n)) [])
    calls-alone holds =
        let name = element_name (data_of f n) in
        calls-first n [] [] holds
        ∙ ap (λ t. first_calls (data_of f n) ++ calls_before (trees_of f (inner_of f n))
        (ended name (calls_before t []))) (trees-none f Nothing)
        ∙ ap (λ (cs : List Call). first_calls (data_of f n) ++ cs) (calls-append (trees_of f (inner_of f n)) (ended name []))

    -- a node with others in it was met
    pub node-met : (holds : Bool) → Meets step refuses f n old (Ok holds) new → holds ≡ true
        → IsAhead step old (calls_of (trees_of f (n ∷ []))) (calls_of (trees_of f (inner_of f n))
        ++ ended (element_name (data_of f n)) []) new
    node-met holds met opens = (first_calls (data_of f n), (calls-alone (sym met.0 ∙ opens), met.1))

    -- a node with none in it was met
    pub node-leaf : (holds : Bool) → Meets step refuses f n old (Ok holds) new → holds ≡ false
        → run step old (calls_of (trees_of f (n ∷ []))) ≡ Ok new
    node-leaf holds met opens =
        let whole : calls_of (trees_of f (n ∷ [])) ≡ first_calls (data_of f n) =
        calls-leaf n [] [] (sym met.0 ∙ opens) ∙ ap (λ t. first_calls (data_of f n) ++ calls_of t)
        (trees-none f Nothing) ∙ append-nil (first_calls (data_of f n)) in
        ap (run step old) whole ∙ met.1

    -- its call was refused
    pub node-refused : (fault : SerializeFault) → Meets step refuses f n old (Err fault) new
        → Stops step refuses old (calls_of (trees_of f (n ∷ []))) fault new
    node-refused fault met =
        let rest = calls-some n [] [] in
        record {
          made = [];
          left = met.0 ∷ rest.0;
          reached = old;
          parts = rest.1 ∙ ap (λ (calls : List Call). calls ++ rest.0) met.1.0;
          ran = refl;
          stopped = inr met.1.1;
        }

-- SEVERAL TURNS

run-append : {S : Type 0} (step : Step S) (made rest : List Call) (s m : S) → run step s made ≡ Ok m
    → run step s (made ++ rest) ≡ run step m rest
run-append {S = S} step [] rest s m is = let same : s ≡ m = cc in ap (λ x. run step x rest) same
run-append {S = S} step (call ∷ made) rest s m is = by_step (step s call) is (λ next was. run-append step made rest next m was)
  where
    by_step : (r : Result S SerializeFault) → and_then r (λ next. run step next made) ≡ Ok m
        → ((next : S) → run step next made ≡ Ok m → run step next (made ++ rest) ≡ run step m rest)
        → and_then r (λ next. run step next (made ++ rest)) ≡ run step m rest
    by_step (Ok next) is more = more next is
    by_step (Err fault) is more = absurd cc

module _ {S : Type 0} (step : Step S) (refuses : Refuses S) where
  -- no call was made yet
  pub ahead-none : (s : S) (calls left : List Call) → left ≡ calls → IsAhead step s calls left s
  ahead-none s calls left is = ([], (sym is, refl))

  -- some more were made
  pub ahead-more : (old mid new : S) (calls left rest : List Call) → IsAhead step old calls left mid
      → IsAhead step mid left rest new → IsAhead step old calls rest new
  ahead-more old mid new calls left rest before turn = (
    before.0 ++ turn.0,
    (
      before.1.0 ∙ ap (λ (cs : List Call). before.0 ++ cs) turn.1.0 ∙ sym (append_assoc before.0 turn.0 rest),
      run-append step before.0 turn.0 old mid before.1.1 ∙ turn.1.1,
    ),
  )

  -- all were made
  pub ahead-all : (old new : S) (calls left : List Call) → IsAhead step old calls left new → left ≡ [] → run step old calls ≡ Ok new
  ahead-all old new calls left before none =
      let whole : calls ≡ before.0 = before.1.0 ∙ ap (λ (cs : List Call). before.0 ++ cs) none ∙ append-nil before.0 in
      ap (run step old) whole ∙ before.1.1

  -- a turn at which the walk stopped
  pub ahead-stopped : (old mid new : S) (calls left : List Call) (fault : SerializeFault)
      → IsAhead step old calls left mid → Stops step refuses mid left fault new → Stops step refuses old calls fault new
  ahead-stopped old mid new calls left fault before stops = record {
    made = before.0 ++ stops.made;
    left = stops.left;
    reached = stops.reached;
    parts = before.1.0 ∙ ap (λ (cs : List Call). before.0 ++ cs) stops.parts ∙ sym (append_assoc before.0 stops.made stops.left);
    ran = run-append step before.0 stops.made old mid before.1.1 ∙ stops.ran;
    stopped = stops.stopped;
  }

  -- an answer that passes on a fault
  pub walks-stopped : (old new : S) (calls : List Call) (fault : SerializeFault)
      (result : Result (Unit {0}) SerializeFault) → IsErrAnd result (λ y. y ≡ fault)
      → Stops step refuses old calls fault new → Walks step refuses old calls result new
  walks-stopped old new calls fault result err stops = let p = err_from_is_err_and result err in rw (p.1, p.2) stops

  -- the first of the calls that are left were made
  pub ahead-first : (old mid new : S) (calls first rest : List Call) → IsAhead step old calls (first ++ rest) mid
      → run step mid first ≡ Ok new → IsAhead step old calls rest new
  ahead-first old mid new calls first rest before ran = ahead-more old mid new calls (first ++ rest) rest before (first, (refl, ran))

  -- a walk stopped among the first of the calls that are left
  stops-longer : (old new : S) (first rest : List Call) (fault : SerializeFault)
      → Stops step refuses old first fault new → Stops step refuses old (first ++ rest) fault new
  stops-longer old new first rest fault stops = record {
    made = stops.made;
    left = stops.left ++ rest;
    reached = stops.reached;
    parts = ap (λ (calls : List Call). calls ++ rest) stops.parts ∙ append_assoc stops.made stops.left rest;
    ran = stops.ran;
    stopped = before stops.left rest stops.stopped;
  }
    where
      before : (left rest : List Call) → StopsBefore refuses stops.reached left fault new
          → StopsBefore refuses stops.reached (left ++ rest) fault new
      before [] [] stopped = stopped
      before [] (call ∷ rest) stopped = inl stopped
      before (call ∷ left) rest stopped = stopped

  pub first-stopped : (old mid new : S) (calls first rest : List Call) (fault : SerializeFault)
      → IsAhead step old calls (first ++ rest) mid → Stops step refuses mid first fault new → Stops step refuses old calls fault new
  first-stopped old mid new calls first rest fault before stops = ahead-stopped old mid new calls
      (first ++ rest) fault before (stops-longer mid new first rest fault stops)

  -- a walk whose last call is the end of an element
  pub walks-ended : (old mid new : S) (calls : List Call) (name : Option QualName)
      (result : Result (Unit {0}) SerializeFault) → IsAhead step old calls (ended name []) mid
      → IsEnded step refuses name mid result new → Walks step refuses old calls result new
  walks-ended old mid new calls name (Ok answer) before ends = ap (run step old) before.1.0
      ∙ run-append step before.0 (ended name []) old mid before.1.1 ∙ ends
  walks-ended old mid new calls name (Err fault) before ends =
      ahead-stopped old mid new calls (ended name []) fault before
      (record { made = []; left = ends.0 ∷ []; reached = mid; parts = ends.1.0; ran = refl; stopped = inr ends.1.1 })
