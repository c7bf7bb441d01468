use Rattle.std.proofs.Common.{◌≡◌, ◌∙◌, ◌-◌, ◌<◌, ◌∷◌, ℕ, List, length, ap, arith, length-set, refl, subst, sym}
use Rattle.markup.specs.Forest.{IsDistinct, children_of}
use Rattle.markup.proofs.WholeTrees.{among-first, among-later}
use Rattle.html_selectors.specs.Kinds.{count_at, count_kind, kind_at}
use Rattle.html_selectors.proofs.KindCounts.{down-count, down-step}
use Rattle.html_selectors.proofs.types.count_down.Goals as goal

pub loop-child-init : goal.loop-child-init
loop-child-init c =
    let cs = children_of c.args.forest.now c.args.parent in
    let is = c.keeps.ensures.is_forest in
    let e : c.into_iter-child-iterator.result ≡ cs = cc in
    record {
      size = refl;
      len = refl;
      once = subst (λ (l : List ℕ). IsDistinct l) (sym e) (is.once c.args.parent);
      there = λ n h. is.in_range c.args.parent n (rw e at h);
      counts = λ k. rw e (c.requires.counts k);
      done = λ n. rw e refl;
    }

pub index_mut-requires-in-loop-child : goal.index_mut-requires-in-loop-child
index_mut-requires-in-loop-child c =
    let s : c.loop-child.child-iterator ≡ c.in-Some.child ∷ c.next.new.self = c.in-Some.ensures.steps in
    let low = c.loop-child.invariant.there c.in-Some.child (rw s (among-first c.in-Some.child c.next.new.self)) in
    omega (arith, low, c.requires.room, c.loop-child.invariant.len, c.number.ensures)

pub loop-child-preserved : goal.loop-child-preserved
loop-child-preserved c =
    let kind = kind_at c.args.kinds.now in
    let m = c.in-Some.child in
    let rest = c.next.new.self in
    let counts = c.loop-child.counts.items in
    let places = c.loop-child.places.items in
    let s : c.loop-child.child-iterator ≡ m ∷ rest = c.in-Some.ensures.steps in
    let once : IsDistinct (m ∷ rest) = subst (λ (l : List ℕ). IsDistinct l) s c.loop-child.invariant.once in
    let there = c.loop-child.invariant.there m (rw s (among-first m rest)) in
    let small = c.requires.small m in
    let inside : kind m < length counts = omega (arith, small, c.loop-child.invariant.size) in
    let low : m < length places = omega (arith, there, c.requires.room, c.loop-child.invariant.len) in
    let is_kind : c.kind_at-kind.result ≡ kind m = c.kind_at-kind.ensures in
    let is_place : c.count_at-place.result ≡ count_at counts (kind m) = c.count_at-place.ensures
    ∙ (ap (λ (l : List ℕ). count_at l c.kind_at-kind.result) c.as_slice.ensures.value ∙ ap (count_at counts) is_kind) in
    let all : count_at counts (kind m) ≡ count_kind kind (kind m) (m ∷ rest) = rw s at (c.loop-child.invariant.counts (kind m)) in
    record {
      size = length-set counts c.kind_at-kind.result (c.count_at-place.result - 1) ∙ c.loop-child.invariant.size;
      len = length-set places c.number.result c.count_at-place.result ∙ c.loop-child.invariant.len;
      once = once.1;
      there = λ n h. c.loop-child.invariant.there n (rw s (among-later n m rest h));
      counts = λ k. rw (is_kind, is_place) (down-count kind counts m rest inside (λ j. rw s at (c.loop-child.invariant.counts j)) k);
      done = λ n. rw c.number.ensures
          (down-step kind m rest places c.count_at-place.result once low (is_place ∙ all) n ∙ rw s at (c.loop-child.invariant.done n));
    }
