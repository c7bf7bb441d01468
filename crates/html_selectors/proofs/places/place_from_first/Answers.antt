use Rattle.std.proofs.Common.{◌≡◌, ◌∙◌, ◌<◌, ◌∷◌, ℕ, List, length, ap, arith, length-set, refl, subst, sym}
use Rattle.std.specs.Prelude.{cond}
use Rattle.markup.specs.Forest.{IsDistinct, children_of, is_among}
use Rattle.markup.proofs.WholeTrees.{among-first, among-later}
use Rattle.html_selectors.specs.Columns.{at, place_at}
use Rattle.html_selectors.proofs.Counts.{count-one, first-step}
use Rattle.html_selectors.proofs.places.place_from_first.Goals as goal

pub loop-child-init : goal.loop-child-init
loop-child-init c =
    let cs = children_of c.args.forest.now c.args.parent in
    let is = c.keeps.ensures.is_forest in
    let e : c.into_iter-child-iterator.result ≡ cs = cc in
    record {
      len = refl;
      few = omega (arith, ap length e);
      once = subst (λ (l : List ℕ). IsDistinct l) (sym e) (is.once c.args.parent);
      there = λ n h. is.in_range c.args.parent n (rw e at h);
      done = λ n. rw e (ap (λ k. cond (is_among n cs) k (place_at c.args.places.now.items n)) (omega arith));
    }

pub index_mut-requires : goal.index_mut-requires
index_mut-requires c =
    let s : c.loop-child.child-iterator ≡ c.in-Some.child ∷ c.next.new.self = c.in-Some.ensures.steps in
    let low = c.loop-child.invariant.there c.in-Some.child (rw s (among-first c.in-Some.child c.next.new.self)) in
    omega (arith, low, c.requires, c.loop-child.invariant.len, c.number.ensures)

pub loop-child-preserved : goal.loop-child-preserved
loop-child-preserved c =
    let m = c.in-Some.child in
    let rest = c.next.new.self in
    let items = c.loop-child.places.items in
    let s : c.loop-child.child-iterator ≡ m ∷ rest = c.in-Some.ensures.steps in
    let once : IsDistinct (m ∷ rest) = subst (λ (l : List ℕ). IsDistinct l) s c.loop-child.invariant.once in
    let low = c.loop-child.invariant.there m (rw s (among-first m rest)) in
    let one = count-one (at c.args.column.now m) in
    let less : m < length items = omega (arith, low, c.requires, c.loop-child.invariant.len) in
    record {
      len = length-set items c.number.result c.loop-child.place ∙ c.loop-child.invariant.len;
      few = omega (arith, one, c.count_of-place.ensures, ap length s, c.loop-child.invariant.few);
      once = once.1;
      there = λ n h. c.loop-child.invariant.there n (rw s (among-later n m rest h));
      done = λ n. rw (c.number.ensures, c.count_of-place.ensures)
          (first-step (at c.args.column.now) c.loop-child.place m rest items once less n ∙ rw s at (c.loop-child.invariant.done n));
    }
