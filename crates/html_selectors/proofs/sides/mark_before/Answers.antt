use Rattle.std.proofs.Common.{◌≡◌, ◌∙◌, ◌-◌, ◌<◌, ◌∷◌, ℕ, List, length, ap, arith, length-set, refl, subst, sym}
use Rattle.std.specs.Prelude.{filter, nat_lt}
use Rattle.markup.specs.Forest.{IsDistinct, children_of}
use Rattle.markup.proofs.WholeTrees.{among-first, among-later}
use Rattle.html_selectors.specs.Columns.{at}
use Rattle.html_selectors.proofs.Counts.{after-step, count-next}
use Rattle.html_selectors.proofs.sides.mark_before.Goals as goal

pub loop-child-init : goal.loop-child-init
loop-child-init c =
    let cs = children_of c.args.forest.now c.args.parent in
    let is = c.keeps.ensures.is_forest in
    let e : c.into_iter-child-iterator.result ≡ cs = cc in
    record {
      len = refl;
      left = rw e c.count_children-left.ensures;
      few = omega (arith, ap length e);
      once = subst (λ (l : List ℕ). IsDistinct l) (sym e) (is.once c.args.parent);
      there = λ n h. is.in_range c.args.parent n (rw e at h);
      done = λ n. rw e refl;
    }

pub index_mut-requires : goal.index_mut-requires
index_mut-requires c =
    let s : c.loop-child.child-iterator ≡ c.in-Some.child ∷ c.next.new.self = c.in-Some.ensures.steps in
    let low = c.loop-child.invariant.there c.in-Some.child (rw s (among-first c.in-Some.child c.next.new.self)) in
    omega (arith, low, c.requires, c.loop-child.invariant.len, c.number.ensures)

pub loop-child-preserved : goal.loop-child-preserved
loop-child-preserved c =
    let t = at c.args.column.now in
    let m = c.in-Some.child in
    let rest = c.next.new.self in
    let items = c.loop-child.beside.items in
    let left = c.loop-child.left - c.count_of-left.result in
    let s : c.loop-child.child-iterator ≡ m ∷ rest = c.in-Some.ensures.steps in
    let once : IsDistinct (m ∷ rest) = subst (λ (l : List ℕ). IsDistinct l) s c.loop-child.invariant.once in
    let low = c.loop-child.invariant.there m (rw s (among-first m rest)) in
    let less : m < length items = omega (arith, low, c.requires, c.loop-child.invariant.len) in
    let all = rw s at c.loop-child.invariant.left in
    let next = count-next t m rest in
    let e : left ≡ length (filter t rest) = omega (arith, all, next, c.count_of-left.ensures) in
    record {
      len = length-set items c.number.result (nat_lt 0 left) ∙ c.loop-child.invariant.len;
      left = e;
      few = omega (arith, ap length s, c.loop-child.invariant.few);
      once = once.1;
      there = λ n h. c.loop-child.invariant.there n (rw s (among-later n m rest h));
      done = λ n. rw c.number.ensures (after-step t left m rest items e once less n ∙ rw s at (c.loop-child.invariant.done n));
    }
