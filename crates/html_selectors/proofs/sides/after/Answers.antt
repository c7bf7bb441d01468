use Rattle.std.proofs.Common.{◌≡◌, ◌∙◌, ◌<◌, ℕ, Bool, List, false, length, take, ap, arith, length-set, sym}
use Rattle.std.proofs.Math.ListN.{get_or}
use Rattle.std.specs.Prelude.{◌&&◌, ◌||◌}
use Rattle.std.specs.List.{list_any}
use Rattle.std.proofs.lemmas.List.{take_all}
use Rattle.markup.specs.Forest.{children_of, is_among, parent_of}
use Rattle.html_selector_matching.specs.Around.{one_of}
use Rattle.html_selectors.specs.Columns.{at}
use Rattle.html_selectors.proofs.Counts.{any_beside}
use Rattle.html_selectors.proofs.Elder.{after-step, nothing-seen, seen-step}
use Rattle.html_selectors.proofs.Listing.{in-range}
use Rattle.html_selectors.proofs.Marks.{and-false}
use Rattle.html_selectors.proofs.Steps.{and-true, element-listed}
use Rattle.html_selectors.proofs.sides.after.Goals as goal
use Rattle.html_selectors.proofs.sides.after.Goals.{then-is_in, else-is_in}

pub loop-id-init : goal.loop-id-init
loop-id-init c = record {
  places = omega (arith, c.in_ok-seen.ensures.len, c.args.index.now.counted);
  count = omega (arith, c.in_ok-after.ensures.len, c.args.index.now.counted);
  marked = λ p. c.in_ok-seen.ensures.none p ∙ nothing-seen (at c.args.column.now) c.args.index.now.forest.now p;
  done = λ n. c.in_ok-after.ensures.none n;
}

pub index_mut-requires : goal.index_mut-requires
index_mut-requires c =
    let order = c.args.index.now.order.items in
    let there : c.loop-id.id-index < length order = rw c.deref-id-items.ensures.value at c.loop-id-test.true in
    let item : c.id-item.result ≡ get_or order c.loop-id.id-index c.id-item.result = rw c.deref-id-items.ensures.value at c.id-item.is in
    let low = in-range c.args.index.now.forest.now c.keeps.ensures.is_forest order c.args.index.now.ordered c.loop-id.id-index
    c.id-item.result there item in
    omega (arith, low, c.loop-id.invariant.count, c.number.ensures)

pub loop-id-preserved : goal.loop-id-preserved
loop-id-preserved c =
    let order = c.args.index.now.order.items in
    let f = c.args.index.now.forest.now in
    let t = at c.args.column.now in
    let seen = c.loop-id.seen.items in
    let after = c.loop-id.after.items in
    let n = c.id-item.result in
    let there : c.loop-id.id-index < length order = rw c.deref-id-items.ensures.value at c.loop-id-test.true in
    let item : n ≡ get_or order c.loop-id.id-index n = rw c.deref-id-items.ensures.value at c.id-item.is in
    let told = c.is_seen-is_after.ensures ∙ ap (λ (l : List Bool). list_any (at l) (one_of (parent_of f n))) c.as_slice.ensures.value in
    let size = length-set after c.number.result c.is_seen-is_after.result ∙ c.loop-id.invariant.count in
    let next = after-step f c.keeps.ensures.is_forest t c.requires order c.args.index.now.ordered seen after c.loop-id.id-index n
    c.is_seen-is_after.result there item c.loop-id.invariant.count c.loop-id.invariant.marked c.loop-id.invariant.done told in
    elim c.if-is_in.branch [
      | then-is_in w ↦ rw w.seen-is (record {
        places = w.mark_parent.ensures.len ∙ c.loop-id.invariant.places;
        count = size;
        marked = seen-step f t order seen w.mark_parent.new.column.items c.loop-id.id-index n there item c.loop-id.invariant.marked
            (λ p. w.mark_parent.ensures.marked p ∙ ap (λ b. b || at seen p) (sym (ap (λ b. is_among n (children_of f p) && b)
            (sym c.is_in.ensures ∙ w.if-is_in.true) ∙ and-true (is_among n (children_of f p)))));
        done = λ m. rw c.number.ensures (next m);
      })
      | else-is_in w ↦ rw w.seen-is (record {
        places = c.loop-id.invariant.places;
        count = size;
        marked = seen-step f t order seen seen c.loop-id.id-index n there item c.loop-id.invariant.marked
            (λ p. ap (λ b. b || at seen p) (sym (ap (λ b. is_among n (children_of f p) && b)
            (sym c.is_in.ensures ∙ w.if-is_in.false) ∙ and-false (is_among n (children_of f p)))));
        done = λ m. rw c.number.ensures (next m);
      })
    ]

pub returns-clause-ok : goal.returns-clause-ok
returns-clause-ok c =
    let order = c.args.index.now.order.items in
    let f = c.args.index.now.forest.now in
    let all : take c.loop-id.id-index order ≡ order =
    take_all c.loop-id.id-index order (rw c.deref-id-items.ensures.value at c.loop-id-test.false) in
    λ n is. c.loop-id.invariant.done n
    ∙ ap (λ b. b && any_beside (at c.args.column.now) false f n) (ap (λ (l : List ℕ). is_among n l) all
    ∙ element-listed f c.keeps.ensures.is_forest order c.args.index.now.ordered n is)
