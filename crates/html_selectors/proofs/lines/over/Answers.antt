use Rattle.std.proofs.Common.{◌≡◌, ◌∙◌, Bool, List, true, false, drop, ap, arith, refl, sym}
use Rattle.std.specs.Prelude.{◌||◌}
use Rattle.markup.specs.Forest.{children_of, is_among}
use Rattle.html_selectors.specs.Columns.{at}
use Rattle.html_selectors.proofs.Listing.{drop-all}
use Rattle.html_selectors.proofs.Marks.{and-false}
use Rattle.html_selectors.proofs.Steps.{and-true, neither, over-all, over-none, over-step, over_done}
use Rattle.html_selectors.proofs.lines.over.Goals as goal
use Rattle.html_selectors.proofs.lines.over.Goals.{then-is_in-via-then-is_in, then-is_in-via-else-is_in+then-is_in-2}

pub loop-left-init : goal.loop-left-init
loop-left-init c =
    let order = c.args.index.now.order.items in
    record {
      within = omega (arith, c.len-left.ensures);
      count = omega (arith, c.in_ok-over.ensures.len, c.args.index.now.counted);
      done = λ n. c.in_ok-over.ensures.none n ∙ over-none (at c.args.column.now) c.args.index.now.forest.now (drop c.len-left.result order) n
          (drop-all c.len-left.result order (omega (arith, c.len-left.ensures)));
    }

pub loop-left-preserved-in-loop-left : goal.loop-left-preserved-in-loop-left
loop-left-preserved-in-loop-left c =
    let f = c.args.index.now.forest.now in
    let t = at c.args.column.now in
    let over = c.loop-left.over.items in
    let n = c.index-id.result.now in
    let within = c.loop-left.invariant.within in
    let told : true ≡ (t n || at over n) = elim c.then-is_in.branch [
      | then-is_in-via-then-is_in w ↦ sym (ap (λ b. b || at over n) (sym c.is_in.ensures ∙ w.if-is_in.true))
      | then-is_in-via-else-is_in+then-is_in-2 w ↦ sym (ap (λ b. t n || b)
          (sym (w.is_in-else-is_in.ensures ∙ ap (λ (l : List Bool). at l n) w.as_slice.ensures.value) ∙ w.if-is_in-2.true)
          ∙ or-true (t n))
    ] in
    record {
      within = omega (arith, within);
      count = c.mark_parent.ensures.len ∙ c.loop-left.invariant.count;
      done = over-step f c.keeps.ensures.is_forest c.args.index.now.order.items c.args.index.now.ordered t c.requires over
          c.loop-left.left n true c.mark_parent.new.column.items c.loop-left-test.true within c.index-id.ensures
          c.loop-left.invariant.done told
          (λ m. c.mark_parent.ensures.marked m ∙ ap (λ b. b || at over m) (sym (and-true (is_among n (children_of f m)))));
    }
  where
    or-true : (b : Bool) → (b || true) ≡ true
    or-true true = refl
    or-true false = refl

pub loop-left-preserved : goal.loop-left-preserved
loop-left-preserved c =
    let f = c.args.index.now.forest.now in
    let t = at c.args.column.now in
    let over = c.loop-left.over.items in
    let n = c.index-id.result.now in
    let within = c.loop-left.invariant.within in
    let told : false ≡ (t n || at over n) = neither c.if-is_in.ensures
    (c.if-is_in-2.ensures ∙ ap (λ (l : List Bool). at l n) c.as_slice.ensures.value) in
    record {
      within = omega (arith, within);
      count = c.loop-left.invariant.count;
      done = over-step f c.keeps.ensures.is_forest c.args.index.now.order.items c.args.index.now.ordered t c.requires over
          c.loop-left.left n false over c.loop-left-test.true within c.index-id.ensures c.loop-left.invariant.done told
          (λ m. sym (ap (λ b. b || at over m) (and-false (is_among n (children_of f m)))));
    }

pub returns-clause-ok : goal.returns-clause-ok
returns-clause-ok c =
    let order = c.args.index.now.order.items in
    let t = at c.args.column.now in
    let none : c.loop-left.left ≡ 0 = omega (arith, c.loop-left-test.false) in
    over-all c.args.index.now.forest.now c.keeps.ensures.is_forest order c.args.index.now.ordered t c.requires c.loop-left.over.items
    (λ m. c.loop-left.invariant.done m ∙ ap (λ k. over_done t c.args.index.now.forest.now (drop k order) m) none)
