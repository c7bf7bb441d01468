use Rattle.std.proofs.Common.{◌≡◌, ◌∙◌, ◌<◌, ℕ, Bool, List, length, ap, arith, length-set, sym}
use Rattle.std.proofs.Math.ListN.{get_or}
use Rattle.std.specs.Prelude.{◌||◌}
use Rattle.std.specs.List.{list_any}
use Rattle.markup.specs.Forest.{parent_of}
use Rattle.html_selector_matching.specs.Around.{one_of}
use Rattle.html_selectors.specs.Columns.{at}
use Rattle.html_selectors.proofs.Listing.{in-range}
use Rattle.html_selectors.proofs.Steps.{under-all, under-pass, under-step}
use Rattle.html_selectors.proofs.lines.under.Goals as goal
use Rattle.html_selectors.proofs.lines.under.Goals.{then-is_in, else-is_in}

pub index_mut-requires : goal.index_mut-requires
index_mut-requires c =
    let order = c.args.index.now.order.items in
    let there : c.loop-id.id-index < length order = rw c.deref-id-items.ensures.value at c.loop-id-test.true in
    let item : c.id-item.result ≡ get_or order c.loop-id.id-index c.id-item.result = rw c.deref-id-items.ensures.value at c.id-item.is in
    let low = in-range c.args.index.now.forest.now c.keeps.ensures.is_forest order c.args.index.now.ordered c.loop-id.id-index
    c.id-item.result there item in
    omega (arith, low, c.loop-id.invariant.count, c.number.ensures)

pub loop-id-preserved : goal.loop-id-preserved
loop-id-preserved c =
    let order = c.args.index.now.order.items in
    let f = c.args.index.now.forest.now in
    let is = c.keeps.ensures.is_forest in
    let t = at c.args.column.now in
    let wanted = at c.args.wanted.now in
    let under = c.loop-id.under.items in
    let there : c.loop-id.id-index < length order = rw c.deref-id-items.ensures.value at c.loop-id-test.true in
    let item : c.id-item.result ≡ get_or order c.loop-id.id-index c.id-item.result = rw c.deref-id-items.ensures.value at c.id-item.is in
    elim c.if-is_in.branch [
      | then-is_in w ↦ rw w.under-is (record {
        count = length-set under w.number.result w.has_parent-is_under.result ∙ c.loop-id.invariant.count;
        done = λ n. rw w.number.ensures (under-step f is order c.args.index.now.ordered t wanted under c.loop-id.id-index c.id-item.result
            w.has_parent-is_under.result c.requires (sym c.is_in.ensures ∙ w.if-is_in.true) there item
            c.loop-id.invariant.count c.loop-id.invariant.done
            (w.has_parent-is_under.ensures ∙ ap (λ (l : List Bool). list_any (λ (m : ℕ). t m || at l m)
            (one_of (parent_of f c.id-item.result))) w.as_slice.ensures.value) n);
      })
      | else-is_in w ↦ rw w.under-is (record {
        count = c.loop-id.invariant.count;
        done = under-pass f order t wanted under c.loop-id.id-index c.id-item.result (sym c.is_in.ensures ∙ w.if-is_in.false)
            there item c.loop-id.invariant.done;
      })
    ]

pub returns-clause-ok : goal.returns-clause-ok
returns-clause-ok c =
    under-all c.args.index.now.forest.now c.keeps.ensures.is_forest c.args.index.now.order.items c.args.index.now.ordered
    (at c.args.column.now) (at c.args.wanted.now) c.loop-id.under.items c.loop-id.id-index
    (rw c.deref-id-items.ensures.value at c.loop-id-test.false) c.loop-id.invariant.done
