use Rattle.std.proofs.Common.{◌≡◌, ◌∙◌, ◌<◌, ℕ, List, length, take, ap, subst, sym, true}
use Rattle.std.proofs.Math.ListN.{get_or}
use Rattle.markup.specs.Forest.{is_among}
use Rattle.html_selectors.specs.Columns.{at}
use Rattle.html_selectors.proofs.Listing.{take-next}
use Rattle.html_selectors.proofs.Steps.{element-listed, parents-pass, parents-step}
use Rattle.std.proofs.lemmas.List.{take_all}
use Rattle.html_selectors.proofs.lines.parents.Goals as goal
use Rattle.html_selectors.proofs.lines.parents.Goals.{then-is_in, else-is_in}

pub loop-id-preserved : goal.loop-id-preserved
loop-id-preserved c =
    let order = c.args.index.now.order.items in
    let f = c.args.index.now.forest.now in
    let t = at c.args.column.now in
    let old = c.loop-id.parents.items in
    let there : c.loop-id.id-index < length order = rw c.deref-id-items.ensures.value at c.loop-id-test.true in
    let item : c.id-item.result ≡ get_or order c.loop-id.id-index c.id-item.result = rw c.deref-id-items.ensures.value at c.id-item.is in
    let next = take-next order c.loop-id.id-index c.id-item.result there item in
    elim c.if-is_in.branch [
      | then-is_in w ↦ rw w.parents-is (record {
        count = w.mark_parent.ensures.len ∙ c.loop-id.invariant.count;
        done = λ n p among. parents-step f c.keeps.ensures.is_forest t (take c.loop-id.id-index order) c.id-item.result old
            w.mark_parent.new.column.items c.loop-id.invariant.done w.mark_parent.ensures.marked n p
            (subst (λ (l : List ℕ). is_among n l ≡ true) next among);
      })
      | else-is_in w ↦ rw w.parents-is (record {
        count = c.loop-id.invariant.count;
        done = λ n p among. parents-pass f t (take c.loop-id.id-index order) c.id-item.result old (sym c.is_in.ensures ∙ w.if-is_in.false)
            c.loop-id.invariant.done n p (subst (λ (l : List ℕ). is_among n l ≡ true) next among);
      })
    ]

pub returns-clause-ok : goal.returns-clause-ok
returns-clause-ok c = λ n p h e.
    let order = c.args.index.now.order.items in
    c.loop-id.invariant.done n p
    (ap (λ (l : List ℕ). is_among n l) (take_all c.loop-id.id-index order (rw c.deref-id-items.ensures.value at c.loop-id-test.false))
    ∙ element-listed c.args.index.now.forest.now c.keeps.ensures.is_forest order c.args.index.now.ordered n (c.requires n h)) h e
