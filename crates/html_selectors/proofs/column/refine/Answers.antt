use Rattle.std.proofs.Common.{◌≡◌, ◌∙◌, ◌<◌, ℕ, Bool, List, true, false, length, take, ap, subst, sym}
use Rattle.std.proofs.Math.ListN.{get_or}
use Rattle.std.proofs.lemmas.List.{take_all}
use Rattle.markup.specs.Forest.{is_among}
use Rattle.html_selectors.specs.Columns.{at}
use Rattle.html_selectors.proofs.Listing.{take-next}
use Rattle.html_selectors.proofs.Marks.{refine-all, refine-left, refine-pass, refine-rest, refine-step}
use Rattle.html_selectors.proofs.Steps.{at-within, element-listed}
use Rattle.html_selectors.proofs.column.refine.Goals as goal
use Rattle.html_selectors.proofs.column.refine.Goals.{then-is_in, else-is_in}

pub loop-id-preserved : goal.loop-id-preserved
loop-id-preserved g c =
    let order = c.args.index.now.order.items in
    let old = c.args.column.now.items in
    let new = c.loop-id.column.items in
    let m = c.id-item.result in
    let done = take c.loop-id.id-index order in
    let there : c.loop-id.id-index < length order = rw c.deref-id-items.ensures.value at c.loop-id-test.true in
    let item : m ≡ get_or order c.loop-id.id-index m = rw c.deref-id-items.ensures.value at c.id-item.is in
    let next = take-next order c.loop-id.id-index m there item in
    let is : c.is_in.result ≡ at new m = c.is_in.ensures ∙ ap (λ (l : List Bool). at l m) c.as_slice.ensures.value in
    elim c.if-is_in.branch [
      | then-is_in w ↦
          let on : at new m ≡ true = sym is ∙ w.if-is_in.true in
          rw w.column-is (record {
            done = λ n among. rw w.number.ensures (refine-step _ done m old new w.test.result (at-within new m on)
                c.loop-id.invariant.done c.loop-id.invariant.rest on w.test.ensures n
                (subst (λ (l : List ℕ). is_among n l ≡ true) next among));
            rest = λ n out. rw w.number.ensures (refine-rest done m old new w.test.result c.loop-id.invariant.rest n
                (subst (λ (l : List ℕ). is_among n l ≡ false) next out));
          })
      | else-is_in w ↦
          let off : at new m ≡ false = sym is ∙ w.if-is_in.false in
          rw w.column-is (record {
            done = λ n among. refine-pass _ done m old new c.loop-id.invariant.done c.loop-id.invariant.rest off n
                (subst (λ (l : List ℕ). is_among n l ≡ true) next among);
            rest = λ n out. refine-left done m old new c.loop-id.invariant.rest n
                (subst (λ (l : List ℕ). is_among n l ≡ false) next out);
          })
    ]

pub returns : goal.returns
returns g c =
    let order = c.args.index.now.order.items in
    let all : take c.loop-id.id-index order ≡ order =
    take_all c.loop-id.id-index order (rw c.deref-id-items.ensures.value at c.loop-id-test.false) in
    refine-all _ order c.args.column.now.items c.loop-id.column.items
    (λ n among. c.loop-id.invariant.done n (subst (λ (l : List ℕ). is_among n l ≡ true) (sym all) among))
    (λ n out. c.loop-id.invariant.rest n (subst (λ (l : List ℕ). is_among n l ≡ false) (sym all) out))
    (λ n on. element-listed c.args.index.now.forest.now c.keeps.ensures.is_forest order c.args.index.now.ordered n
    (c.requires.elements n on))
