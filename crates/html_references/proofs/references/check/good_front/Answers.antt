use Rattle.std.proofs.Common.{◌≡◌, ◌∙◌, ◌<◌, ◌≤◌, ap, sym, arith, ⊎_elim}
use Rattle.std.proofs.lemmas.Bool.{cases_lt}
use Rattle.std.proofs.lemmas.List.{get_or_default}
use Rattle.html_references.specs.Order.{is_good}
use Rattle.html_references.proofs.references.check.good_front.Goals as goal

pub loop-place-preserved : goal.loop-place-preserved
loop-place-preserved c k d l =
    ⊎_elim
    (λ (b : k < c.loop-place.place). c.loop-place.invariant k d b)
    (λ (b : c.loop-place.place ≤ k).
    let e : k ≡ c.loop-place.place = omega arith in
    rw e (ap is_good (get_or_default c.args.rows.now c.loop-place.place d c.index-rows-place.result
    c.loop-place-test.true ∙ sym c.index-rows-place.is) ∙ (sym c.is_good.ensures ∙ c.if-not-is_good.false)))
    (cases_lt k c.loop-place.place)
