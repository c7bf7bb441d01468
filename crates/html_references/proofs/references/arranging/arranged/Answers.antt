use Rattle.std.proofs.Common.{◌≡◌, ◌∙◌, ap, length, map, refl, subst, sym, arith}
use Rattle.std.proofs.lemmas.Result.{IfOk-weaker}
use Rattle.html_references.specs.Order.{IsArranged}
use Rattle.html_references.proofs.Arranging.{AreNamed, AreNamed-nil, AreNamed-push, IsArranged-sorted}
use Rattle.html_references.proofs.Orders.{name_at-get_or}
use Rattle.html_references.proofs.references.arranging.arranged.Goals as goal

pub loop-place-init : goal.loop-place-init
loop-place-init c = rw (c.in_ok-names.ensures.items) (AreNamed-nil (λ named. named.0.now) (λ named. named.1) c.args.rows.now)

pub loop-place-preserved : goal.loop-place-preserved
loop-place-preserved c =
    rw (c.in_ok-push.ensures.items)
    (AreNamed-push (λ named. named.0.now) (λ named. named.1) c.args.rows.now c.loop-place.place
    c.loop-place.names.items (c.name_bytes.result, c.loop-place.place) c.loop-place.invariant refl
    (c.name_bytes.ensures ∙ (ap (λ row. row.name) c.index-rows-place.is
    ∙ sym (name_at-get_or _ _ c.index-rows-place.result c.loop-place-test.true))))

pub returns : goal.returns
returns c =
    let all : c.loop-place.place ≡ length c.args.rows.now = omega arith in
    let named : AreNamed (λ named. named.0.now) (λ named. named.1) c.args.rows.now (length c.args.rows.now) c.loop-place.names.items =
    subst (λ n. AreNamed (λ named. named.0.now) (λ named. named.1) c.args.rows.now n c.loop-place.names.items) all c.loop-place.invariant in
    IfOk-weaker c.places_of.result (λ places. places.items ≡ map (λ named. named.1) c.deref.result.now)
    (λ order. IsArranged c.args.rows.now order.items)
    (λ order e.
    rw (e, c.deref.ensures.value)
    (IsArranged-sorted (λ named. named.0.now) (λ named. named.1) c.args.rows.now c.loop-place.names.items
    c.sort_unstable.new.self.items named c.sort_unstable.ensures.permutation c.sort_unstable.ensures.sorted))
    c.places_of.ensures
