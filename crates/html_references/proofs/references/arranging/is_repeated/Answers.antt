use Rattle.std.proofs.Common.{◌≡◌, ◌∙◌, ◌+◌, ap, sym}
use Rattle.std.proofs.lemmas.Slice.Eq.{bytes_eq-Decides}
use Rattle.html_references.specs.Order.{ordered_name}
use Rattle.html_references.proofs.Orders.{name_at-get_or}
use Rattle.html_references.proofs.references.arranging.is_repeated.Goals as goal

pub returns-then-index-order : goal.returns-then-index-order
returns-then-index-order c =
    let first : c.name_bytes.result.now ≡ ordered_name c.args.rows.now c.args.order.now c.args.index =
    c.name_bytes.ensures
    ∙ (ap (λ row. row.name) c.index-rows-order.is
    ∙ sym (name_at-get_or _ _ c.index-rows-order.result (c.requires.arranged.within _ c.requires.within))) in
    let second : c.name_bytes-then-index-order.result.now ≡ ordered_name c.args.rows.now c.args.order.now (c.args.index + 1) =
    c.name_bytes-then-index-order.ensures
    ∙ (ap (λ row. row.name) c.index-rows-order-then-index-order.is
    ∙ sym (name_at-get_or _ _ c.index-rows-order-then-index-order.result (c.requires.arranged.within _ c.if-index-order.true))) in
    let same = bytes_eq-Decides c.name_bytes.result.now c.name_bytes-then-index-order.result.now in (
      λ h. (c.if-index-order.true, sym first ∙ (same.0 (sym c.eq.ensures ∙ h) ∙ second)),
      λ r. c.eq.ensures ∙ same.1 (first ∙ (r.1 ∙ sym second)),
    )
