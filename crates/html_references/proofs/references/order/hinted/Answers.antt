use Rattle.std.proofs.Common.{◌∙◌, sym, ap}
use Rattle.std.proofs.lemmas.Slice.Eq.{bytes_eq-Decides}
use Rattle.html_references.proofs.Longest.{named_at}
use Rattle.html_references.proofs.Orders.{name_at-get_or}
use Rattle.html_references.proofs.references.order.hinted.Goals as goal

pub name_bytes-requires : goal.name_bytes-requires
name_bytes-requires c =
    rw (c.index-rows-place.is, ← name_at-get_or _ _ c.index-rows-place.result c.if-place-rows.true)
    (named_at _ _ c.requires _ c.if-place-rows.true)

pub returns-then-eq : goal.returns-then-eq
returns-then-eq c = (
  c.if-place-rows.true,
  name_at-get_or _ _ c.index-rows-place.result c.if-place-rows.true
      ∙ sym (ap (λ row. row.name) c.index-rows-place.is) ∙ sym c.name_bytes.ensures
      ∙ (bytes_eq-Decides c.name_bytes.result.now c.args.name.now).0 (sym c.eq.ensures ∙ c.if-eq.true),
)
