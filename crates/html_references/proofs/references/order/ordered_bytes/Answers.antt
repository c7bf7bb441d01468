use Rattle.std.proofs.Common.{◌∙◌, sym, ap}
use Rattle.html_references.proofs.Orders.{name_at-get_or}
use Rattle.html_references.proofs.references.order.ordered_bytes.Goals as goal

pub name_bytes-requires : goal.name_bytes-requires
name_bytes-requires c =
    rw (
      c.index-rows-order.is,
      ← name_at-get_or _ _ c.index-rows-order.result
          (c.requires.ordered.within _ c.requires.within),
    ) (c.requires.ordered.named _ c.requires.within)

pub returns : goal.returns
returns c =
    c.name_bytes.ensures ∙ (ap (λ row. row.name) c.index-rows-order.is
    ∙ sym (name_at-get_or _ _ c.index-rows-order.result (c.requires.ordered.within _ c.requires.within)))
