use Rattle.std.proofs.Common.{◌∙◌, ap}
use Rattle.std.specs.Str.{chars}
use Rattle.html_references.specs.References.{is_front}
use Rattle.html_references.proofs.Fronts.{is_front-chars}
use Rattle.html_references.proofs.references.References.is_front.Goals as goal

pub returns : goal.returns
returns c =
    rw (c.deref.ensures.value, c.as_bytes.ensures.value) at c.is_front.ensures
    ∙ (is_front-chars c.self.inside.rows.items c.self.inside.order.items c.args.held.now c.self.invariant.order_of c.utf8.held
    ∙ ap (λ rows. is_front rows (chars c.args.held.now)) c.self.view_is)
