use Rattle.std.proofs.Common.{◌∙◌, ap}
use Rattle.std.specs.Str.{chars}
use Rattle.html_references.specs.References.{goes_on}
use Rattle.html_references.proofs.Spelled.{goes_on-chars}
use Rattle.html_references.proofs.references.References.goes_on.Goals as goal

pub returns : goal.returns
returns c =
    rw (c.deref.ensures.value, c.as_bytes.ensures.value) at c.goes_on.ensures
    ∙ (goes_on-chars c.self.inside.rows.items c.self.inside.order.items c.args.held.now c.self.invariant.order_of c.utf8.held
    ∙ ap (λ rows. goes_on rows (chars c.args.held.now)) c.self.view_is)
