use Rattle.std.proofs.Common.{sym}
use Rattle.html_references.proofs.Fronts.{front-named}
use Rattle.html_references.proofs.references.order.is_front.Goals as goal

pub returns-in-Some : goal.returns-in-Some
returns-in-Some c = sym (front-named c.args.rows.now _ c.args.text.now c.in-Some.ensures.0 c.in-Some.ensures.1)
