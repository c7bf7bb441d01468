use Rattle.html_references.proofs.Matches.{absent}
use Rattle.html_references.proofs.references.order.find.Goals as goal

pub returns-in-Err-clause-absent : goal.returns-in-Err-clause-absent
returns-in-Err-clause-absent c = absent _ c.args.order.now _ _ c.requires c.in-Err.ensures.absent
