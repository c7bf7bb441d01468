use Rattle.html_references.proofs.Longest.{longest-found}
use Rattle.html_references.proofs.references.order.longest.Goals as goal

pub returns-in-Some-clause-longest : goal.returns-in-Some-clause-longest
returns-in-Some-clause-longest c = longest-found c.args.rows.now c.args.order.now c.args.text.now _ _ c.requires
    c.in-Some.is c.find_hinted.ensures.found
