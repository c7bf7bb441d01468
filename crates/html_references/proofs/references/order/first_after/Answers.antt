use Rattle.html_references.proofs.Matches.{after_name, after_place}
use Rattle.html_references.proofs.references.order.first_after.Goals as goal

pub returns-in-Ok-clause-first : goal.returns-in-Ok-clause-first
returns-in-Ok-clause-first c = after_name _ _ _ _ c.requires c.in-Ok.ensures.found.0 c.in-Ok.ensures.found.1

pub returns-in-Err-clause-first : goal.returns-in-Err-clause-first
returns-in-Err-clause-first c = λ i _ b. after_place _ _ _ _ c.in-Err.ensures.absent i b
