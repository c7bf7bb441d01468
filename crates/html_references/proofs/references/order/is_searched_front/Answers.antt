use Rattle.std.proofs.Common.{◌∙◌}
use Rattle.html_references.proofs.Fronts.{front-found, front-unnamed}
use Rattle.html_references.proofs.Matches.{absent, after_place}
use Rattle.html_references.proofs.references.order.is_searched_front.Goals as goal

pub returns-in-Ok : goal.returns-in-Ok
returns-in-Ok c = front-found c.args.rows.now c.args.order.now c.args.text.now _ c.requires c.in-Ok.ensures.found.0 c.in-Ok.ensures.found.1

pub goes_on_at-requires-clause-first : goal.goes_on_at-requires-clause-first
goes_on_at-requires-clause-first c = λ i _ b. after_place _ _ _ _ c.in-Err.ensures.absent i b

pub returns-in-Err : goal.returns-in-Err
returns-in-Err c = c.goes_on_at.ensures ∙ front-unnamed c.args.rows.now c.args.text.now
    (absent _ c.args.order.now _ _ c.requires c.in-Err.ensures.absent)
