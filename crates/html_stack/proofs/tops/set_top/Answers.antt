use Rattle.std.proofs.Common.{◌∙◌, ap, sym}
use Rattle.std.specs.Prelude.{unwrap_or}
use Rattle.html_stack.proofs.Noted.{key-same, said-put, said-removed, went_well}
use Rattle.html_stack.proofs.tops.set_top.Goals as goal

pub returns-then-top-eq0-clause-set : goal.returns-then-top-eq0-clause-set
returns-then-top-eq0-clause-set c h other = ap (λ o. unwrap_or o 0) (c.remove.ensures.updates.0 other)
    ∙ said-removed _ _ _ c.args.top (key-same c.args.name other) c.if-top-eq0.true

pub returns-clause-set : goal.returns-clause-set
returns-clause-set c h other = ap (λ o. unwrap_or o 0)
    ((went_well c.insert.result c.insert.ensures.updates (sym c.is_ok.ensures.value ∙ h)).0 other)
    ∙ said-put _ _ _ c.args.top (key-same c.args.name other)
