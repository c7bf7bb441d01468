use Rattle.std.proofs.Common.{◌∙◌, ap, sym}
use Rattle.std.specs.Str.{chars}
use Rattle.std.proofs.lemmas.Result.{IfOk-weaker}
use Rattle.html_faithful.specs.Forms.{lowered}
use Rattle.html_faithful_judge.proofs.LoweredNames.{all-low}
use Rattle.html_faithful_judge.proofs.names.lowered.Goals as goal

pub returns-then-is_lowered-clause-ok : goal.returns-then-is_lowered-clause-ok
returns-then-is_lowered-clause-ok c =
    let low = ap lowered (sym c.as_str.ensures) ∙ (all-low (chars c.as_str.result.now) (sym c.is_lowered.ensures ∙ c.if-is_lowered.true)
    ∙ c.as_str.ensures) in
    IfOk-weaker c.copy.result _ _ (λ made h. h ∙ sym low) c.copy.ensures.ok
