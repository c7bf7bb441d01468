use Rattle.std.proofs.Common.{◌∙◌, ap, ap₂, sym, refl, codes}
use Rattle.std.proofs.lemmas.Result.{IfOk-weaker}
use Rattle.markup.proofs.Plain.{chars-plain}
use Rattle.html_faithful.specs.Forms.{is_raw_text}
use Rattle.html_faithful_walk.specs.Walking.{may_end}
use Rattle.html_faithful_walk.proofs.judge.Judge.may_end.Goals as goal

pub returns-in-Raw-clause-ok : goal.returns-in-Raw-clause-ok
returns-in-Raw-clause-ok c =
    IfOk-weaker c.is_raw_text.result _ _
    (λ ends h. h ∙ (ap₂ (λ n t. is_raw_text c.in-Raw.kind n t) c.as_str.ensures (chars-plain (codes "") refl)
    ∙ sym (ap may_end c.in-Raw.is)))
    c.is_raw_text.ensures.ok
