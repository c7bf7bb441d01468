use Rattle.std.proofs.Common.{◌∙◌, ap, sym, inr}
use Rattle.std.specs.Prelude.{is_some}
use Rattle.std.specs.Str.{chars}
use Rattle.html_clean.specs.Filter.{pass}
use Rattle.html_clean.proofs.KeptTexts.{none-passed, some-passed}
use Rattle.html_clean.proofs.filter.pass_some.Goals as goal

pub returns-then-is_no_text-clause-passes : goal.returns-then-is_no_text-clause-passes
returns-then-is_no_text-clause-passes g c =
    ap (pass g.S.Serializer.step (g.S.Serializer.view c.args.serializer.now))
    (none-passed (chars c.args.text.now) (sym c.is_no_text.ensures ∙ c.if-is_no_text.true))

pub returns-then-is_no_text-clause-told : goal.returns-then-is_no_text-clause-told
returns-then-is_no_text-clause-told g c =
    sym (ap is_some (none-passed (chars c.args.text.now) (sym c.is_no_text.ensures ∙ c.if-is_no_text.true)))

pub returns-in-Ok-clause-passes : goal.returns-in-Ok-clause-passes
returns-in-Ok-clause-passes g c =
    rw (some-passed (chars c.args.text.now) (sym c.is_no_text.ensures ∙ c.if-is_no_text.false)) c.in-Ok.ensures.answers

pub returns-in-Ok-clause-told : goal.returns-in-Ok-clause-told
returns-in-Ok-clause-told g c = sym (ap is_some (some-passed (chars c.args.text.now) (sym c.is_no_text.ensures ∙ c.if-is_no_text.false)))

pub returns-in-Err-clause-passes : goal.returns-in-Err-clause-passes
returns-in-Err-clause-passes g c =
    rw (some-passed (chars c.args.text.now) (sym c.is_no_text.ensures ∙ c.if-is_no_text.false)) (inr c.in-Err.ensures.answers)
