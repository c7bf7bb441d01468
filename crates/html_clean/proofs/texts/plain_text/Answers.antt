use Rattle.std.proofs.Common.{◌∙◌, sym}
use Rattle.std.specs.Str.{chars}
use Rattle.std.proofs.lemmas.Result.{IfOk-weaker}
use Rattle.html_clean.proofs.KeptTexts.{plain-same}
use Rattle.html_clean.proofs.texts.plain_text.Goals as goal

pub returns-then-is_plain-clause-ok : goal.returns-then-is_plain-clause-ok
returns-then-is_plain-clause-ok c =
    IfOk-weaker c.from_str.result _ _
    (λ made h. h ∙ sym (plain-same (chars c.args.text.now) (sym c.is_plain.ensures ∙ c.if-is_plain.true))) c.from_str.ensures.ok
