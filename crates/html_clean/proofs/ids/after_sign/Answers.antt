use Rattle.std.proofs.Common.{◌∙◌, ◌++◌, ap, sym}
use Rattle.std.proofs.Math.Utf8.{encode}
use Rattle.std.proofs.lemmas.Bool.{eq-eqb}
use Rattle.html_clean.proofs.ValueTexts.{sign-some}
use Rattle.html_clean.proofs.ids.after_sign.Goals as goal

pub returns-in-Some-clause-some : goal.returns-in-Some-clause-some
returns-in-Some-clause-some c =
    sign-some c.args.sign c.args.text.now c.as_str.result.now c.in-Some.c c.utf8.text
    (sym c.chars-characters.ensures.rest ∙ (c.in-Some.ensures.steps.0 ∙ ap (λ rest. encode c.in-Some.c ++ rest) (sym c.as_str.ensures)))
    (eq-eqb _ _ c.if-c-sign.true)
