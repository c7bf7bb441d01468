use Rattle.std.proofs.Common.{◌∙◌, sym}
use Rattle.std.proofs.lemmas.Str.{scalars-chars}
use Rattle.std.specs.Str.{chars}
use Rattle.html_clean.proofs.PlainTexts.{plain-none, plain-some}
use Rattle.html_clean.proofs.texts.is_plain.Goals as goal

pub returns-then-is_no_text : goal.returns-then-is_no_text
returns-then-is_no_text c = c.if-is_no_text.true ∙ plain-none (chars c.args.text.now) (sym c.is_no_text.ensures ∙ c.if-is_no_text.true)

pub returns-else-is_no_text : goal.returns-else-is_no_text
returns-else-is_no_text c =
    c.is_plain_text.ensures
    ∙ plain-some (chars c.args.text.now) (scalars-chars c.args.text.now c.utf8.text) (sym c.is_no_text.ensures ∙ c.if-is_no_text.false)
