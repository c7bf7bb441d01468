use Rattle.std.proofs.Common.{◌∙◌, sym}
use Rattle.std.specs.Str.{chars}
use Rattle.html_clean.proofs.KeptTexts.{kept-whole}
use Rattle.html_clean.proofs.filter.pass_text.Goals as goal

pub returns-then-is_kept_whole-clause-passes : goal.returns-then-is_kept_whole-clause-passes
returns-then-is_kept_whole-clause-passes g c =
    rw (
      c.if-hides.false,
      kept-whole c.args.front (chars c.args.text.now)
          (sym c.is_kept_whole.ensures ∙ c.if-is_kept_whole.true),
    ) c.pass_some.ensures.passes
