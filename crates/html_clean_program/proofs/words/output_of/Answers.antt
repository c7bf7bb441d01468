use Rattle.std.proofs.Common.{◌∙◌, ap, sym}
use Rattle.html_clean_program.specs.Words.{output_in}
use Rattle.html_clean_program.proofs.words.output_of.Goals as goal

pub returns-in-Ok-clause-ok : goal.returns-in-Ok-clause-ok
returns-in-Ok-clause-ok c = c.in-Ok.ensures.ok.held.output ∙ ap output_in (sym c.in-Ok.ensures.ok.asks)
