use Rattle.std.proofs.Common.{◌∙◌, ap, sym}
use Rattle.html_tokens.specs.NormalText.{newlines_after}
use Rattle.html_tokens.proofs.NewlineLaws.{newlines-pieces}
use Rattle.html_tokens.proofs.laws.texts_may_be_cut_anywhere.Goals as goal

pub returns : goal.returns
returns c cr ps qs e = newlines-pieces cr ps ∙ (ap (newlines_after cr) e ∙ sym (newlines-pieces cr qs))
