use Rattle.html_tokens.proofs.NewlineLaws.{newlines-append}
use Rattle.html_tokens.proofs.laws.line_breaks_may_be_cut.Goals as goal

pub returns : goal.returns
returns c = newlines-append
