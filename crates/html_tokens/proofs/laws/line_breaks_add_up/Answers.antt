use Rattle.html_tokens.proofs.TextLaws.{line_breaks-append}
use Rattle.html_tokens.proofs.laws.line_breaks_add_up.Goals as goal

pub returns : goal.returns
returns c = line_breaks-append
