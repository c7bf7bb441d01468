use Rattle.html_tokens.proofs.NewlineLaws.{newlines-own}
use Rattle.html_tokens.proofs.laws.plain_text_is_normal.Goals as goal

pub returns : goal.returns
returns c = newlines-own
