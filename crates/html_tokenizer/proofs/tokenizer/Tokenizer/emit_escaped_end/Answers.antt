use Rattle.std.proofs.Common.{rules}
use Rattle.html_tokenizer.proofs.tokenizer.Tokenizer.emit_escaped_end.Goals as goal

pub returns : goal.returns
returns g c = search rules
