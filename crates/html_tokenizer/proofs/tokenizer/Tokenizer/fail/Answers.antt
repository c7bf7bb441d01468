use Rattle.std.proofs.Common.{rules}
use Rattle.html_tokenizer.proofs.tokenizer.Tokenizer.fail.Goals as goal

pub returns-clause-failed : goal.returns-clause-failed
returns-clause-failed g c = search rules
