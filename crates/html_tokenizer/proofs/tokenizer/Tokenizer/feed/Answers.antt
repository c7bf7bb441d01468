use Rattle.std.proofs.Common.{rules}
use Rattle.html_tokenizer.proofs.tokenizer.Tokenizer.feed.Goals as goal

pub returns-in-Ok-clause-gives : goal.returns-in-Ok-clause-gives
returns-in-Ok-clause-gives g c = search rules
