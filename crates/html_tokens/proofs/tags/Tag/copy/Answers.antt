use Rattle.std.proofs.Common.{rules}
use Rattle.html_tokens.proofs.tags.Tag.copy.Goals as goal

pub returns-clause-ok : goal.returns-clause-ok
returns-clause-ok c = search rules
