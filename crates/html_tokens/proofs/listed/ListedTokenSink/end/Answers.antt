use Rattle.std.proofs.Common.{rules}
use Rattle.html_tokens.proofs.listed.ListedTokenSink.end.Goals as goal

pub returns-clause-ends : goal.returns-clause-ends
returns-clause-ends c = search rules
