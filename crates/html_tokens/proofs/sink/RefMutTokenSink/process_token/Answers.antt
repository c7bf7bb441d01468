use Rattle.std.proofs.Common.{rules}
use Rattle.html_tokens.proofs.sink.RefMutTokenSink.process_token.Goals as goal

pub returns-clause-gives : goal.returns-clause-gives
returns-clause-gives g c = search rules
