use Rattle.std.proofs.Common.{rules}
use Rattle.html_tokens.proofs.listed.ListedTokenSink.process_token.Goals as goal

pub returns-then-is_err-clause-failed_after : goal.returns-then-is_err-clause-failed_after
returns-then-is_err-clause-failed_after c = search rules
