use Rattle.std.proofs.Common.{rules}
use Rattle.html_tokens.proofs.listed.Listed.take.Goals as goal

pub returns-in_ok-append-in-CharacterTokens-clause-taken : goal.returns-in_ok-append-in-CharacterTokens-clause-taken
returns-in_ok-append-in-CharacterTokens-clause-taken c = search rules
