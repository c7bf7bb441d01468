use Rattle.std.proofs.Common.{rules}
use Rattle.html_tokens.proofs.listed.Listed.new.Goals as goal

pub returns-clause-listing : goal.returns-clause-listing
returns-clause-listing c = search rules
