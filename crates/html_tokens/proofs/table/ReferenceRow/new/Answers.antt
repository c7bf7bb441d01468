use Rattle.std.proofs.Common.{rules}
use Rattle.html_tokens.proofs.table.ReferenceRow.new.Goals as goal

pub returns : goal.returns
returns c = search rules
