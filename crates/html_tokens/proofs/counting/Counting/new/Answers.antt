use Rattle.std.proofs.Common.{rules}
use Rattle.html_tokens.proofs.counting.Counting.new.Goals as goal

pub returns : goal.returns
returns g c = search rules
