use Rattle.std.proofs.Common.{rules}
use Rattle.html_names.proofs.encodings.up_to.Goals as goal

pub returns-then-n-text : goal.returns-then-n-text
returns-then-n-text c = search rules

pub returns-else-n-text : goal.returns-else-n-text
returns-else-n-text c = search rules
