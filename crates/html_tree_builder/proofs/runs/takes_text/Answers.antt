use Rattle.std.proofs.Common.{rules}
use Rattle.html_tree_builder.proofs.runs.takes_text.Goals as goal

pub returns-then-is_in : goal.returns-then-is_in
returns-then-is_in g c = search rules

pub returns-else-is_in : goal.returns-else-is_in
returns-else-is_in g c = search rules
