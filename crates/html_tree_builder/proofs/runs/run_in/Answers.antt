use Rattle.std.proofs.Common.{rules}
use Rattle.html_tree_builder.proofs.runs.run_in.Goals as goal

pub returns-in-Text : goal.returns-in-Text
returns-in-Text c = search rules
