use Rattle.std.proofs.Common.{rules}
use Rattle.html_tree_builder.proofs.options.TreeBuilderOptsDefault.default.Goals as goal

pub returns : goal.returns
returns c = search rules
