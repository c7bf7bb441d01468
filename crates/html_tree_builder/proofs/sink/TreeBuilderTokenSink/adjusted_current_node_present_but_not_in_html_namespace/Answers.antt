use Rattle.std.proofs.Common.{rules}
use Rattle.html_tree_builder.proofs.sink.TreeBuilderTokenSink.adjusted_current_node_present_but_not_in_html_namespace.Goals as goal

pub returns-in-Some : goal.returns-in-Some
returns-in-Some g c = search rules
