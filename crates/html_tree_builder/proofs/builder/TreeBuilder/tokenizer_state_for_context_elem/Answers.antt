use Rattle.std.proofs.Common.{rules}
use Rattle.html_tree_builder.proofs.builder.TreeBuilder.tokenizer_state_for_context_elem.Goals as goal

pub returns-in-Some : goal.returns-in-Some
returns-in-Some g c = search rules
