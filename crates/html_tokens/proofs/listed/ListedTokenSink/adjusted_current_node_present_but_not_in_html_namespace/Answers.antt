use Rattle.std.proofs.Common.{rules}
use Rattle.html_tokens.proofs.listed.ListedTokenSink.adjusted_current_node_present_but_not_in_html_namespace.Goals as goal

pub returns : goal.returns
returns c = search rules
