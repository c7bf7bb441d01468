use Rattle.std.proofs.Common.{◌∙◌}
use Rattle.html_stack.proofs.Noted.{body-beyond}
use Rattle.html_stack.proofs.stack.Stack.all_end_with_body.Goals as goal

pub returns : goal.returns
returns g c = c.are_all_in.ensures g.Sink.TreeSink.node ∙ body-beyond _ _ c.reached-open.ensures
