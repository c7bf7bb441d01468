use Rattle.std.proofs.Common.{◌∙◌}
use Rattle.html_stack.proofs.Noted.{open-beyond}
use Rattle.html_stack.proofs.stack.Stack.has_open.Goals as goal

pub returns : goal.returns
returns g c = c.has_open.ensures g.Sink.TreeSink.node ∙ open-beyond c.args.set _ _ c.reached.ensures
