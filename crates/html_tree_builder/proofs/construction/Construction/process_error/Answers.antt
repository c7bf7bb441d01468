use Rattle.std.proofs.Common.{ap}
use Rattle.html_rules.specs.Stack.{parse_error}
use Rattle.html_tree_builder.specs.States.{built}
use Rattle.html_tree_builder.proofs.construction.Construction.process_error.Goals as goal

pub returns : goal.returns
unfolding parse_error
returns g c = ap (λ f. built g.Sink.TreeSink c.args.self.now f) c.parse_error.ensures
