use Rattle.std.proofs.Common.{◌∙◌, ap}
use Rattle.html_rules.specs.Rules.{settle}
use Rattle.html_tree_builder.specs.States.{built}
use Rattle.html_tree_builder.proofs.construction.Construction.process_character.Goals as goal

pub returns-clause-ok : goal.returns-clause-ok
returns-clause-ok g c =
    c.in_ok-settle_named.ensures.state
    ∙ ap (λ t. (settle t (built g.Sink.TreeSink c.args.self.now (g.Sink.TreeSink.forest c.args.sink.now))).state) c.of-told.ensures.content
