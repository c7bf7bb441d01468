use Rattle.html_tree_builder.specs.States.{built}
use Rattle.html_tree_builder.specs.Told.{token_of}
use Rattle.html_rules_laws.proofs.Progress.TokensTaken.{is-settled, may-come}
use Rattle.html_tree_builder.proofs.Acted.{its_answers}
use Rattle.html_tree_builder.proofs.Settles.{at-most}
use Rattle.html_tree_builder.proofs.TextsTaken.{usable-stands}
use Rattle.html_tree_builder.proofs.construction.Construction.settle_named.Goals as goal

pub settle-requires-clause-may : goal.settle-requires-clause-may
settle-requires-clause-may g c = may-come (token_of c.args.told.now.content)
    (built g.Sink.TreeSink c.args.self.now (g.Sink.TreeSink.forest c.args.sink.now)) c.requires.usable c.requires.going

pub settle-requires-clause-settled : goal.settle-requires-clause-settled
settle-requires-clause-settled g c = is-settled (token_of c.args.told.now.content)
    (built g.Sink.TreeSink c.args.self.now (g.Sink.TreeSink.forest c.args.sink.now)) c.requires.usable c.requires.going

pub returns-clause-most : goal.returns-clause-most
returns-clause-most g c =
    at-most (token_of c.args.told.now.content)
    (built g.Sink.TreeSink c.args.self.now (g.Sink.TreeSink.forest c.args.sink.now)) c.args.turns.now.count
    c.settle.new.turns.count c.settle.ensures.most

pub settle-requires-clause-stands : goal.settle-requires-clause-stands
settle-requires-clause-stands g c =
    let a = its_answers g.Sink.TreeSink in
    usable-stands a c.args.self.now (g.Sink.TreeSink.forest c.args.sink.now) c.requires.usable c.requires.going
