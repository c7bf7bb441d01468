use Rattle.std.proofs.Common.{◌+◌, ◌≤◌, subst}
use Rattle.html_tree_builder.specs.States.{built}
use Rattle.html_tree_builder.specs.Turns.{most_turns}
use Rattle.html_tree_builder.proofs.Acted.{its_answers}
use Rattle.html_tree_builder.proofs.TextsTaken.{unlined-ended, unlined-open, unlined-state}
use Rattle.html_tree_builder.proofs.construction.Construction.process_named.Goals as goal

pub settle_named-requires-clause-usable : goal.settle_named-requires-clause-usable
settle_named-requires-clause-usable g c =
    let a = its_answers g.Sink.TreeSink in
    let f = g.Sink.TreeSink.forest c.args.sink.now in
    unlined-state (built g.Sink.TreeSink c.args.self.now f) (built g.Sink.TreeSink c.set_ignore_lf.new.self f)
    (c.set_ignore_lf.ensures a f) c.requires.usable

pub settle_named-requires-clause-going : goal.settle_named-requires-clause-going
settle_named-requires-clause-going g c =
    let a = its_answers g.Sink.TreeSink in
    let f = g.Sink.TreeSink.forest c.args.sink.now in
    unlined-ended (built g.Sink.TreeSink c.args.self.now f) (built g.Sink.TreeSink c.set_ignore_lf.new.self f)
    (c.set_ignore_lf.ensures a f) c.requires.going

pub returns-clause-most : goal.returns-clause-most
returns-clause-most g c =
    let a = its_answers g.Sink.TreeSink in
    let f = g.Sink.TreeSink.forest c.args.sink.now in
    subst (λ open_elems. c.settle_named.new.turns.count ≤ c.args.turns.now.count + most_turns open_elems)
    (unlined-open (built g.Sink.TreeSink c.args.self.now f) (built g.Sink.TreeSink c.set_ignore_lf.new.self f)
    (c.set_ignore_lf.ensures a f))
    c.settle_named.ensures.most
