use Rattle.std.proofs.Common.{ap}
use Rattle.html_names.proofs.FirstBytes.{is-empty, is-nonempty}
use Rattle.html_tree_builder.specs.States.{built}
use Rattle.html_tree_builder.proofs.Acted.{its_answers}
use Rattle.html_tree_builder.proofs.TextsTaken.{characters-taken, no-characters, unlined-ended, unlined-state}
use Rattle.html_tree_builder.proofs.construction.Construction.process_lent_characters.Goals as goal

pub returns-then-is_empty-clause-ok : goal.returns-then-is_empty-clause-ok
returns-then-is_empty-clause-ok g c = no-characters c.args.text.now
    (built g.Sink.TreeSink c.args.self.now (g.Sink.TreeSink.forest c.args.sink.now)) (is-empty _ _ c.is_empty.ensures c.if-is_empty.true)

pub process_text-requires-clause-usable : goal.process_text-requires-clause-usable
process_text-requires-clause-usable g c =
    let a = its_answers g.Sink.TreeSink in
    let f = g.Sink.TreeSink.forest c.args.sink.now in
    unlined-state (built g.Sink.TreeSink c.args.self.now f) (built g.Sink.TreeSink c.set_ignore_lf.new.self f)
    (c.set_ignore_lf.ensures a f) c.requires.usable

pub process_text-requires-clause-going : goal.process_text-requires-clause-going
process_text-requires-clause-going g c =
    let a = its_answers g.Sink.TreeSink in
    let f = g.Sink.TreeSink.forest c.args.sink.now in
    unlined-ended (built g.Sink.TreeSink c.args.self.now f) (built g.Sink.TreeSink c.set_ignore_lf.new.self f)
    (c.set_ignore_lf.ensures a f) c.requires.going

pub returns-clause-ok : goal.returns-clause-ok
returns-clause-ok g c =
    let a = its_answers g.Sink.TreeSink in
    let f = g.Sink.TreeSink.forest c.args.sink.now in
    let s = built g.Sink.TreeSink c.args.self.now f in
    let u = built g.Sink.TreeSink c.set_ignore_lf.new.self f in
    let r = built g.Sink.TreeSink c.process_text.new.self (g.Sink.TreeSink.forest c.process_text.new.sink) in
    characters-taken c.args.text.now c.after_line_feed-rest.result.now _ s u r c.utf8.text
    (is-nonempty _ _ c.is_empty.ensures c.if-is_empty.false) (ap (λ b. b.ignore_lf) c.self.view_is)
    (c.set_ignore_lf.ensures a f) c.after_line_feed-rest.ensures c.in_ok-process_text.ensures.ok
