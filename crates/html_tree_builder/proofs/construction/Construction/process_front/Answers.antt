use Rattle.std.proofs.Common.{◌∙◌, sym}
use Rattle.std.specs.Str.{chars}
use Rattle.html_tree_builder.specs.States.{built}
use Rattle.html_tree_builder.proofs.Acted.{its_answers}
use Rattle.html_tree_builder.proofs.RefusedTexts.{refused-settled}
use Rattle.html_tree_builder.proofs.TextsTaken.{one-left, usable-stands, white-left}
use Rattle.html_tree_builder.proofs.construction.Construction.process_front.Goals as goal

pub returns-then-not-is_empty-clause-ok : goal.returns-then-not-is_empty-clause-ok
returns-then-not-is_empty-clause-ok g c =
    let a = its_answers g.Sink.TreeSink in
    let f = g.Sink.TreeSink.forest c.args.sink.now in
    let s = built g.Sink.TreeSink c.args.self.now f in
    let r = built g.Sink.TreeSink c.process_run.new.self (g.Sink.TreeSink.forest c.process_run.new.sink) in
    white-left c.args.text.now c.in_ok-white.white c.in_ok-white.rest.now c.in-Some.run' s r
    c.in_ok-white.ensures.ok (sym c.if-not-is_empty.true ∙ c.is_empty.ensures) (c.in-Some.ensures a f)
    c.requires.usable c.requires.going (c.in_ok-process_run.ensures.ok a)

pub returns-clause-ok : goal.returns-clause-ok
returns-clause-ok g c =
    let s = built g.Sink.TreeSink c.args.self.now (g.Sink.TreeSink.forest c.args.sink.now) in
    let r = built g.Sink.TreeSink c.process_character.new.self (g.Sink.TreeSink.forest c.process_character.new.sink) in
    one-left c.args.text.now c.args.first.now c.args.behind.now s r c.requires.split c.requires.usable
    c.requires.going c.in_ok-process_character.ensures.ok

pub process_run-requires : goal.process_run-requires
process_run-requires g c = record {
  stands = usable-stands (its_answers g.Sink.TreeSink) c.args.self.now
      (g.Sink.TreeSink.forest c.args.sink.now) c.requires.usable c.requires.going;
}

pub returns-then-not-is_white-clause-ok : goal.returns-then-not-is_white-clause-ok
returns-then-not-is_white-clause-ok g c =
    let a = its_answers g.Sink.TreeSink in
    let f = g.Sink.TreeSink.forest c.args.sink.now in
    let s = built g.Sink.TreeSink c.args.self.now f in
    let r = built g.Sink.TreeSink c.args.self.now (g.Sink.TreeSink.forest c.report_character.new.sink) in
    one-left c.args.text.now c.args.first.now c.args.behind.now s r c.requires.split c.requires.usable
    c.requires.going (c.report_character.ensures a ∙ sym (refused-settled (chars c.args.first.now) s
    (sym c.is_white.ensures ∙ c.if-not-is_white.true) (sym (c.if-refuses_text.ensures a f))))
