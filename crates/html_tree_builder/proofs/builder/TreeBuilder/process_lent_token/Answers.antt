use Rattle.std.proofs.Common.{sym}
use Rattle.html_rules.specs.State.{hushed}
use Rattle.html_rules_laws.proofs.BuilderSteps.{counts-taken, gives-taken, refuses-barred, refuses-ended, sound-taken}
use Rattle.html_tree_builder.specs.States.{built}
use Rattle.html_tree_builder.proofs.builder.TreeBuilder.process_lent_token.Goals as goal

pub returns-then-has_ended-clause-gives : goal.returns-then-has_ended-clause-gives
returns-then-has_ended-clause-gives g c =
    let s = built g.Sink.TreeSink c.args.self.now.construction (g.Sink.TreeSink.forest c.args.self.now.sink) in
    refuses-ended c.args.token.now (hushed s) c.args.line_number (sym c.if-has_ended.ensures)

pub returns-then-bars-clause-gives : goal.returns-then-bars-clause-gives
returns-then-bars-clause-gives g c =
    let s = built g.Sink.TreeSink c.args.self.now.construction (g.Sink.TreeSink.forest c.args.self.now.sink) in
    refuses-barred c.args.token.now (hushed s) c.args.line_number (c.requires c.if-self.false)
    (sym c.if-has_ended.ensures) (sym c.if-bars.ensures)

pub returns-clause-gives : goal.returns-clause-gives
returns-clause-gives g c =
    let s = built g.Sink.TreeSink c.args.self.now.construction (g.Sink.TreeSink.forest c.args.self.now.sink) in
    let r = built g.Sink.TreeSink c.process_or_fail.new.self.construction (g.Sink.TreeSink.forest c.process_or_fail.new.self.sink) in
    gives-taken g.Sink.TreeSink.node c.args.token.now s r c.args.line_number c.process_or_fail.result
    (c.requires c.if-self.false) (sym c.if-has_ended.ensures) (sym c.if-bars.ensures)
    c.process_or_fail.ensures.taken c.process_or_fail.ensures.fault

pub returns-clause-counts : goal.returns-clause-counts
returns-clause-counts g c =
    let s = built g.Sink.TreeSink c.args.self.now.construction (g.Sink.TreeSink.forest c.args.self.now.sink) in
    let r = built g.Sink.TreeSink c.process_or_fail.new.self.construction (g.Sink.TreeSink.forest c.process_or_fail.new.self.sink) in
    counts-taken g.Sink.TreeSink.node c.args.token.now s r c.process_or_fail.result c.process_or_fail.ensures.taken

pub returns-clause-sound : goal.returns-clause-sound
returns-clause-sound g c =
    let s = built g.Sink.TreeSink c.args.self.now.construction (g.Sink.TreeSink.forest c.args.self.now.sink) in
    let r = built g.Sink.TreeSink c.process_or_fail.new.self.construction (g.Sink.TreeSink.forest c.process_or_fail.new.self.sink) in
    sound-taken g.Sink.TreeSink.node c.args.token.now s r c.process_or_fail.result
    c.process_or_fail.new.self.has_failed (c.requires c.if-self.false) (sym c.if-has_ended.ensures)
    (sym c.if-bars.ensures) c.process_or_fail.ensures.taken c.process_or_fail.ensures.fault c.process_or_fail.ensures.failed
