use Rattle.std.proofs.Common.{◌∙◌, sym, arith}
use Rattle.html_rules.specs.Formatting.{stands_for}
use Rattle.html_stack.specs.Stacks.{entries_of, entry_of}
use Rattle.html_stack.proofs.ListEdits.{listed-any}
use Rattle.html_stack.proofs.Newest.{none-all, none-at, none-on, none-start}
use Rattle.html_stack.proofs.formatting.positions.in_list.Goals as goal

pub loop-i-init : goal.loop-i-init
loop-i-init g c = none-start (entry_of g.Sink.TreeSink.node) (stands_for (g.Sink.TreeSink.node c.args.node.now)) c.args.entries.now

pub returns-then-stands_for : goal.returns-then-stands_for
returns-then-stands_for g c =
    none-at (entry_of g.Sink.TreeSink.node) (stands_for (g.Sink.TreeSink.node c.args.node.now)) c.args.entries.now
    c.loop-i.i _ c.index-entries-i.result c.loop-i.invariant (omega arith) c.index-entries-i.is (sym c.if-stands_for.ensures)

pub loop-i-preserved : goal.loop-i-preserved
loop-i-preserved g c =
    none-on (entry_of g.Sink.TreeSink.node) (stands_for (g.Sink.TreeSink.node c.args.node.now)) c.args.entries.now
    c.loop-i.i _ c.index-entries-i.result c.loop-i.invariant (omega arith) c.index-entries-i.is (sym c.if-stands_for.ensures)

pub returns : goal.returns
returns g c =
    listed-any (g.Sink.TreeSink.node c.args.node.now) (entries_of g.Sink.TreeSink.node c.args.entries.now)
    ∙ none-all (entry_of g.Sink.TreeSink.node) (stands_for (g.Sink.TreeSink.node c.args.node.now))
    c.args.entries.now c.loop-i.i c.loop-i.invariant (omega arith)
