use Rattle.std.proofs.Common.{sym, arith}
use Rattle.html_rules.specs.Adoption.{is_number}
use Rattle.html_stack.specs.Stacks.{open_of}
use Rattle.html_stack.proofs.Newest.{none-all, none-at, none-on}
use Rattle.html_stack.proofs.formatting.positions.on_stack_below.Goals as goal

pub loop-i-init : goal.loop-i-init
loop-i-init g c = record { within = c.requires.within; none = c.requires.beyond }

pub returns-then-same_node : goal.returns-then-same_node
returns-then-same_node g c =
    none-at (open_of g.Sink.TreeSink.node) (is_number (g.Sink.TreeSink.node c.args.node.now)) c.args.elements.now
    c.loop-i.i _ c.index-elements-i.result c.loop-i.invariant (omega arith) c.index-elements-i.is (sym c.if-same_node.ensures)

pub loop-i-preserved : goal.loop-i-preserved
loop-i-preserved g c =
    none-on (open_of g.Sink.TreeSink.node) (is_number (g.Sink.TreeSink.node c.args.node.now)) c.args.elements.now
    c.loop-i.i _ c.index-elements-i.result c.loop-i.invariant (omega arith) c.index-elements-i.is (sym c.if-same_node.ensures)

pub returns : goal.returns
returns g c = none-all (open_of g.Sink.TreeSink.node) (is_number (g.Sink.TreeSink.node c.args.node.now))
    c.args.elements.now c.loop-i.i c.loop-i.invariant (omega arith)
