use Rattle.std.proofs.Common.{arith}
use Rattle.html_stack.specs.Stacks.{opens_of}
use Rattle.html_stack.proofs.Reached.{listed-at}
use Rattle.html_stack.proofs.Reopened.{more-wait}
use Rattle.html_stack.proofs.formatting.opening.count_settled.Goals as goal

pub waits-requires-clause-opened : goal.waits-requires-clause-opened
waits-requires-clause-opened g c = c.requires.standing.opened

pub waits-requires-clause-listed : goal.waits-requires-clause-listed
waits-requires-clause-listed g c =
    listed-at g.Sink.TreeSink.node (g.Sink.TreeSink.forest c.args.sink.now) c.args.entries.now _
    c.index-entries-i.result c.requires.standing.listed (omega (arith, c.loop-i.invariant.within)) c.index-entries-i.is

pub loop-i-preserved : goal.loop-i-preserved
loop-i-preserved g c =
    let node = g.Sink.TreeSink.node in
    record {
      within = omega (arith, c.loop-i.invariant.within);
      wait = more-wait node (opens_of node c.args.elements.now) c.args.entries.now c.loop-i.i _
          c.index-entries-i.result (omega arith) (omega (arith, c.loop-i.invariant.within)) c.index-entries-i.is
          c.if-not-waits.ensures c.loop-i.invariant.wait;
    }
