use Rattle.std.proofs.Common.{◌≡◌, ◌≤◌, true, length, drop}
use Rattle.std.specs.List.{list_all}
use Rattle.html_stack.specs.Reopening.{waits}
use Rattle.html_stack.specs.Stacks.{entries_of, opens_of}
use Rattle.html_stack.proofs.formatting.opening.count_settled.Given as goal

abbrev pub invariant-loop-i : goal.invariant-loop-i
invariant-loop-i g l = record {
  within : l.i ≤ length l.entries;
  wait : list_all (waits (opens_of g.Sink.TreeSink.node l.elements)) (entries_of g.Sink.TreeSink.node (drop l.i l.entries)) ≡ true;
}

abbrev pub decreases-loop-i : goal.decreases-loop-i
decreases-loop-i g l = l.i
