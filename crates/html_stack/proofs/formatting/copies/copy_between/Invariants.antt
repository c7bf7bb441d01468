use Rattle.std.proofs.Common.{◌≡◌, ◌≤◌, [], length, take}
use Rattle.html_rules.specs.Adoption.{walk}
use Rattle.html_rules_laws.proofs.TreePreserved.AdoptionWalk.{Walked}
use Rattle.html_stack.specs.Adopting.{walk_of}
use Rattle.html_stack.specs.Stacks.{entries_of, opens_of}
use Rattle.html_stack.proofs.formatting.copies.copy_between.Given as goal

abbrev pub invariant-loop-i : goal.invariant-loop-i
invariant-loop-i g l = record {
  within : l.i ≤ length l.elements;
  walked : Walked (g.Sink.TreeSink.forest l.fn.sink) (g.Sink.TreeSink.node l.block.handle)
      (walk_of g.Sink.TreeSink.node (g.Sink.TreeSink.forest l.sink) l.entries.items l.copies);
  same : walk l.left (opens_of g.Sink.TreeSink.node (take l.i l.elements))
      (walk_of g.Sink.TreeSink.node (g.Sink.TreeSink.forest l.sink) l.entries.items l.copies)
      ≡ walk 3 (opens_of g.Sink.TreeSink.node l.elements)
      (record {
        forest = g.Sink.TreeSink.forest l.fn.sink;
        active_formatting = entries_of g.Sink.TreeSink.node l.fn.entries.items;
        copies = [];
        last_node = g.Sink.TreeSink.node l.block.handle;
        rules = l.fn.rules;
      });
}

abbrev pub decreases-loop-i : goal.decreases-loop-i
decreases-loop-i g l = l.i
