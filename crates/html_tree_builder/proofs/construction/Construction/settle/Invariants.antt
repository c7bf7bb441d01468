use Rattle.std.proofs.Common.{◌≡◌, ◌+◌}
use Rattle.html_rules.specs.Rules.{settle}
use Rattle.html_rules_laws.specs.Upright.{MayCome}
use Rattle.html_tree_builder.specs.States.{Stands, built}
use Rattle.html_tree_builder.specs.Told.{token_of}
use Rattle.html_tree_builder.proofs.Settles.{IsOnWay, all_turns, leads}
use Rattle.html_tree_builder.proofs.construction.Construction.settle.Given as goal

abbrev pub invariant-loop-acknowledged : goal.invariant-loop-acknowledged
invariant-loop-acknowledged g l =
    let sink = g.Sink.TreeSink in
    let t = token_of l.told.content in
    let s = built sink l.self (sink.forest l.sink) in
    record {
      stands : Stands (sink.forest l.sink) l.self;
      may : MayCome t s;
      on : IsOnWay (all_turns l.fn.self.stack.open_elems) t (settle t (built sink l.fn.self (sink.forest l.fn.sink))) s;
      counted : l.turns.count + (leads (all_turns l.fn.self.stack.open_elems) t s).turns ≡ l.fn.turns.count +
          (settle t (built sink l.fn.self (sink.forest l.fn.sink))).turns;
    }

abbrev pub decreases-loop-acknowledged : goal.decreases-loop-acknowledged
decreases-loop-acknowledged g l =
    (leads (all_turns l.fn.self.stack.open_elems) (token_of l.told.content)
    (built g.Sink.TreeSink l.self (g.Sink.TreeSink.forest l.sink))).turns
