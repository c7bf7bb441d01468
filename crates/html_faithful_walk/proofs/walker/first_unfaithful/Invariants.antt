use Rattle.std.proofs.Common.{◌≡◌}
use Rattle.html_faithful.specs.Walk.{is_at_end, is_faithful_forest}
use Rattle.html_faithful_walk.specs.Firsts.{Leads}
use Rattle.html_faithful_walk.specs.Left.{left, nodes_left, walk_of}
use Rattle.html_faithful_walk.proofs.walker.first_unfaithful.Given as goal

abbrev pub invariant-loop-id : goal.invariant-loop-id
invariant-loop-id l = record {
  same : is_at_end (left l.scripting l.forest (walk_of l.judge l.nodes)) ≡ is_faithful_forest l.fn.scripting l.fn.forest;
  leads : Leads l.scripting l.forest (walk_of l.judge l.nodes);
}

abbrev pub decreases-loop-id : goal.decreases-loop-id
decreases-loop-id l = nodes_left l.forest (walk_of l.judge l.nodes)
