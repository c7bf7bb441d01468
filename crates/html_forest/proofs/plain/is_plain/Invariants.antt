use Rattle.std.proofs.Common.{◌≡◌}
use Rattle.html_plain.specs.Grammar.{is_plain_forest}
use Rattle.html_forest.specs.Judging.{is_walk_plain, nodes_left}
use Rattle.html_forest.proofs.plain.is_plain.Given as goal

abbrev pub invariant-loop-id : goal.invariant-loop-id
invariant-loop-id l = is_walk_plain l.forest (l.judge.stand, l.judge.rest, l.judge.waiting.items) ≡ is_plain_forest l.fn.forest

abbrev pub decreases-loop-id : goal.decreases-loop-id
decreases-loop-id l = nodes_left l.forest (l.judge.stand, l.judge.rest, l.judge.waiting.items)
