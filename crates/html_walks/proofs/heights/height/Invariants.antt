use Rattle.std.proofs.Common.{◌≡◌}
use Rattle.html_walks.specs.Height.{height}
use Rattle.html_walks.proofs.Levels.{lowest}
use Rattle.html_walks.proofs.heights.height.Given as goal

abbrev pub invariant-loop-step : goal.invariant-loop-step
invariant-loop-step l = lowest l.level l.most l.step-iterator ≡ height l.fn.forest l.fn.id
