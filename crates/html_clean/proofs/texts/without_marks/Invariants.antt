use Rattle.std.proofs.Common.{◌≡◌}
use Rattle.html_clean.specs.Policies.{without_marks}
use Rattle.html_clean.proofs.texts.without_marks.Given as goal

abbrev pub invariant-loop-c : goal.invariant-loop-c
invariant-loop-c l = l.made ≡ without_marks l.yielded
