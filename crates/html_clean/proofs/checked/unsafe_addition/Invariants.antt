use Rattle.std.proofs.Common.{◌≡◌, drop}
use Rattle.html_clean.specs.Checks.{unsafe_addition}
use Rattle.html_clean.proofs.checked.unsafe_addition.Given as goal

abbrev pub invariant-loop-addition : goal.invariant-loop-addition
invariant-loop-addition l = unsafe_addition l.policy (drop l.addition-index l.added) ≡ unsafe_addition l.policy l.added
