use Rattle.std.proofs.Common.{◌≡◌}
use Rattle.html_faithful_judge.proofs.texts.characters.Given as goal

abbrev pub invariant-loop-c : goal.invariant-loop-c
invariant-loop-c l = l.made.items ≡ l.yielded
