use Rattle.std.proofs.Common.{◌≡◌}
use Rattle.html_clean.specs.Policies.{plain_text}
use Rattle.html_clean.proofs.texts.filtered_text.Given as goal

abbrev pub invariant-loop-c : goal.invariant-loop-c
invariant-loop-c l = l.made ≡ plain_text l.yielded
