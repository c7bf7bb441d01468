use Rattle.std.proofs.Common.{◌≡◌, length}
use Rattle.html_selector_text.specs.Scanning.{past_digits}
use Rattle.html_selector_text.proofs.scanning.past_digits.Given as goal

abbrev pub invariant-loop-rest : goal.invariant-loop-rest
invariant-loop-rest l = past_digits l.chars ≡ past_digits l.rest

abbrev pub decreases-loop-rest : goal.decreases-loop-rest
decreases-loop-rest l = length l.rest
