use Rattle.std.proofs.Common.{◌≡◌, length}
use Rattle.html_selector_text.specs.Scanning.{past_whitespace}
use Rattle.html_selector_text.proofs.scanning.past_whitespace.Given as goal

abbrev pub invariant-loop-rest : goal.invariant-loop-rest
invariant-loop-rest l = past_whitespace l.chars ≡ past_whitespace l.rest

abbrev pub decreases-loop-rest : goal.decreases-loop-rest
decreases-loop-rest l = length l.rest
