use Rattle.std.proofs.Common.{◌≡◌, length}
use Rattle.html_selector_text.specs.Scanning.{past_comment}
use Rattle.html_selector_text.proofs.scanning.past_comment.Given as goal

abbrev pub invariant-loop-rest : goal.invariant-loop-rest
invariant-loop-rest l = past_comment l.chars ≡ past_comment l.rest

abbrev pub decreases-loop-rest : goal.decreases-loop-rest
decreases-loop-rest l = length l.rest
