use Rattle.std.proofs.Common.{◌≡◌, length}
use Rattle.html_selector_text.specs.Reading.{past_spaces}
use Rattle.html_selector_text.proofs.reading.past_spaces.Given as goal

abbrev pub invariant-loop-token : goal.invariant-loop-token
invariant-loop-token l = past_spaces l.tokens ≡ past_spaces l.rest

abbrev pub decreases-loop-token : goal.decreases-loop-token
decreases-loop-token l = length l.rest
