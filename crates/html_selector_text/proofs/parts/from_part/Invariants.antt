use Rattle.std.proofs.Common.{◌≡◌, length}
use Rattle.html_selector_text.specs.declared.parts.Zone.TheVariants.{Compounds}
use Rattle.html_selector_text.specs.Parts.{from_part}
use Rattle.html_selector_text.proofs.parts.from_part.Given as goal

abbrev pub invariant-loop-token : goal.invariant-loop-token
invariant-loop-token l = from_part l.count Compounds l.tokens ≡ from_part l.left l.zone l.rest

abbrev pub decreases-loop-token : goal.decreases-loop-token
decreases-loop-token l = length l.rest
