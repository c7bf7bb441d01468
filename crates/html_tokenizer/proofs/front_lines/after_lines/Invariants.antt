use Rattle.std.proofs.Common.{length}
use denote.Text.{Utf8}
use denote.Shadow.{shadow}
use Rattle.html_tokenizer.specs.Fronts.{HasLines}
use Rattle.html_tokenizer.proofs.front_lines.after_lines.Given as goal

abbrev pub invariant-loop-after : goal.invariant-loop-after
invariant-loop-after l = shadow (Utf8 l.rest) × HasLines l.fn.text l.rest l.fn.breaks l.breaks_after

abbrev pub decreases-loop-after : goal.decreases-loop-after
decreases-loop-after l = length l.rest
