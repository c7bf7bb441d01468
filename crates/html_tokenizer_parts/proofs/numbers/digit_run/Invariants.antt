use Rattle.std.proofs.Common.{length, ◌-◌, ◌+◌, ◌≡◌, ◌≤◌, drop}
use Rattle.html_tokens.specs.Characters.{run}
use Rattle.html_tokenizer_parts.specs.CharRefs.{stops}
use Rattle.html_tokenizer_parts.proofs.numbers.digit_run.Given as goal

abbrev pub invariant-loop-count : goal.invariant-loop-count
invariant-loop-count l = (l.count ≤ length l.text) × (run (stops l.hex) l.text ≡ l.count + run (stops l.hex) (drop l.count l.text))

abbrev pub decreases-loop-count : goal.decreases-loop-count
decreases-loop-count l = length l.text - l.count
