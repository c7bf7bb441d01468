use Rattle.std.proofs.Common.{◌≡◌, ◌+◌, drop}
use Rattle.html_tokens.specs.Characters.{run}
use Rattle.html_names.specs.Stops.{stops}
use Rattle.html_names.proofs.encodings.bytes_before.Given as goal

abbrev pub invariant-loop-i : goal.invariant-loop-i
invariant-loop-i l = run (stops l.stop) l.text ≡ l.i + run (stops l.stop) (drop l.i l.text)
