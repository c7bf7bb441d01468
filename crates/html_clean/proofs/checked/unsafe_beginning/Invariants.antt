use Rattle.std.proofs.Common.{◌≡◌, drop}
use Rattle.html_clean.specs.Checks.{unsafe_beginning}
use Rattle.html_clean.proofs.checked.unsafe_beginning.Given as goal

abbrev pub invariant-loop-text : goal.invariant-loop-text
invariant-loop-text l = unsafe_beginning (drop l.text-index l.texts) ≡ unsafe_beginning l.texts
