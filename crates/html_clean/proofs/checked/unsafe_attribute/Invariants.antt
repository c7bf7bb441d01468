use Rattle.std.proofs.Common.{◌≡◌, drop}
use Rattle.html_clean.specs.Checks.{unsafe_attribute}
use Rattle.html_clean.proofs.checked.unsafe_attribute.Given as goal

abbrev pub invariant-loop-name : goal.invariant-loop-name
invariant-loop-name l = unsafe_attribute (drop l.name-index l.names) ≡ unsafe_attribute l.names
