use Rattle.std.proofs.Common.{◌≡◌, ◌≤◌, length}
use Rattle.html_selector_text.specs.Scanning.{digits}
use Rattle.html_selector_text.proofs.scanning.digits.Given as goal

abbrev pub invariant-loop-rest : goal.invariant-loop-rest
invariant-loop-rest l = record {
  value : digits 0 l.chars ≡ digits l.value l.rest;
  small : l.value ≤ 1000000000;
}

abbrev pub decreases-loop-rest : goal.decreases-loop-rest
decreases-loop-rest l = length l.rest
