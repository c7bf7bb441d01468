use Rattle.std.proofs.Common.{◌≤◌, ◌-◌, drop, length, take}
use Rattle.std.specs.Prelude.{IsUtf8}
use Rattle.html_input.proofs.characters.wide_end.Given as goal

abbrev pub invariant-loop-at : goal.invariant-loop-at
invariant-loop-at l = record {
  low : l.from ≤ l.at;
  within : l.at ≤ length l.bytes;
  text : IsUtf8 (take (l.at - l.from) (drop l.from l.bytes));
}

abbrev pub decreases-loop-at : goal.decreases-loop-at
decreases-loop-at l = length l.bytes - l.at
