use Rattle.std.proofs.Common.{◌≡◌, ◌<◌, ◌≤◌, ◌^◌, length, drop}
use Rattle.html_input.specs.TableFile.{value_after, value_of}
use Rattle.html_input.proofs.lines.value_of.Given as goal

abbrev pub invariant-loop-digit : goal.invariant-loop-digit
invariant-loop-digit l = record {
  short : length l.digits ≤ 6;
  small : l.value < 16 ^ l.digit-index;
  same : value_of l.fn.digits ≡ value_after l.value (drop l.digit-index l.digits);
}
