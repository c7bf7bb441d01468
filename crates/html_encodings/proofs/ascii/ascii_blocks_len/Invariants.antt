use Rattle.std.proofs.Common.{◌≤◌, ◌-◌, length}
use Rattle.html_encodings.specs.Scanning.{AreAscii}
use Rattle.html_encodings.proofs.ascii.ascii_blocks_len.Given as goal

abbrev pub invariant-loop-at : goal.invariant-loop-at
invariant-loop-at l = record {
  within : l.at ≤ length l.bytes;
  ascii : AreAscii l.bytes 0 l.at;
}

abbrev pub decreases-loop-at : goal.decreases-loop-at
decreases-loop-at l = length l.bytes - l.at
