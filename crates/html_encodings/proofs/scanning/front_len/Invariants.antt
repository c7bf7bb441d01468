use Rattle.std.proofs.Common.{◌≡◌, ◌+◌, drop}
use Rattle.std.specs.List.{prefix_len}
use Rattle.html_encodings.specs.Scanning.{has}
use Rattle.html_encodings.proofs.scanning.front_len.Given as goal

abbrev pub invariant-loop-i : goal.invariant-loop-i
invariant-loop-i l = prefix_len (has l.class) l.bytes ≡ l.i + prefix_len (has l.class) (drop l.i l.bytes)
