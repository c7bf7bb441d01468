use Rattle.std.proofs.Common.{◌-◌, length}
use Rattle.html_serialize.specs.Bytes.{IsClear, mode_of}
use Rattle.html_serialize.proofs.escape.place_ahead.Given as goal

abbrev pub invariant-loop-at : goal.invariant-loop-at
invariant-loop-at l = IsClear (mode_of l.escaping) l.bytes l.from l.at

abbrev pub decreases-loop-at : goal.decreases-loop-at
decreases-loop-at l = length l.bytes - l.at
