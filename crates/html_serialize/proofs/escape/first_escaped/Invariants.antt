use Rattle.html_serialize.specs.Bytes.{IsClear, mode_of}
use Rattle.html_serialize.proofs.escape.first_escaped.Given as goal

abbrev pub invariant-loop-at : goal.invariant-loop-at
invariant-loop-at l = IsClear (mode_of l.escaping) l.bytes 0 l.at
