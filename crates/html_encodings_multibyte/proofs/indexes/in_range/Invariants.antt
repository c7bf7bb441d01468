use Rattle.std.proofs.Common.{◌≡◌, drop}
use Rattle.html_encodings_multibyte.specs.Indexes.{in_range}
use Rattle.html_encodings_multibyte.proofs.indexes.in_range.Given as goal

abbrev pub invariant-loop-first : goal.invariant-loop-first
invariant-loop-first l = in_range l.ranges l.pointer 0 ≡ in_range (drop l.first-index l.ranges) l.pointer l.code
