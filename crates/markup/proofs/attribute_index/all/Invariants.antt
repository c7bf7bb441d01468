use Rattle.std.proofs.Common.{take}
use Rattle.markup.specs.AttributeIndex.{IsIndex}
use Rattle.markup.proofs.attribute_index.all.Given as goal

abbrev pub invariant-loop-place : goal.invariant-loop-place
invariant-loop-place l = IsIndex l.index.value (take l.place l.attributes)
