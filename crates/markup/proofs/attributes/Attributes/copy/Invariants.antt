use Rattle.std.proofs.Common.{◌≡◌, ◌≤◌, length, take}
use Rattle.std.specs.Vec.{vec_capacity}
use Rattle.markup.proofs.attributes.Attributes.copy.Given as goal

abbrev pub invariant-loop-attribute : goal.invariant-loop-attribute
invariant-loop-attribute l =
    (l.list.items ≡ take l.attribute-index l.attribute-items)
    × (length l.attribute-items ≤ vec_capacity l.list)
