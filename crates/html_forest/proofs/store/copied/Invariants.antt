use Rattle.std.proofs.Common.{◌≡◌, ◌≤◌, length, take}
use Rattle.std.specs.Vec.{vec_capacity}
use Rattle.html_forest.proofs.store.copied.Given as goal

abbrev pub invariant-loop-attribute : goal.invariant-loop-attribute
invariant-loop-attribute l = (l.list.items ≡ take l.attribute-index l.attributes) × (length l.attributes ≤ vec_capacity l.list)
