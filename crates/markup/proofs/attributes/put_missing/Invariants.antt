use Rattle.std.proofs.Common.{◌≡◌, ◌+◌, ◌≤◌, length, take, vec_len}
use Rattle.std.specs.Vec.{vec_capacity}
use Rattle.std.specs.Vec.Iter.{into_iter_items}
use Rattle.markup.specs.AttributeIndex.{FitsIndex}
use Rattle.markup.specs.Forest.{with_missing}
use Rattle.markup.proofs.attributes.put_missing.Given as goal

abbrev pub invariant-loop-attribute : goal.invariant-loop-attribute
invariant-loop-attribute l =
    goal.iterator-loop-attribute.can_next l.attribute-iterator
    × goal.iterator-loop-attribute.is_finite l.attribute-iterator
    × (with_missing l.list.items (into_iter_items l.attribute-iterator) ≡ with_missing l.fn.list.items l.fn.others.items)
    × FitsIndex l.index l.list.items
    × (vec_len l.list + length (into_iter_items l.attribute-iterator) ≤ vec_capacity l.list)
    × (take (vec_len l.fn.list) l.list.items ≡ l.fn.list.items)
    × (vec_len l.fn.list ≤ vec_len l.list)
