use Rattle.std.proofs.Common.{◌≡◌, ◌++◌, map}
use Rattle.std.specs.Vec.Iter.{into_iter_items}
use Rattle.html_names.specs.Renaming.{adjust_attribute}
use Rattle.html_names.proofs.renames.adjust_each.Given as goal

abbrev pub invariant-loop-attribute : goal.invariant-loop-attribute
invariant-loop-attribute l =
    goal.iterator-loop-attribute.can_next l.attribute-iterator
    × goal.iterator-loop-attribute.is_finite l.attribute-iterator
    × (l.adjusted.items ++ map (adjust_attribute l.namespace) (into_iter_items l.attribute-iterator) ≡ map
    (adjust_attribute l.namespace) l.fn.attributes)
