use Rattle.std.proofs.Common.{◌≡◌, ◌++◌, drop, length}
use Rattle.html_tree_image.specs.Image.{all_attribute_texts, attribute_records}
use Rattle.html_tree_image.proofs.attributes.push_attributes.Given as goal

abbrev pub invariant-loop-attribute : goal.invariant-loop-attribute
invariant-loop-attribute l =
    (l.texts.items ++ all_attribute_texts (drop l.attribute-index l.attributes) ≡ l.fn.texts.items ++ all_attribute_texts l.attributes)
    × (l.records.items ++ attribute_records (length l.texts.items) (drop l.attribute-index l.attributes)
    ≡ l.fn.records.items ++ attribute_records (length l.fn.texts.items) l.attributes)
