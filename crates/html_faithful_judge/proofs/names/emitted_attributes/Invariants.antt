use Rattle.std.proofs.Common.{◌≡◌, map, take, true}
use Rattle.html_faithful.specs.Forms.{are_told, told_attribute}
use Rattle.html_faithful_judge.proofs.names.emitted_attributes.Given as goal

abbrev pub invariant-loop-attribute : goal.invariant-loop-attribute
invariant-loop-attribute l =
    (l.emitted ≡ map told_attribute (take l.attribute-index l.attributes))
    × (are_told (map told_attribute (take l.attribute-index l.attributes)) ≡ true)
