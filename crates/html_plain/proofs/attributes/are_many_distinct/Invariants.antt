use Rattle.std.proofs.Common.{◌≡◌, true, take}
use Rattle.html_plain.specs.Grammar.{are_distinct}
use Rattle.html_plain.proofs.Parts.{HasNames}
use Rattle.html_plain.proofs.attributes.are_many_distinct.Given as goal

abbrev pub invariant-loop-attribute : goal.invariant-loop-attribute
invariant-loop-attribute l = HasNames l.names (take l.attribute-index l.attributes)
    × (are_distinct (take l.attribute-index l.attributes) ≡ true)
