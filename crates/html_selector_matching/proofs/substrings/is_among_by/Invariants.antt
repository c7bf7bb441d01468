use Rattle.std.proofs.Common.{◌≡◌, drop}
use Rattle.std.specs.List.{list_any}
use Rattle.html_selector_matching.specs.Simples.{is_attribute}
use Rattle.html_selector_matching.proofs.substrings.is_among_by.Given as goal

abbrev pub invariant-loop-attribute : goal.invariant-loop-attribute
invariant-loop-attribute l = list_any (is_attribute l.html l.test) l.attributes
    ≡ list_any (is_attribute l.html l.test) (drop l.attribute-index l.attributes)
