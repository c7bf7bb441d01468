use Rattle.std.proofs.Common.{◌∙◌, ap, sym}
use Rattle.std.specs.List.{list_all, list_any}
use Rattle.markup.specs.Equality.{attribute_eq}
use Rattle.markup.proofs.DistinctNames.{same_counts-distinct}
use Rattle.markup.proofs.attributes.Attributes.has_same_counts.Goals as goal

pub returns-then-are_known_distinct-2 : goal.returns-then-are_known_distinct-2
returns-then-are_known_distinct-2 c =
    c.are_all_in.ensures ∙ (ap (list_all (λ a. list_any (attribute_eq a) c.args.other.now)) c.as_slice.ensures
    ∙ sym (same_counts-distinct c.args.self.now c.args.other.now
    (c.are_known_distinct.ensures c.if-are_known_distinct.true)
    (c.are_known_distinct-then-are_known_distinct.ensures c.if-are_known_distinct-2.true)))
