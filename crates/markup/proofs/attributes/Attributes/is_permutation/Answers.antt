use Rattle.std.proofs.Common.{◌∙◌, sym, eqb-true}
use Rattle.std.proofs.lemmas.List.Sorted.{length_permutation}
use Rattle.markup.specs.Equality.{attribute_eq, attributes_by_value}
use Rattle.markup.proofs.Permutations.{permutation_from_counts, counts_from_permutation}
use Rattle.markup.proofs.attributes.Attributes.is_permutation.Goals as goal

pub returns-then-len : goal.returns-then-len
returns-then-len c = (
  λ e. permutation_from_counts attribute_eq attributes_by_value _ _
      (sym c.len.ensures ∙ (c.if-len.true ∙ c.len-2.ensures)) (sym c.has_same_counts.ensures ∙ e),
  λ moved. c.has_same_counts.ensures ∙ counts_from_permutation attribute_eq attributes_by_value _ _ moved,
)

pub returns-else-len : goal.returns-else-len
returns-else-len c = (
  λ e. absurd (c.if-len.false (eqb-true _ _ e)),
  λ moved. absurd (c.if-len.false (c.len.ensures ∙ (sym (length_permutation _ _ moved) ∙ sym c.len-2.ensures))),
)
