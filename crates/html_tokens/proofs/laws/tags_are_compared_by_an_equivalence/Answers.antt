use Rattle.std.proofs.Common.{◌∙◌, refl, sym}
use Rattle.std.proofs.lemmas.List.Sorted.{IsPermutation-refl, IsPermutation-sym, IsPermutation-trans}
use Rattle.html_tokens.proofs.laws.tags_are_compared_by_an_equivalence.Goals as goal

pub returns : goal.returns
returns c = record {
  reflexive = λ a. record { kind = refl; name = refl; attrs = IsPermutation-refl a.attrs };
  symmetric = λ a b h. record { kind = sym h.kind; name = sym h.name; attrs = IsPermutation-sym _ _ h.attrs };
  transitive = λ a b c h k. record { kind = h.kind ∙ k.kind; name = h.name ∙ k.name; attrs = IsPermutation-trans _ _ _ h.attrs k.attrs };
}
