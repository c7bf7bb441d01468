-- What `==` of texts and names tests is equality of their characters.
use Rattle.std.specs.Prelude.{◌≡◌, ℕ, Bool, ◌&&◌, List, [], Option, Some, None, nat_eq, is_some, refl}
use Rattle.std.proofs.Common.{ap, ap₂, sym, true≢false}
use Rattle.std.specs.Bool.{Decides, one_answer}
use Rattle.std.specs.Cmp.{IsEquivalence}
use Rattle.std.specs.Option.{option_eq, unwrap_or}
use Rattle.std.specs.Cmp.Lexicographic.{pointwise}
use Rattle.std.proofs.lemmas.Bool.{and_parts}
use Rattle.std.proofs.lemmas.Slice.Eq.{bytes_eq-Decides, slice_eq-Decides}
use Rattle.markup.specs.declared.names.QualName.{QualName}
use Rattle.markup.specs.declared.attributes.Attribute.{Attribute}

-- a test that decides equality is an equivalence
equivalence_by_value : {K : Type 0} (E : K → K → Bool) → ((a b : K) → Decides (E a b) (a ≡ b)) → IsEquivalence E
equivalence_by_value E d = record {
  refl = λ a. (d a a).1 refl;
  symm = λ a b. one_answer (E a b) (E b a) (d a b) (λ h. sym ((d b a).0 h), λ e. (d b a).1 (sym e));
  congr = λ a b c h. ap (λ k. E k c) ((d a b).0 h);
}

pub texts_by_value : (a b : List ℕ) → Decides (pointwise nat_eq a b) (a ≡ b)
texts_by_value = bytes_eq-Decides

-- two tests decide a pair of facts
pub and-Decides : {P Q : Type 0} (r s : Bool) → Decides r P → Decides s Q → Decides (r && s) (P × Q)
and-Decides r s p q =
    (λ e. let h = and_parts r s e in (p.0 h.0, q.0 h.1), λ h. ap₂ (λ x y. x && y) (p.1 h.0) (q.1 h.1))

options_by_value : (a b : Option (List ℕ)) → Decides (option_eq (pointwise nat_eq) a b) (a ≡ b)
options_by_value None None = (λ e. refl, λ e. refl)
options_by_value None (Some y) = (λ e. absurd (true≢false (sym e)), λ e. absurd (true≢false (sym (ap is_some e))))
options_by_value (Some x) None = (λ e. absurd (true≢false (sym e)), λ e. absurd (true≢false (ap is_some e)))
options_by_value (Some x) (Some y) =
    (λ e. ap (λ t. Some t) ((texts_by_value x y).0 e), λ e. (texts_by_value x y).1 (ap (λ o. unwrap_or o []) e))

-- names without prefixes are the same where both parts are
pub parts_by_value : (a b : List ℕ × List ℕ) → Decides (pointwise nat_eq a.0 b.0 && pointwise nat_eq a.1 b.1) (a ≡ b)
parts_by_value a b =
    let d = and-Decides _ _ (texts_by_value a.0 b.0) (texts_by_value a.1 b.1) in
    (λ e. let h = d.0 e in λ i. (h.0 i, h.1 i), λ e. d.1 (ap (λ n. n.0) e, ap (λ n. n.1) e))

pub names_by_value : (a b : QualName) → Decides (option_eq (pointwise nat_eq) a.prefix b.prefix
    && (pointwise nat_eq a.ns b.ns && pointwise nat_eq a.local b.local)) (a ≡ b)
names_by_value a b =
    let d = and-Decides _ _ (options_by_value a.prefix b.prefix)
    (and-Decides _ _ (texts_by_value a.ns b.ns) (texts_by_value a.local b.local)) in (
      λ e. let h = d.0 e in λ i. record { prefix = h.0 i; ns = h.1.0 i; local = h.1.1 i },
      λ e. d.1 (ap (λ n. n.prefix) e, (ap (λ n. n.ns) e, ap (λ n. n.local) e)),
    )

pub attributes_by_value : (a b : Attribute)
    → Decides ((option_eq (pointwise nat_eq) a.name.prefix b.name.prefix
    && (pointwise nat_eq a.name.ns b.name.ns && pointwise nat_eq a.name.local b.name.local))
    && pointwise nat_eq a.value b.value) (a ≡ b)
attributes_by_value a b =
    let d = and-Decides _ _ (names_by_value a.name b.name) (texts_by_value a.value b.value) in (
      λ e. let h = d.0 e in λ i. record { name = h.0 i; value = h.1 i },
      λ e. d.1 (ap (λ t. t.name) e, ap (λ t. t.value) e),
    )

-- `==` of attributes
abbrev pub attribute_eq : Attribute → Attribute → Bool
attribute_eq a b = (option_eq (pointwise nat_eq) a.name.prefix b.name.prefix
    && (pointwise nat_eq a.name.ns b.name.ns && pointwise nat_eq a.name.local b.name.local)) && pointwise nat_eq a.value b.value

-- lists of attributes are the same where each is
pub attribute_lists_by_value : (a b : List Attribute) → Decides (pointwise attribute_eq a b) (a ≡ b)
attribute_lists_by_value a b = slice_eq-Decides attributes_by_value a b _ refl

pub attribute_lists_equivalence : IsEquivalence (pointwise attribute_eq)
attribute_lists_equivalence = equivalence_by_value _ attribute_lists_by_value
