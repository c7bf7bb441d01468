-- Notes of a policy.
use Rattle.std.proofs.Common.{◌≡◌, ◌∙◌, ℕ, zero, suc, Bool, true, false, List, [], ◌∷◌, ◌++◌, Option, None, replicate, take, refl, ap, subst, sym}
use Rattle.std.specs.Prelude.{cond, slice_index_or, slice_set}
use Rattle.std.proofs.Common.{◌<◌, Some, eqb-true, length, inl, inr, nat_eq, nat_lt, arith, get_or-set_same, get_or-set_other}
use Rattle.std.proofs.lemmas.Bool.{cases_eq}
use Rattle.std.proofs.lemmas.List.{get_or_default}
use Rattle.markup.specs.KnownNames.{IsNameAt}
use Rattle.markup.specs.declared.known_names.KnownName.{KnownName}
use Rattle.html_clean.specs.Notes.{AreNotes, IsElementAt, IsElementNote, IsVerdictNote, IsVerdictOn}
use Rattle.html_clean.specs.declared.notes.Judged.{Judged}
use Rattle.html_clean.specs.declared.notes.NotedVerdict.{NotedVerdict}
use Rattle.html_clean.specs.declared.policy.Policy.{Policy}

same_at : {A : Type 0} (value : A) (count i : ℕ) → slice_index_or (replicate count value) i value ≡ value
same_at value zero i = refl
same_at value (suc count) zero = refl
same_at value (suc count) (suc i) = same_at value count i

take-none : {A : Type 0} (n : ℕ) (xs : List A) → xs ≡ [] → take n xs ≡ []
take-none n [] none = nothing_of n
  where
    nothing_of : {A : Type 0} (n : ℕ) → take {A = A} n [] ≡ []
    nothing_of zero = refl
    nothing_of (suc n) = refl
take-none n (x ∷ xs) none = absurd cc

-- a list that had nothing, filled with nothing or left
filled_at : {A : Type 0} (done : Bool) (n count i : ℕ) (old new : List (Option A)) → old ≡ []
    → new ≡ cond done (take n old ++ replicate count None) old → slice_index_or new i None ≡ None
filled_at {A} true n count i old new none is =
    ap (λ (xs : List (Option A)). slice_index_or xs i None)
    (is ∙ ap (λ (xs : List (Option A)). xs ++ replicate count None) (take-none n old none))
    ∙ same_at None count i
filled_at {A} false n count i old new none is = ap (λ (xs : List (Option A)). slice_index_or xs i None) (is ∙ none)

-- where nothing is noted, all notes are right
pub nothing-noted : (policy : Policy) (a b : Bool) (n m count more : ℕ) (elements elements' : List (Option Judged))
    (verdicts verdicts' : List (Option NotedVerdict)) → elements ≡ [] → verdicts ≡ []
    → elements' ≡ cond a (take n elements ++ replicate count None) elements → verdicts' ≡ cond b (take m verdicts ++ replicate more None) verdicts
    → AreNotes policy elements' verdicts'
nothing-noted policy a b n m count more elements elements' verdicts verdicts' no_elements no_verdicts are_elements are_verdicts = record {
  each_element = λ place. subst (IsElementNote policy place) (sym (filled_at a n count place elements elements' no_elements are_elements)) tt;
  each_verdict = λ slot. subst (IsVerdictNote policy) (sym (filled_at b m more slot verdicts verdicts' no_verdicts are_verdicts)) tt;
}

-- one note more of an element
pub element-noted : (policy : Policy) (elements : List (Option Judged)) (verdicts : List (Option NotedVerdict)) (place : ℕ)
    (judged : Judged) → AreNotes policy elements verdicts → place < length elements → IsElementAt policy place judged
    → AreNotes policy (slice_set elements place (Some judged)) verdicts
element-noted policy elements verdicts place judged are within is = record {
  each_element = λ p.
      elim (cases_eq p place) [
        | inl here ↦
            let same : slice_index_or (slice_set elements place (Some judged)) place None ≡ Some judged =
            get_or-set_same elements place (Some judged) None within in
            subst (λ (q : ℕ). IsElementNote policy q (slice_index_or (slice_set elements place (Some judged)) q None)) (sym here)
            (subst (IsElementNote policy place) (sym same) is)
        | inr other ↦
            let same : slice_index_or (slice_set elements place (Some judged)) p None ≡ slice_index_or elements p None =
            get_or-set_other elements place p (Some judged) None other in
            subst (IsElementNote policy p) (sym same) (are.each_element p)
      ];
  each_verdict = are.each_verdict;
}

below : (i n : ℕ) → true ≡ nat_lt i n → i < n
below i n h = grind arith

-- a verdict that is noted for the places of two names
pub noted-verdict : (policy policy' : Policy) (verdicts items : List (Option NotedVerdict)) (slot : ℕ) (found : Option NotedVerdict)
    (noted : NotedVerdict) (element name : KnownName) → ((slot : ℕ) → IsVerdictNote policy (slice_index_or verdicts slot None))
    → items ≡ verdicts → true ≡ nat_lt slot (length items) → found ≡ slice_index_or items slot found → found ≡ Some noted
    → policy ≡ policy'
    → nat_eq noted.element.place element.place ≡ true → nat_eq noted.name.place name.place ≡ true
    → IsVerdictOn policy' element name noted.verdict
noted-verdict policy policy' verdicts items slot found noted element name are same within at is same_policy one two =
    let here : slice_index_or verdicts slot None ≡ Some noted =
    ap (λ (list : List (Option NotedVerdict)). slice_index_or list slot None) (sym same)
    ∙ (get_or_default items slot None found (below slot (length items) within) ∙ (sym at ∙ is)) in
    let on : IsVerdictOn policy noted.element noted.name noted.verdict = subst (IsVerdictNote policy) here (are slot) in
    subst (λ (p : Policy). IsVerdictOn p element name noted.verdict) same_policy
    (λ e n is_e is_n plain. on e n (subst (λ (place : ℕ). IsNameAt place e) (sym (eqb-true _ _ one)) is_e)
    (subst (λ (place : ℕ). IsNameAt place n.local) (sym (eqb-true _ _ two)) is_n) plain)
