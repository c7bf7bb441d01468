-- The first of those of a list that pass a test.
use Rattle.std.proofs.Common.{◌≡◌, ◌∙◌, ℕ, Bool, List, [], ◌∷◌, Option, Some, None, inl, inr, refl, sym}
use Rattle.std.specs.Prelude.{MatchOption, filter}
use Rattle.std.specs.List.{find}
use Rattle.std.proofs.lemmas.Bool.{cases_Bool}

found-first : (p : ℕ → Bool) (ns : List ℕ) (x : ℕ) (rest : List ℕ) → filter p ns ≡ x ∷ rest → find p ns ≡ Some x
found-first p [] x rest h = absurd (cc)
found-first p (n ∷ ns) x rest h =
    elim (cases_Bool (p n)) [
      | inl passes ↦ rw passes (heads (rw passes at h))
      | inr fails ↦ rw fails (found-first p ns x rest (rw fails at h))
    ]
  where
    heads : {a b : ℕ} {xs ys : List ℕ} → a ∷ xs ≡ b ∷ ys → Some a ≡ Some b
    heads h = cc

found-none : (p : ℕ → Bool) (ns : List ℕ) → filter p ns ≡ [] → find p ns ≡ None
found-none p [] h = refl
found-none p (n ∷ ns) h =
    elim (cases_Bool (p n)) [
      | inl passes ↦ absurd (let bad = rw passes at h in cc)
      | inr fails ↦ rw fails (found-none p ns (rw fails at h))
    ]

-- what an iterator of those that pass gives next is what is found
pub found-next : (p : ℕ → Bool) (ns all rest : List ℕ) (o : Option ℕ) → all ≡ filter p ns
    → MatchOption o ((all ≡ []) × (rest ≡ [])) (λ x. all ≡ x ∷ rest) → o ≡ find p ns
found-next p ns all rest None e h = sym (found-none p ns (sym e ∙ h.0))
found-next p ns all rest (Some x) e h = sym (found-first p ns x rest (sym e ∙ h))
