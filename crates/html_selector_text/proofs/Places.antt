-- An+B counts just the sums of a multiple of A and B.
use Rattle.std.proofs.Common.{◌≡◌, ◌∙◌, ℕ, zero, suc, ◌+◌, ◌*◌, ◌-◌, ◌/◌, ◌%◌, ◌<◌, ◌≤◌, Bool, true, false, ap, arith, inl, inr}
use Rattle.std.specs.Prelude.{◌⊎◌, ◌==◌}
use Rattle.std.proofs.lemmas.Bool.{ne_eqb, cases_lt}
use native.Mathlib.Nat.{div-add-mod, mod-lt, mod_self, mod-eq_of_lt, mul_comm, mul-add, mul-suc}
use Rattle.html_selector_text.specs.Nth.{places, signed, IsPlace, IsSum}

-- the first number from a negative B up, by whether A divides B
raised : (a b : ℕ) → 0 < a → ((b % a ≡ 0) × ((a - b % a) % a ≡ 0)) ⊎ ((0 < b % a) × ((a - b % a) % a + b % a ≡ a))
raised a b some = elim (cases_lt 0 (b % a)) [
  | inl more ↦
      let less : b % a < a = mod-lt b some in
      let below : a - b % a < a = omega arith in
      let same : (a - b % a) % a ≡ a - b % a = mod-eq_of_lt below in
      inr (more, omega arith)
  | inr none ↦
      let is : b % a ≡ 0 = omega arith in
      let all : a - b % a ≡ a = omega arith in
      inl (is, ap (λ (x : ℕ). x % a) all ∙ mod_self a)
]

-- from a negative B up
up_to : (a b k m : ℕ) → 0 < a → k ≡ (a - b % a) % a + m * a → (n : ℕ) × ((k + 0) + b ≡ a * n + 0)
up_to a b k m some is =
    let parts : a * (b / a) + b % a ≡ b = div-add-mod b a in
    let turned : m * a ≡ a * m = mul_comm m a in
    elim (raised a b some) [
      | inl fits ↦ (m + b / a, omega (arith, mul-add a m (b / a)))
      | inr fits ↦ (suc (m + b / a), omega (arith, mul-suc a (m + b / a), mul-add a m (b / a)))
    ]

up_from : (a b k n : ℕ) → 0 < a → 1 ≤ k → (k + 0) + b ≡ a * n + 0 → (m : ℕ) × (k ≡ (a - b % a) % a + m * a)
up_from a b k n some from is =
    let parts : a * (b / a) + b % a ≡ b = div-add-mod b a in
    elim (raised a b some) [
      | inl fits ↦ elim (cases_lt n (b / a)) [
        | inl less ↦
            let d = b / a - n in
            let q : b / a ≡ n + d = omega arith in
            let product : a * (b / a) ≡ a * n + a * d = ap (λ (x : ℕ). a * x) q ∙ mul-add a n d in
            absurd (omega arith)
        | inr more ↦
            let d = n - b / a in
            let q : n ≡ b / a + d = omega arith in
            let product : a * n ≡ a * (b / a) + a * d = ap (λ (x : ℕ). a * x) q ∙ mul-add a (b / a) d in
            (d, omega (arith, mul_comm d a))
      ]
      | inr fits ↦ elim (cases_lt (b / a) n) [
        | inl less ↦
            let d = n - suc (b / a) in
            let q : n ≡ suc (b / a + d) = omega arith in
            let product : a * n ≡ (a * (b / a) + a * d) + a =
            ap (λ (x : ℕ). a * x) q ∙ (mul-suc a (b / a + d) ∙ ap (λ (x : ℕ). x + a) (mul-add a (b / a) d)) in
            (d, omega (arith, mul_comm d a))
        | inr more ↦
            let d = b / a - n in
            let q : b / a ≡ n + d = omega arith in
            let product : a * (b / a) ≡ a * n + a * d = ap (λ (x : ℕ). a * x) q ∙ mul-add a n d in
            absurd (omega arith)
      ]
    ]

-- by the signs of A and B
pub by_signs : (sa sb : Bool) (a b k : ℕ) → 1 ≤ k
    → (IsPlace (places (signed sa a) (signed sb b)) k → IsSum (signed sa a) (signed sb b) k)
    × (IsSum (signed sa a) (signed sb b) k → IsPlace (places (signed sa a) (signed sb b)) k)
unfolding places
by_signs true true zero b k from = (λ x. absurd (omega (arith, x.1)), λ x. absurd (omega (arith, x.1)))
by_signs false true zero b k from = (λ x. absurd (omega (arith, x.1)), λ x. absurd (omega (arith, x.1)))
by_signs true false zero b k from = (λ x. (0, omega (arith, x.1)), λ x. (0, omega (arith, x.1)))
by_signs false false zero b k from = (λ x. (0, omega (arith, x.1)), λ x. (0, omega (arith, x.1)))
by_signs true true (suc a) b k from =
    let some : (suc a == 0) ≡ false = ne_eqb _ _ (omega arith) in
    rw some (λ x. absurd (omega (arith, x.1)), λ x. absurd (omega (arith, x.1)))
by_signs true false (suc a) b k from =
    let some : (suc a == 0) ≡ false = ne_eqb _ _ (omega arith) in
    rw some (λ x. (x.0, omega (arith, x.1, mul_comm x.0 (suc a))), λ x. (x.0, omega (arith, x.1, mul_comm x.0 (suc a))))
by_signs false false (suc a) b k from =
    let some : (suc a == 0) ≡ false = ne_eqb _ _ (omega arith) in
    rw some (λ x. (x.0, omega (arith, x.1, mul_comm x.0 (suc a))), λ x. (x.0, omega (arith, x.1, mul_comm x.0 (suc a))))
by_signs false true (suc a) b k from =
    let some : (suc a == 0) ≡ false = ne_eqb _ _ (omega arith) in
    rw some (λ x. up_to (suc a) b k x.0 (omega arith) x.1, λ x. up_from (suc a) b k x.0 (omega arith) from x.1)
