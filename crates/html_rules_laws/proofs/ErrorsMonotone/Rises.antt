-- Errors that are counted on from a number.
use Rattle.std.proofs.Common.{◌≡◌, ◌∙◌, ℕ, zero, suc, ◌+◌, ◌-◌, ◌^◌, ◌≤◌, min, nat_lt, nat_eq, Bool, true, false, refl, sym, ap, arith}
use Rattle.std.specs.Prelude.{◌&&◌, if◌then◌else◌}
use Rattle.std.proofs.lemmas.Bool.Decides.{nat_tests}
use Rattle.markup.specs.Forest.{one_more}
use Rattle.html_tokens.specs.declared.token.Token.{Token}
use Rattle.html_rules.specs.State.{State, hushed}
use Rattle.html_rules.specs.Step.{taken}
use Rattle.html_rules_laws.specs.Errors.{Commutes, louder_settled}
use Rattle.html_rules_laws.proofs.ErrorsMonotone.LouderTurns.{errors-counted}

-- n more than k, told one by one
abbrev pub rises : ℕ → ℕ → ℕ
rises zero k = k
rises (suc n) k = one_more (rises n k)

one_more-least : (x n : ℕ) → min n (2 ^ 64 - 1) ≤ x → min (suc n) (2 ^ 64 - 1) ≤ one_more x
one_more-least x n h = grind (arith, nat_tests)

rises-least : (n k : ℕ) → min n (2 ^ 64 - 1) ≤ rises n k
rises-least zero k = omega arith
rises-least (suc n) k = one_more-least (rises n k) n (rises-least n k)

one_more-full : (x : ℕ) → 2 ^ 64 - 1 ≤ x → one_more x ≡ x
one_more-full x h = grind (arith, nat_tests)

rises-by : (b : Bool) (n k : ℕ) → nat_lt n (2 ^ 64 - 1) ≡ b → rises (if b then n + 1 else n) k ≡ one_more (rises n k)
rises-by true n k e = let f : n + 1 ≡ suc n = omega arith in rw f refl
rises-by false n k e = let h = rises-least n k in let full : 2 ^ 64 - 1 ≤ n = grind (arith, nat_tests) in
    sym (one_more-full (rises n k) (omega arith))

rises-Commutes : (k : ℕ) → Commutes (λ n. rises n k)
rises-Commutes k n = rises-by (nat_lt n (2 ^ 64 - 1)) n k refl

one_more-some : (x : ℕ) → nat_eq (one_more x) 0 ≡ false
one_more-some x = grind (arith, nat_tests)

suc-some : (n : ℕ) → nat_eq (suc n) 0 ≡ false
suc-some n = grind (arith, nat_tests)

and-true : (b : Bool) → b ≡ (b && true)
and-true true = refl
and-true false = refl

and-false : (b : Bool) → false ≡ (b && false)
and-false true = refl
and-false false = refl

-- none is told in all exactly if none was and none is
pub rises-none : (n k : ℕ) → nat_eq (rises n k) 0 ≡ (nat_eq k 0 && nat_eq n 0)
rises-none zero k = and-true (nat_eq k 0)
rises-none (suc n) k = one_more-some (rises n k) ∙ and-false (nat_eq k 0) ∙ ap (λ (b : Bool). nat_eq k 0 && b) (sym (suc-some n))

-- what a token makes of a state, by what it makes of it once the number of errors is put aside
pub taken-hushed : (t : Token) (s : State) → taken t s ≡ louder_settled (λ n. rises n s.forest.errors) (taken t (hushed s))
taken-hushed t s = errors-counted (λ n. rises n s.forest.errors) (rises-Commutes s.forest.errors) t (hushed s)
