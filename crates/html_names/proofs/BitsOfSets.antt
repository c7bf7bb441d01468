-- One bit is set or cleared, and the others stay as they are.
use Rattle.std.proofs.Common.{◌≡◌, ◌∙◌, ◌*◌, ◌%◌, ◌^◌, ℕ, Bool, true, false, cond, eqb, refl, sym, ap, subst, arith, bit_and, bit_or}
use Rattle.std.specs.Prelude.{◌==◌}
use Rattle.std.specs.Int.{bit_at, bit_not, w128}
use Rattle.std.proofs.lemmas.Bool.{eqb-false, eqb-true}
use Rattle.std.proofs.lemmas.Nat.Bits.{bit_at_clear_other, bit_at_clear_same, bit_at_set_other, bit_at_set_same}
use Rattle.html_rules.specs.declared.tag_set.TagSet.{TagSet}
use Rattle.html_names.specs.SetBits.{has_set, number_of}
use Rattle.html_names.proofs.SmallNumbers.{number_of-small}

-- the bit of a set
abbrev pub bit_of : TagSet → ℕ
bit_of set = 1 * 2 ^ number_of set % 2 ^ 128

pub bit-set : (sets : ℕ) (set s : TagSet) → has_set (bit_or sets (bit_of set)) s ≡ cond (number_of s == number_of set) true (has_set sets s)
bit-set sets set s = by (number_of s == number_of set) refl where
  by : (b : Bool) → (number_of s == number_of set) ≡ b → has_set (bit_or sets (bit_of set)) s ≡ cond b true (has_set sets s)
  by true e = ap (λ n. n == 1) (subst (λ k. bit_at (bit_or sets (bit_of set)) k ≡ 1) (sym (eqb-true (number_of s) (number_of set) e))
      (bit_at_set_same w128 sets (number_of set) (number_of-small set)))
  by false e = ap (λ n. n == 1) (bit_at_set_other w128 sets (number_of set) (number_of-small set) (number_of s)
      (eqb-false (number_of s) (number_of set) e))

pub bit-cleared : (sets : ℕ) (set s : TagSet)
    → has_set (bit_and sets (bit_not w128 (bit_of set))) s ≡ cond (number_of s == number_of set) false (has_set sets s)
bit-cleared sets set s = by (number_of s == number_of set) refl where
  by : (b : Bool) → (number_of s == number_of set) ≡ b
      → has_set (bit_and sets (bit_not w128 (bit_of set))) s ≡ cond b false (has_set sets s)
  by true e = ap (λ n. n == 1) (subst (λ k. bit_at (bit_and sets (bit_not w128 (bit_of set))) k ≡ 0)
      (sym (eqb-true (number_of s) (number_of set) e)) (bit_at_clear_same w128 sets (number_of set) (number_of-small set)))
  by false e = ap (λ n. n == 1) (bit_at_clear_other w128 sets (number_of set) (number_of-small set) (number_of s) (number_of-small s)
      (eqb-false (number_of s) (number_of set) e))
