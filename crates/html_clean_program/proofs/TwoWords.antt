-- Which policy the words ask for.
use Rattle.std.proofs.Common.{◌≡◌, ◌∙◌, ◌≤◌, ◌<◌, ℕ, true, false, List, [], ◌∷◌, Some, None, length, map, ap, arith, sym}
use Rattle.std.specs.Prelude.{String, codes, cond}
use Rattle.std.specs.List.{slice_index_or}
use Rattle.std.specs.Str.{bytes_eq}
use Rattle.std.specs.String.{string_bytes}
use Rattle.std.specs.declared.alloc.Global.{Global}
use Rattle.html_clean_program.specs.Printing.{printed_name}

-- a list of two has its first and its second item
pub of-two : {X : Type 0} (xs : List X) (a b : X) → 2 ≤ length xs → length xs < 3 → a ≡ slice_index_or xs 0 a → b ≡ slice_index_or xs 1 b
    → xs ≡ a ∷ (b ∷ [])
of-two [] a b least below is_a is_b = absurd (omega (arith, least))
of-two (x ∷ []) a b least below is_a is_b = absurd (omega (arith, least))
of-two (x ∷ (y ∷ [])) a b least below is_a is_b = λ i. sym is_a i ∷ (sym is_b i ∷ [])
of-two (x ∷ (y ∷ (z ∷ xs))) a b least below is_a is_b = absurd (omega (arith, below))

-- two words, the first of which is this text
module _ (words : List (String Global)) (option name : String Global) (text : List ℕ) (words_are : words ≡ option ∷ (name ∷ []))
    (text_is : text ≡ string_bytes option) where
  asked : printed_name (map string_bytes words)
      ≡ cond (bytes_eq text (codes "--print-policy")) (Some (string_bytes name)) None
  asked = ap (λ ws. printed_name (map string_bytes ws)) words_are
      ∙ ap (λ t. cond (bytes_eq t (codes "--print-policy")) (Some (string_bytes name)) None) (sym text_is)

  pub is-printed : (given : List ℕ) → given ≡ string_bytes name → bytes_eq text (codes "--print-policy") ≡ true
      → Some given ≡ printed_name (map string_bytes words)
  is-printed given is equal = ap (λ t. Some t) is ∙ sym (asked ∙ ap (λ b. cond b (Some (string_bytes name)) None) equal)

  pub is-none : bytes_eq text (codes "--print-policy") ≡ false → None ≡ printed_name (map string_bytes words)
  is-none other = sym (asked ∙ ap (λ b. cond b (Some (string_bytes name)) None) other)
