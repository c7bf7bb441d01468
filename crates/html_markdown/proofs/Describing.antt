-- Descriptions, and what is read of them.
use Rattle.std.proofs.Common.{◌≡◌, ◌∙◌, ◌==◌, ℕ, Bool, true, false, cond, List, [], ◌∷◌, ◌++◌, ◌⊎◌, refl, ap, sym, subst, inl, inr}
use Rattle.std.proofs.Common.{append-nil, append_assoc, eqb-true}
use Rattle.std.specs.Prelude.{◌||◌}
use Rattle.std.proofs.lemmas.Bool.{cases_Bool}
use Rattle.std.specs.Char.{is_ascii_punctuation}
use Rattle.html_markdown.specs.Description.{described, description, has_markup, is_markup, is_white, read, spaced}
use Rattle.html_markdown.specs.Laws.{IsReadBack}

pub description-more : (cs : List ℕ) (c : ℕ) → description (cs ++ c ∷ []) ≡ description cs ++ described c
description-more [] c = append-nil (described c)
description-more (d ∷ cs) c =
    ap (λ (l : List ℕ). described d ++ l) (description-more cs c) ∙ sym (append_assoc (described d) (description cs) (described c))

-- markup is punctuation
markup-any : (c d : ℕ) (rest : Bool) → (c == d || rest) ≡ true → (c ≡ d) ⊎ (rest ≡ true)
markup-any c d rest h = elim (cases_Bool (c == d)) [ inl same ↦ inl (eqb-true c d same) | inr other ↦ inr (rw other at h) ]

at : (c d : ℕ) → c ≡ d → is_ascii_punctuation d ≡ true → is_ascii_punctuation c ≡ true
at c d same h = subst (λ (k : ℕ). is_ascii_punctuation k ≡ true) (sym same) h

few-punctuation : (c : ℕ) → (c == 60 || (c == 38 || (c == 126 || c == 124))) ≡ true → is_ascii_punctuation c ≡ true
few-punctuation c h =
    elim (markup-any c 60 _ h) [
      | inl e ↦ at c 60 e refl
      | inr h1 ↦
          elim (markup-any c 38 _ h1) [
            | inl e ↦ at c 38 e refl
            | inr h2 ↦
                elim (markup-any c 126 _ h2) [
                  | inl e ↦ at c 126 e refl
                  | inr h3 ↦ at c 124 (eqb-true c 124 h3) refl
                ]
          ]
    ]

some-punctuation : (c : ℕ) → (c == 95 || (c == 91 || (c == 93 || (c == 60 || (c == 38 || (c == 126 || c == 124)))))) ≡ true
    → is_ascii_punctuation c ≡ true
some-punctuation c h =
    elim (markup-any c 95 _ h) [
      | inl e ↦ at c 95 e refl
      | inr h1 ↦
          elim (markup-any c 91 _ h1) [
            | inl e ↦ at c 91 e refl
            | inr h2 ↦
                elim (markup-any c 93 _ h2) [
                  | inl e ↦ at c 93 e refl
                  | inr h3 ↦ few-punctuation c h3
                ]
          ]
    ]

punctuation : (c : ℕ) → is_markup c ≡ true → is_ascii_punctuation c ≡ true
punctuation c h =
    elim (markup-any c 92 _ h) [
      | inl e ↦ at c 92 e refl
      | inr h1 ↦
          elim (markup-any c 96 _ h1) [
            | inl e ↦ at c 96 e refl
            | inr h2 ↦
                elim (markup-any c 42 _ h2) [
                  | inl e ↦ at c 42 e refl
                  | inr h3 ↦ some-punctuation c h3
                ]
          ]
    ]

-- what is no markup is no backslash
no-backslash : (c : ℕ) → is_markup c ≡ false → (c == 92) ≡ false
no-backslash c h = elim (cases_Bool (c == 92)) [ inl same ↦ absurd (let bad = rw same at h in cc) | inr other ↦ other ]

read-described : (c : ℕ) (rest : List ℕ) → read false (described c ++ rest) ≡ cond (is_white c) 32 c ∷ read false rest
unfolding described
read-described c rest =
    elim (cases_Bool (is_white c)) [
      | inl white ↦ rw white refl
      | inr text ↦
          elim (cases_Bool (is_markup c)) [
            | inl markup ↦ rw (text, markup, punctuation c markup) refl
            | inr plain ↦ rw (text, plain, no-backslash c plain) refl
          ]
    ]

bare-described : (c : ℕ) (rest : List ℕ) → has_markup false (described c ++ rest) ≡ has_markup false rest
unfolding described
bare-described c rest =
    elim (cases_Bool (is_white c)) [
      | inl white ↦ rw white refl
      | inr text ↦
          elim (cases_Bool (is_markup c)) [
            | inl markup ↦ rw (text, markup) refl
            | inr plain ↦ rw (text, plain, plain, no-backslash c plain) refl
          ]
    ]

pub read-back : (text : List ℕ) → IsReadBack text
read-back text = record { same = same text; bare = bare text }
  where
    same : (cs : List ℕ) → read false (description cs) ≡ spaced cs
    same [] = refl
    same (c ∷ cs) = read-described c (description cs) ∙ ap (λ (l : List ℕ). cond (is_white c) 32 c ∷ l) (same cs)

    bare : (cs : List ℕ) → has_markup false (description cs) ≡ false
    bare [] = refl
    bare (c ∷ cs) = bare-described c (description cs) ∙ bare cs
