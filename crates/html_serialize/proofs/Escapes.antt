-- Escaped texts.
use Rattle.std.proofs.Common.{◌≡◌, ◌∙◌, ℕ, Bool, true, cond, List, [], ◌∷◌, ◌++◌, nat_eq, get_or, drop, refl, sym, ap, ap₂, inl, inr}
use Rattle.std.specs.Prelude.{◌&&◌}
use Rattle.std.specs.List.{list_all}
use Rattle.std.proofs.lemmas.Bool.{cases_eq, ne_eqb}
use Rattle.std.proofs.lemmas.List.Folds.{list_all-append}
use Rattle.markup.specs.Escape.{Mode, escape_in, escaped_in}
use Rattle.markup.specs.Escape.Mode.{InText, InValue}
use Rattle.html_serialize.specs.Laws.{is_harmless}
use Rattle.html_serialize.proofs.EscapedBytes.{IsUnescaped, escaped-plain}

-- a fact of each escaped character and one of all others is a fact of each character
pub by_kind : (P : ℕ → Type 0) → P 0x26 → P 0x3C → P 0x3E → P 0x22 → P 0xA0 → ((c : ℕ) → IsUnescaped c → P c) → (c : ℕ) → P c
by_kind P amp lt gt quote space plain c =
    elim (cases_eq c 0x26) [
      | inl same ↦ rw same amp
      | inr no_amp ↦ elim (cases_eq c 0x3C) [
        | inl same ↦ rw same lt
        | inr no_lt ↦ elim (cases_eq c 0x3E) [
          | inl same ↦ rw same gt
          | inr no_gt ↦ elim (cases_eq c 0x22) [
            | inl same ↦ rw same quote
            | inr no_quote ↦ elim (cases_eq c 0xA0) [
              | inl same ↦ rw same space
              | inr no_space ↦ plain c (record { amp = no_amp; lt = no_lt; gt = no_gt; quote = no_quote; space = no_space })
            ]
          ]
        ]
      ]
    ]

-- one character

harmless : (mode : Mode) (c : ℕ) → list_all (is_harmless mode) (escaped_in mode c) ≡ true
harmless InText c = by_kind (λ c. list_all (is_harmless InText) (escaped_in InText c) ≡ true) refl refl refl refl
    refl (λ c is. rw (escaped-plain InText c is) (rw (ne_eqb c 0x3C is.lt, ne_eqb c 0x3E is.gt) refl)) c
harmless InValue c = by_kind (λ c. list_all (is_harmless InValue) (escaped_in InValue c) ≡ true) refl refl refl refl
    refl (λ c is. rw (escaped-plain InValue c is) (rw (ne_eqb c 0x3C is.lt, ne_eqb c 0x3E is.gt, ne_eqb c 0x22 is.quote) refl)) c

pub escape_in-harmless : (mode : Mode) (text : List ℕ) → list_all (is_harmless mode) (escape_in mode text) ≡ true
escape_in-harmless mode [] = refl
escape_in-harmless mode (c ∷ cs) = list_all-append (is_harmless mode) (escaped_in mode c) (escape_in mode cs)
    ∙ ap₂ (λ (a b : Bool). a && b) (harmless mode c) (escape_in-harmless mode cs)

-- the character that a text begins with, before it was escaped, by the first letter of its reference
char_by : ℕ → ℕ
char_by letter = cond (nat_eq letter 97) 0x26
    (cond (nat_eq letter 108) 0x3C (cond (nat_eq letter 103) 0x3E (cond (nat_eq letter 113) 0x22 0xA0)))

length_by : ℕ → ℕ
length_by letter = cond (nat_eq letter 97) 5 (cond (nat_eq letter 108) 4 (cond (nat_eq letter 103) 4 6))

first_char : List ℕ → ℕ
first_char text = cond (nat_eq (get_or text 0 0) 0x26) (char_by (get_or text 1 0)) (get_or text 0 0)

after_first : List ℕ → List ℕ
after_first text = cond (nat_eq (get_or text 0 0) 0x26) (drop (length_by (get_or text 1 0)) text) (drop 1 text)

record IsCut (mode : Mode) (c : ℕ) (rest : List ℕ) : Type 0 where
  char : first_char (escaped_in mode c ++ rest) ≡ c
  behind : after_first (escaped_in mode c ++ rest) ≡ rest

plain_cut : (mode : Mode) (rest : List ℕ) (c : ℕ) → IsUnescaped c → IsCut mode c rest
unfolding first_char after_first char_by length_by
plain_cut mode rest c is = record {
  char = rw (escaped-plain mode c is) (rw (ne_eqb c 0x26 is.amp) refl);
  behind = rw (escaped-plain mode c is) (rw (ne_eqb c 0x26 is.amp) refl);
}

cut : (mode : Mode) (rest : List ℕ) (c : ℕ) → IsCut mode c rest
unfolding first_char after_first char_by length_by
cut InText rest c =
    by_kind (λ c. IsCut InText c rest) (record { char = refl; behind = refl })
    (record { char = refl; behind = refl }) (record { char = refl; behind = refl })
    (record { char = refl; behind = refl }) (record { char = refl; behind = refl }) (plain_cut InText rest) c
cut InValue rest c =
    by_kind (λ c. IsCut InValue c rest) (record { char = refl; behind = refl })
    (record { char = refl; behind = refl }) (record { char = refl; behind = refl })
    (record { char = refl; behind = refl }) (record { char = refl; behind = refl }) (plain_cut InValue rest) c

some : (mode : Mode) (rest : List ℕ) (c : ℕ) → escaped_in mode c ++ rest ≡ [] → ⊥
some InText rest c = by_kind (λ c. escaped_in InText c ++ rest ≡ [] → ⊥) (λ e. cc) (λ e. cc) (λ e. cc) (λ e. cc)
    (λ e. cc) (λ c is e. let f : c ∷ rest ≡ [] = rw (escaped-plain InText c is) at e in cc) c
some InValue rest c = by_kind (λ c. escaped_in InValue c ++ rest ≡ [] → ⊥) (λ e. cc) (λ e. cc) (λ e. cc) (λ e. cc)
    (λ e. cc) (λ c is e. let f : c ∷ rest ≡ [] = rw (escaped-plain InValue c is) at e in cc) c

pub escape_in-apart : (mode : Mode) (one other : List ℕ) → escape_in mode one ≡ escape_in mode other → one ≡ other
escape_in-apart mode [] [] e = refl
escape_in-apart mode [] (d ∷ ds) e = absurd (some mode (escape_in mode ds) d (sym e))
escape_in-apart mode (c ∷ cs) [] e = absurd (some mode (escape_in mode cs) c e)
escape_in-apart mode (c ∷ cs) (d ∷ ds) e =
    let one = cut mode (escape_in mode cs) c in
    let other = cut mode (escape_in mode ds) d in
    ap₂ (λ (x : ℕ) (xs : List ℕ). x ∷ xs) (sym one.char ∙ ap first_char e ∙ other.char)
    (escape_in-apart mode cs ds (sym one.behind ∙ ap after_first e ∙ other.behind))
