-- A text has another one somewhere just where a search finds it.
use Rattle.std.proofs.Common.{◌≡◌, ◌∙◌, ◌+◌, ◌<◌, ℕ, zero, suc, true, false, List, [], ◌∷◌, length, take, drop, Option, Some, None}
use Rattle.std.proofs.Common.{inl, inr, refl, ap, arith, sym}
use Rattle.std.specs.Prelude.{◌||◌, ◌&&◌, ◌==◌, is_some, map, nat_le, not}
use Rattle.std.specs.Char.{to_ascii_lowercase}
use Rattle.std.specs.Str.{bytes_eq}
use Rattle.std.proofs.lemmas.Bool.{and_from, and_parts, eq-eqb, eqb-true, false_from_ne_true, leb-true, le-leb, or_cases, or_left, or_right}
use Rattle.std.proofs.lemmas.List.{length-map, take-map}
use Rattle.memchr.specs.Find.{FindsNeedle, occurs_at}
use Rattle.memchr.proofs.lemmas.MatchLemmas.{OccursAt-true, occurs_at-true}
use Rattle.selectors.specs.Compare.{begins, has, holds}
use Rattle.selectors.specs.declared.selector.Operator.TheVariants.{Substring}

further : (b : ℕ) (text wanted : List ℕ) (k : ℕ) → occurs_at (b ∷ text) wanted (suc k) ≡ true → occurs_at text wanted k ≡ true
further b text wanted k h =
    let parts = and_parts (nat_le (suc k + length wanted) (suc (length text))) (bytes_eq (take (length wanted) (drop k text)) wanted) h in
    let fits = leb-true (suc k + length wanted) (suc (length text)) parts.0 in
    and_from _ _ (le-leb (k + length wanted) (length text) (omega (arith, fits))) parts.1

nearer : (b : ℕ) (text wanted : List ℕ) (k : ℕ) → occurs_at text wanted k ≡ true → occurs_at (b ∷ text) wanted (suc k) ≡ true
nearer b text wanted k h =
    let parts = and_parts (nat_le (k + length wanted) (length text)) (bytes_eq (take (length wanted) (drop k text)) wanted) h in
    let fits = leb-true (k + length wanted) (length text) parts.0 in
    and_from _ _ (le-leb (suc k + length wanted) (suc (length text)) (omega (arith, fits))) parts.1

here : (text wanted : List ℕ) → occurs_at text wanted 0
    ≡ (nat_le (length wanted) (length text) && bytes_eq (take (length wanted) text) wanted)
here text wanted =
    ap (λ n. nat_le n (length text) && bytes_eq (take (length wanted) text) wanted)
    (let e : 0 + length wanted ≡ length wanted = omega arith in e)

has-true : (text wanted : List ℕ) (k : ℕ) → occurs_at text wanted k ≡ true → has false text wanted ≡ true
has-true [] wanted k h =
    let parts = and_parts (nat_le (k + length wanted) 0) (bytes_eq (take (length wanted) (drop k [])) wanted) h in
    let fits = leb-true (k + length wanted) 0 parts.0 in
    eq-eqb (length wanted) 0 (omega (arith, fits))
has-true (b ∷ text) wanted zero h = or_left _ (has false text wanted) (sym (here (b ∷ text) wanted) ∙ h)
has-true (b ∷ text) wanted (suc k) h = or_right _ (has false text wanted) (has-true text wanted k (further b text wanted k h))

record Occurs (text wanted : List ℕ) : Type 0 where
  place : ℕ
  low : place < length text + 1
  is : occurs_at text wanted place ≡ true

has-some : (text wanted : List ℕ) → has false text wanted ≡ true → Occurs text wanted
has-some [] wanted h =
    let none = eqb-true (length wanted) 0 h in
    record { place = 0; low = omega arith; is = by wanted none }
  where
    by : (wanted : List ℕ) → length wanted ≡ 0 → occurs_at [] wanted 0 ≡ true
    by [] e = refl
    by (w ∷ ws) e = absurd (omega (arith, e))
has-some (b ∷ text) wanted h =
    elim (or_cases _ (has false text wanted) h) [
      | inl first ↦ record { place = 0; low = omega arith; is = here (b ∷ text) wanted ∙ first }
      | inr later ↦
          let rest = has-some text wanted later in
          let low = rest.low in
          record { place = suc rest.place; low = omega (arith, low); is = nearer b text wanted rest.place rest.is }
    ]

pub found : (text wanted : List ℕ) (r : Option ℕ) → FindsNeedle text wanted 0 r → is_some r ≡ has false text wanted
found text wanted None h = sym (false_from_ne_true (has false text wanted)
    (λ some. let o = has-some text wanted some in h o.place (omega arith) o.low (OccursAt-true text wanted o.place o.is)))
found text wanted (Some k) h = sym (has-true text wanted k (occurs_at-true text wanted k h.1))

-- WITHOUT THE CASE OF LETTERS

begins-lower : (text wanted : List ℕ) → begins true text wanted ≡ begins false (map to_ascii_lowercase text) (map to_ascii_lowercase wanted)
begins-lower text wanted =
    let n = length-map wanted to_ascii_lowercase in
    let m = length-map text to_ascii_lowercase in
    sym (ap (λ k. nat_le k (length (map to_ascii_lowercase text))
    && bytes_eq (take k (map to_ascii_lowercase text)) (map to_ascii_lowercase wanted)) n
    ∙ (ap (λ k. nat_le (length wanted) k && bytes_eq (take (length wanted) (map to_ascii_lowercase text)) (map to_ascii_lowercase wanted)) m
    ∙ ap (λ (l : List ℕ). nat_le (length wanted) (length text) && bytes_eq l (map to_ascii_lowercase wanted))
    (take-map to_ascii_lowercase (length wanted) text)))

has-lower : (text wanted : List ℕ) → has true text wanted ≡ has false (map to_ascii_lowercase text) (map to_ascii_lowercase wanted)
has-lower [] wanted = ap (λ k. k == 0) (sym (length-map wanted to_ascii_lowercase))
has-lower (b ∷ text) wanted =
    ap (λ x. x || has true text wanted) (begins-lower (b ∷ text) wanted)
    ∙ ap (λ x. begins false (map to_ascii_lowercase (b ∷ text)) (map to_ascii_lowercase wanted) || x) (has-lower text wanted)

-- a wanted text is empty where it is so in lower case
empty-lower : (lowered wanted : List ℕ) → lowered ≡ map to_ascii_lowercase wanted → (length lowered == 0) ≡ (length wanted == 0)
empty-lower lowered wanted e = ap (λ k. k == 0) (ap length e ∙ length-map wanted to_ascii_lowercase)

pub nothing-lower : (text lowered wanted : List ℕ) → lowered ≡ map to_ascii_lowercase wanted → (length lowered == 0) ≡ true
    → false ≡ holds Substring true text wanted
nothing-lower text lowered wanted e none =
    sym (ap (λ x. not x && has true text wanted) (sym (empty-lower lowered wanted e) ∙ none))

pub something-lower : (text buffer lowered wanted : List ℕ) → lowered ≡ map to_ascii_lowercase wanted → buffer ≡ map to_ascii_lowercase text
    → (length lowered == 0) ≡ false → has false buffer lowered ≡ holds Substring true text wanted
something-lower text buffer lowered wanted e f some =
    ap (λ (l : List ℕ). has false l lowered) f ∙ (ap (has false (map to_ascii_lowercase text)) e
    ∙ (sym (has-lower text wanted) ∙ sym (ap (λ x. not x && has true text wanted) (sym (empty-lower lowered wanted e) ∙ some))))
