-- What is among lists, and what passes tests.
use Rattle.std.proofs.Common.{◌≡◌, ◌∙◌, ◌⊎◌, ◌+◌, ◌<◌, ◌≤◌, ℕ, zero, suc, Bool, true, false, List, [], ◌∷◌, ◌++◌}
use Rattle.std.proofs.Common.{inl, inr, refl, ap, arith, subst, sym}
use Rattle.std.specs.Prelude.{◌||◌, cond, filter}
use Rattle.std.specs.List.{find, list_any, range_with_len}
use Rattle.std.proofs.lemmas.Bool.{cases_Bool, cases_eq, eq-eqb, ne_eqb}
use Rattle.std.proofs.lemmas.List.Folds.{list_any-append}
use Rattle.markup.specs.Forest.{is_among}
use Rattle.markup.proofs.Children.{is_among-append_right}
use Rattle.markup.proofs.WholeTrees.{among-first, among-later}
use Rattle.html_nodes.specs.Below.{each_with_below}
use Rattle.html_nodes.proofs.Walking.{among-parts}

pub among-left : (n : ℕ) (xs ys : List ℕ) → is_among n xs ≡ true → is_among n (xs ++ ys) ≡ true
among-left n [] ys h = absurd (cc)
among-left n (x ∷ xs) ys h =
    elim (cases_eq n x) [
      | inl same ↦ rw (eq-eqb n x same) refl
      | inr other ↦ rw (ne_eqb n x other) (among-left n xs ys (rw (ne_eqb n x other) at h))
    ]

-- the numbers of a range
pub among-range : (n a count : ℕ) → a ≤ n → n < a + count → is_among n (range_with_len a count) ≡ true
among-range n a zero low high = absurd (omega (arith, low, high))
among-range n a (suc more) low high =
    elim (cases_eq n a) [
      | inl same ↦ rw (eq-eqb n a same) refl
      | inr other ↦ rw (ne_eqb n a other) (among-range n (a + 1) more (omega (arith, low, other)) (omega (arith, high)))
    ]

pub range-among : (n a count : ℕ) → is_among n (range_with_len a count) ≡ true → n < a + count
range-among n a zero h = absurd (cc)
range-among n a (suc more) h =
    elim (cases_eq n a) [
      | inl same ↦ omega (arith, same)
      | inr other ↦ let less = range-among n (a + 1) more (rw (ne_eqb n a other) at h) in omega (arith, less)
    ]

-- those of a list that pass a test
pub among-filter : (p : ℕ → Bool) (n : ℕ) (ns : List ℕ) → is_among n ns ≡ true → p n ≡ true → is_among n (filter p ns) ≡ true
among-filter p n [] h is = absurd (cc)
among-filter p n (m ∷ ms) h is =
    elim (cases_eq n m) [
      | inl same ↦ rw (sym same, is) (among-first n (filter p ms))
      | inr other ↦ let later = among-filter p n ms (rw (ne_eqb n m other) at h) is in
          elim (cases_Bool (p m)) [
            | inl passes ↦ rw passes (among-later n m (filter p ms) later)
            | inr fails ↦ rw fails later
          ]
    ]

pub filter-among : (p : ℕ → Bool) (n : ℕ) (ns : List ℕ) → is_among n (filter p ns) ≡ true → (is_among n ns ≡ true) × (p n ≡ true)
filter-among p n [] h = absurd (cc)
filter-among p n (m ∷ ms) h =
    elim (cases_Bool (p m)) [
      | inl passes ↦
          elim (cases_eq n m) [
            | inl same ↦ (rw (eq-eqb n m same) refl, rw same passes)
            | inr other ↦
                let rest = filter-among p n ms (rw (ne_eqb n m other) at (rw passes at h)) in
                (among-later n m ms rest.0, rest.1)
          ]
      | inr fails ↦ let rest = filter-among p n ms (rw fails at h) in (among-later n m ms rest.0, rest.1)
    ]

-- one of a list, or what comes with it
pub each-among : (g : ℕ → List ℕ) (ns : List ℕ) (r n : ℕ) → is_among r ns ≡ true → (n ≡ r) ⊎ (is_among n (g r) ≡ true)
    → is_among n (each_with_below g ns) ≡ true
each-among g [] r n h is = absurd (cc)
each-among g (m ∷ ms) r n h is =
    elim (cases_eq r m) [
      | inl same ↦ elim is [
        | inl one ↦ subst (λ k. is_among k (each_with_below g (m ∷ ms)) ≡ true) (sym (one ∙ same))
            (among-first m (g m ++ each_with_below g ms))
        | inr with ↦ among-left n (m ∷ g m) (each_with_below g ms) (among-later n m (g m) (rw (sym same) with))
      ]
      | inr other ↦ is_among-append_right n (m ∷ g m) (each_with_below g ms) (each-among g ms r n (rw (ne_eqb r m other) at h) is)
    ]

-- what holds of each of a list and of what comes with it
pub each-all : (P : ℕ → Type 0) (g : ℕ → List ℕ) (ns : List ℕ) → ((r : ℕ) → is_among r ns ≡ true → P r)
    → ((r n : ℕ) → is_among r ns ≡ true → is_among n (g r) ≡ true → P n) → (n : ℕ) → is_among n (each_with_below g ns) ≡ true → P n
each-all P g [] one with n h = absurd (cc)
each-all P g (m ∷ ms) one with n h =
    elim (among-parts n (m ∷ g m) (each_with_below g ms) h) [
      | inl first ↦
          elim (cases_eq n m) [
            | inl same ↦ one n (rw (eq-eqb n m same) refl)
            | inr other ↦ with m n (among-first m ms) (rw (ne_eqb n m other) at first)
          ]
      | inr later ↦ each-all P g ms (λ r a. one r (among-later r m ms a)) (λ r k a b. with r k (among-later r m ms a) b) n later
    ]

-- TESTS

-- tests that agree on a list
pub any-alike : (p q : ℕ → Bool) (ns : List ℕ) → ((n : ℕ) → is_among n ns ≡ true → p n ≡ q n) → list_any p ns ≡ list_any q ns
any-alike p q [] same = refl
any-alike p q (n ∷ ns) same =
    rw (same n (among-first n ns), any-alike p q ns (λ m h. same m (among-later m n ns h))) refl

pub any-same : (p q : ℕ → Bool) → ((n : ℕ) → p n ≡ q n) → (ns : List ℕ) → list_any p ns ≡ list_any q ns
any-same p q same ns = any-alike p q ns (λ n h. same n)

pub filter-same : (p q : ℕ → Bool) → ((n : ℕ) → p n ≡ q n) → (ns : List ℕ) → filter p ns ≡ filter q ns
filter-same p q same [] = refl
filter-same p q same (n ∷ ns) = rw (same n, filter-same p q same ns) refl

-- a test that is met only where another one is
pub filter-filter : (p q : ℕ → Bool) → ((n : ℕ) → p n ≡ true → q n ≡ true) → (ns : List ℕ) → filter p (filter q ns) ≡ filter p ns
filter-filter p q stricter [] = refl
filter-filter p q stricter (n ∷ ns) =
    elim (cases_Bool (q n)) [
      | inl found ↦ rw found (ap (λ (l : List ℕ). cond (p n) (n ∷ l) l) (filter-filter p q stricter ns))
      | inr out ↦
          let fails : p n ≡ false = elim (cases_Bool (p n)) [
            | inl passes ↦ absurd (let found = stricter n passes in cc)
            | inr fails ↦ fails
          ] in
          rw (out, fails) (filter-filter p q stricter ns)
    ]

pub find-same : (p q : ℕ → Bool) → ((n : ℕ) → p n ≡ q n) → (ns : List ℕ) → find p ns ≡ find q ns
find-same p q same [] = refl
find-same p q same (n ∷ ns) = rw (same n, find-same p q same ns) refl

or-regroup : (a b c : Bool) → ((a || b) || c) ≡ (a || (b || c))
or-regroup true b c = refl
or-regroup false b c = refl

-- one of a list passes a test, or what comes with it does
pub any-each : (t : ℕ → Bool) (g : ℕ → List ℕ) (ns : List ℕ)
    → list_any t (each_with_below g ns) ≡ list_any (λ n. t n || list_any t (g n)) ns
any-each t g [] = refl
any-each t g (n ∷ ns) =
    list_any-append t (n ∷ g n) (each_with_below g ns)
    ∙ ap (λ b. (t n || list_any t (g n)) || b) (any-each t g ns)
