-- Lists of children: who is among them after a change.
use Rattle.std.proofs.Common.{ap, ◌≡◌, ◌≢◌, ◌==◌, ℕ, true, false, List, [], ◌∷◌, ◌++◌, Some, sym, ◌∙◌, refl, inl, inr}
use Rattle.std.proofs.lemmas.Bool.{cases_eq, cases_Bool, eq-eqb, ne_eqb}
use Rattle.markup.specs.Forest.{is_among, IsDistinct, last_of, put_before, those_before, without}

pub is_among-push_same : (c : ℕ) (ns : List ℕ) → is_among c (ns ++ c ∷ []) ≡ true
is_among-push_same c [] = rw (eq-eqb c c refl) refl
is_among-push_same c (n ∷ ns) =
    elim (cases_Bool (c == n)) [ inl same ↦ rw same refl | inr other ↦ rw other (is_among-push_same c ns) ]

pub is_among-push_other : (n c : ℕ) (ns : List ℕ) → n ≢ c → is_among n (ns ++ c ∷ []) ≡ is_among n ns
is_among-push_other n c [] h = rw (ne_eqb n c h) refl
is_among-push_other n c (m ∷ ns) h =
    elim (cases_Bool (n == m)) [ inl same ↦ rw same refl | inr other ↦ rw other (is_among-push_other n c ns h) ]

pub is_among-without_same : (n : ℕ) (ms : List ℕ) → is_among n (without n ms) ≡ false
is_among-without_same n [] = refl
is_among-without_same n (m ∷ ms) =
    elim (cases_eq m n) [
      | inl same ↦ rw (eq-eqb m n same) (is_among-without_same n ms)
      | inr other ↦ let apart : n ≢ m = λ e. other (sym e) in rw (ne_eqb m n other, ne_eqb n m apart) (is_among-without_same n ms)
    ]

pub is_among-without_other : (k n : ℕ) (ms : List ℕ) → k ≢ n → is_among k (without n ms) ≡ is_among k ms
is_among-without_other k n [] h = refl
is_among-without_other k n (m ∷ ms) h =
    elim (cases_eq m n) [
      | inl same ↦ let apart : k ≢ m = λ e. h (e ∙ same) in rw (eq-eqb m n same, ne_eqb k m apart) (is_among-without_other k n ms h)
      | inr other ↦ rw (ne_eqb m n other)
          (elim (cases_Bool (k == m)) [ inl e ↦ rw e refl | inr e ↦ rw e (is_among-without_other k n ms h) ])
    ]

pub IsDistinct-push : (c : ℕ) (ns : List ℕ) → IsDistinct ns → is_among c ns ≡ false → IsDistinct (ns ++ c ∷ [])
IsDistinct-push c [] d h = (refl, tt)
IsDistinct-push c (n ∷ ns) d h =
    elim (cases_eq c n) [
      | inl same ↦ absurd (let yes' : is_among c (n ∷ ns) ≡ true = rw (eq-eqb c n same) refl in cc)
      | inr other ↦
          let later : is_among c ns ≡ false = rw (ne_eqb c n other) at h in
          let apart : n ≢ c = λ e. other (sym e) in
          (is_among-push_other n c ns apart ∙ d.0, IsDistinct-push c ns d.1 later)
    ]

pub is_among-without_less : (k n : ℕ) (ms : List ℕ) → is_among k ms ≡ false → is_among k (without n ms) ≡ false
is_among-without_less k n ms h =
    elim (cases_eq k n) [ inl same ↦ rw same (is_among-without_same n ms) | inr other ↦ is_among-without_other k n ms other ∙ h ]

pub IsDistinct-without : (n : ℕ) (ms : List ℕ) → IsDistinct ms → IsDistinct (without n ms)
IsDistinct-without n [] d = tt
IsDistinct-without n (m ∷ ms) d =
    elim (cases_eq m n) [
      | inl same ↦ rw (eq-eqb m n same) (IsDistinct-without n ms d.1)
      | inr other ↦ rw (ne_eqb m n other) (is_among-without_less m n ms d.0, IsDistinct-without n ms d.1)
    ]

-- before a sibling
pub is_among-before_same : (c n : ℕ) (ns : List ℕ) → is_among n ns ≡ true → is_among c (put_before c n ns) ≡ true
is_among-before_same c n [] h = absurd (cc)
is_among-before_same c n (m ∷ ns) h =
    elim (cases_eq m n) [
      | inl same ↦ rw (eq-eqb m n same, eq-eqb c c refl) refl
      | inr other ↦
          let apart : n ≢ m = λ e. other (sym e) in
          let later : is_among n ns ≡ true = rw (ne_eqb n m apart) at h in
          rw (ne_eqb m n other) (elim (cases_Bool (c == m)) [ inl e ↦ rw e refl | inr e ↦ rw e (is_among-before_same c n ns later) ])
    ]

pub is_among-before_other : (k c n : ℕ) (ns : List ℕ) → k ≢ c → is_among k (put_before c n ns) ≡ is_among k ns
is_among-before_other k c n [] h = refl
is_among-before_other k c n (m ∷ ns) h =
    elim (cases_Bool (m == n)) [
      | inl same ↦ rw (same, ne_eqb k c h) refl
      | inr other ↦ rw other (elim (cases_Bool (k == m)) [ inl e ↦ rw e refl | inr e ↦ rw e (is_among-before_other k c n ns h) ])
    ]

pub IsDistinct-before : (c n : ℕ) (ns : List ℕ) → IsDistinct ns → is_among c ns ≡ false → IsDistinct (put_before c n ns)
IsDistinct-before c n [] d h = tt
IsDistinct-before c n (m ∷ ns) d h =
    elim (cases_eq c m) [
      | inl same ↦ absurd (let found : is_among c (m ∷ ns) ≡ true = rw (eq-eqb c m same) refl in cc)
      | inr other ↦
          let later : is_among c ns ≡ false = rw (ne_eqb c m other) at h in
          let apart : m ≢ c = λ e. other (sym e) in
          elim (cases_Bool (m == n)) [
            | inl same ↦ rw same (h, d)
            | inr different ↦ rw different (is_among-before_other m c n ns apart ∙ d.0, IsDistinct-before c n ns d.1 later)
          ]
    ]

pub IsDistinct-append : (ns ms : List ℕ) → IsDistinct ns → IsDistinct ms
    → ((n : ℕ) → is_among n ns ≡ true → is_among n ms ≡ false) → IsDistinct (ns ++ ms)
IsDistinct-append [] ms d e h = e
IsDistinct-append (n ∷ ns) ms d e h = (
  neither n ns ms d.0 (h n (rw (eq-eqb n n refl) refl)),
  IsDistinct-append ns ms d.1 e
      (λ k found. h k (elim (cases_Bool (k == n)) [ inl same ↦ rw same refl | inr other ↦ rw other found ])),
)
  where
    neither : (n : ℕ) (ns ms : List ℕ) → is_among n ns ≡ false → is_among n ms ≡ false → is_among n (ns ++ ms) ≡ false
    neither n [] ms h k = k
    neither n (m ∷ ns) ms h k =
        elim (cases_Bool (n == m)) [
          | inl same ↦ absurd (let found : is_among n (m ∷ ns) ≡ true = rw same refl in cc)
          | inr other ↦ let later : is_among n ns ≡ false = rw other at h in rw other (neither n ns ms later k)
        ]

pub is_among-append_left : (n : ℕ) (ns ms : List ℕ) → is_among n ms ≡ false → is_among n (ns ++ ms) ≡ is_among n ns
is_among-append_left n [] ms h = h
is_among-append_left n (m ∷ ns) ms h = elim (cases_Bool (n == m))
    [ inl same ↦ rw same refl | inr other ↦ rw other (is_among-append_left n ns ms h) ]

pub is_among-append_right : (n : ℕ) (ns ms : List ℕ) → is_among n ms ≡ true → is_among n (ns ++ ms) ≡ true
is_among-append_right n [] ms h = h
is_among-append_right n (m ∷ ns) ms h = elim (cases_Bool (n == m))
    [ inl same ↦ rw same refl | inr other ↦ rw other (is_among-append_right n ns ms h) ]

pub is_among-last : (n : ℕ) (ns : List ℕ) → last_of ns ≡ Some n → is_among n ns ≡ true
is_among-last n [] e = absurd (cc)
is_among-last n (m ∷ []) e = let same : n ≡ m = cc in rw (eq-eqb n m same) refl
is_among-last n (m ∷ k ∷ ns) e =
    elim (cases_Bool (n == m)) [ inl same ↦ rw same refl | inr other ↦ rw other (is_among-last n (k ∷ ns) e) ]

pub is_among-those_before : (k n : ℕ) (ms : List ℕ) → is_among k (those_before n ms) ≡ true → is_among k ms ≡ true
is_among-those_before k n [] h = h
is_among-those_before k n (m ∷ ms) h =
    elim (cases_Bool (m == n)) [
      | inl same ↦ absurd (let none : is_among k (those_before n (m ∷ ms)) ≡ false = rw same refl in cc)
      | inr differs ↦
          elim (cases_Bool (k == m)) [
            | inl same ↦ rw same refl
            | inr other ↦ let later : is_among k (those_before n ms) ≡ true = rw (differs, other) at h in
                rw other (is_among-those_before k n ms later)
          ]
    ]

pub without-absent : (n : ℕ) (ms : List ℕ) → is_among n ms ≡ false → without n ms ≡ ms
without-absent n [] h = refl
without-absent n (m ∷ ms) h =
    elim (cases_eq n m) [
      | inl same ↦ absurd (let found : is_among n (m ∷ ms) ≡ true = rw (eq-eqb n m same) refl in cc)
      | inr other ↦
          let later : is_among n ms ≡ false = rw (ne_eqb n m other) at h in
          let apart : m ≢ n = λ e. other (sym e) in
          rw (ne_eqb m n apart) (ap (λ ns. m ∷ ns) (without-absent n ms later))
    ]
