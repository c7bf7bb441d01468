-- Runs of characters, and of the bytes that spell them.
use Rattle.std.proofs.Common.{◌≡◌, ◌∙◌, ℕ, zero, suc, ◌+◌, ◌<◌, ◌≤◌, Bool, true, false, List, [], ◌∷◌, ◌++◌, length, take, drop}
use Rattle.std.proofs.Common.{get_or, refl, sym, ap, subst, arith, inl, inr, zero-add, ◌-◌}
use Rattle.std.specs.Prelude.{encode_utf8, encode_utf8_all, nat_lt}
use Rattle.std.specs.Str.{IsCharBoundary, IsUtf8, chars}
use Rattle.std.proofs.Math.Seq.{drop-append_seam, take-append_seam}
use Rattle.std.proofs.Math.Utf8.{scalar, scalars}
use Rattle.std.proofs.lemmas.Bool.{and_parts, cases_lt}
use Rattle.std.proofs.lemmas.Bool.Decides.{nat_tests}
use Rattle.std.proofs.lemmas.List.{append-nil, length-append, length-drop, take-append-drop}
use Rattle.std.proofs.lemmas.Str.{IsCharBoundary-at_seam, chars-encodes, encode_ascii, encodes-append, encodes-chars}
use Rattle.std.proofs.lemmas.Str.{inside_one, len_utf8_bounds, length-encode, IsUtf8-drop, chars-nil, scalars-chars}
use Rattle.html_tokens.specs.Characters.{run, run_by}

-- a test that says the same of all that is not ASCII
pub record IsOfAscii (p : ℕ → Bool) (high : Bool) : Type 0 where
  pub above : (c : ℕ) → 128 ≤ c → p c ≡ high

run-over : (p : ℕ → Bool) (xs rest : List ℕ) → ((k : ℕ) → k < length xs → p (get_or xs k 0) ≡ false)
    → run p (xs ++ rest) ≡ length xs + run p rest
run-over p [] rest h = sym (zero-add (run p rest))
run-over p (x ∷ xs) rest h = rw (h 0 (omega arith), run-over p xs rest (λ k l. h (suc k) (omega arith))) (omega arith)

-- the bytes of a character that is not ASCII are not
high-bytes : (c : ℕ) → 128 ≤ c → (k : ℕ) → k < length (encode_utf8 c) → 128 ≤ get_or (encode_utf8 c) k 0
high-bytes c h k l = elim (cases_lt (get_or (encode_utf8 c) k 0) 128) [
  | inl low ↦ let is : c ≡ get_or (encode_utf8 c) k 0 = inside_one c [] (encode_utf8 c) k
      (sym (append-nil (encode_utf8 c))) l low in absurd (omega (arith, is))
  | inr high ↦ high
]

first-high : (p : ℕ → Bool) (xs rest : List ℕ) → 0 < length xs → p (get_or xs 0 0) ≡ true → run p (xs ++ rest) ≡ 0
first-high p [] rest l h = absurd (omega arith)
first-high p (x ∷ xs) rest l h = rw h refl

-- the run of bytes spells the run of characters
run-encoded : (p : ℕ → Bool) (high : Bool) → IsOfAscii p high → (cs : List ℕ) → run p (encode_utf8_all cs) ≡ length
    (encode_utf8_all (take (run p cs) cs))
run-encoded p high is [] = refl
run-encoded p high is (c ∷ cs) = elim (cases_lt c 128) [
  | inl low ↦ rw (encode_ascii c low) (ascii (p c) refl low (run-encoded p high is cs))
  | inr up ↦ above high (is.above c up) up (run-encoded p high is cs)
]
  where
    ascii : (b : Bool) → p c ≡ b → c < 128 → run p (encode_utf8_all cs) ≡ length
        (encode_utf8_all (take (run p cs) cs)) → run_by b (λ _. run p (encode_utf8_all cs)) ≡ length
        (encode_utf8_all (take (run_by b (λ _. run p cs)) (c ∷ cs)))
    ascii true e low rest = refl
    ascii false e low rest = rw (encode_ascii c low) (ap suc rest)

    above : (b : Bool) → p c ≡ b → 128 ≤ c → run p (encode_utf8_all cs) ≡ length
        (encode_utf8_all (take (run p cs) cs)) → run p (encode_utf8 c ++ encode_utf8_all cs) ≡ length
        (encode_utf8_all (take (run_by (p c) (λ _. run p cs)) (c ∷ cs)))
    above true e up rest =
        let some : 0 < length (encode_utf8 c) = rw (length-encode c) (len_utf8_bounds c).0 in
        rw e (first-high p (encode_utf8 c) (encode_utf8_all cs) some (is.above _ (high-bytes c up 0 some) ∙ sym (is.above c up) ∙ e))
    above false e up rest =
        let over = run-over p (encode_utf8 c) (encode_utf8_all cs) (λ k l. is.above _ (high-bytes c up k l) ∙ sym (is.above c up) ∙ e) in
        rw (e, over, rest) (sym (length-append (encode_utf8 c) (encode_utf8_all (take (run p cs) cs))))

-- a run of bytes ends where the run of characters does
pub record IsRunOf (p : ℕ → Bool) (bs : List ℕ) (n : ℕ) : Type 0 where
  pub within : n ≤ length bs
  pub cut : IsCharBoundary bs n
  pub front : chars (take n bs) ≡ take (run p (chars bs)) (chars bs)
  pub rest : chars (drop n bs) ≡ drop (run p (chars bs)) (chars bs)
  pub inside : nat_lt n (length bs) ≡ nat_lt (run p (chars bs)) (length (chars bs))

scalars-take : (k : ℕ) (cs : List ℕ) → scalars cs ≡ true → scalars (take k cs) ≡ true
scalars-take zero cs h = refl
scalars-take (suc k) [] h = refl
scalars-take (suc k) (c ∷ cs) h = let parts = and_parts (scalar c) (scalars cs) h in rw (parts.0, scalars-take k cs parts.1) refl

scalars-drop : (k : ℕ) (cs : List ℕ) → scalars cs ≡ true → scalars (drop k cs) ≡ true
scalars-drop zero cs h = h
scalars-drop (suc k) [] h = refl
scalars-drop (suc k) (c ∷ cs) h = scalars-drop k cs (and_parts _ _ h).1

-- what is cut after so many characters
pub cut-at : (k n : ℕ) (bs : List ℕ) → IsUtf8 bs → n ≡ length (encode_utf8_all (take k (chars bs)))
    → (n ≤ length bs) × IsCharBoundary bs n × (chars (take n bs) ≡ take k (chars bs)) × (chars (drop n bs) ≡ drop k (chars bs))
cut-at k n bs u e =
    let cs : List ℕ = chars bs in
    let front : List ℕ = encode_utf8_all (take k cs) in
    let rest : List ℕ = encode_utf8_all (drop k cs) in
    let whole : bs ≡ front ++ rest = sym (encodes-chars bs u)
    ∙ (ap encode_utf8_all (sym (take-append-drop k cs)) ∙ encodes-append (take k cs) (drop k cs)) in
    let scalar : scalars cs ≡ true = scalars-chars bs u in
    let after : IsUtf8 rest = (drop k cs, (scalars-drop k cs scalar, refl)) in (
      omega (arith, e, ap length whole, length-append front rest),
      rw e (IsCharBoundary-at_seam bs front rest whole after),
      ap chars (ap (take n) whole ∙ rw e (take-append_seam front rest)) ∙ chars-encodes (take k cs) (scalars-take k cs scalar),
      ap chars (ap (drop n) whole ∙ rw e (drop-append_seam front rest)) ∙ chars-encodes (drop k cs) (scalars-drop k cs scalar),
    )

both-below : (n a k b : ℕ) → n < a → k < b → nat_lt n a ≡ nat_lt k b
both-below n a k b h i = grind (arith, nat_tests)

neither-below : (n a k b : ℕ) → a ≤ n → b ≤ k → nat_lt n a ≡ nat_lt k b
neither-below n a k b h i = grind (arith, nat_tests)

no-bytes : (bs : List ℕ) → length bs ≡ 0 → length (chars bs) ≡ 0
no-bytes [] h = ap length chars-nil
no-bytes (b ∷ bs) h = absurd (omega arith)

no-characters : (bs : List ℕ) → IsUtf8 bs → length (chars bs) ≡ 0 → length bs ≡ 0
no-characters bs u h = sym (ap length (encodes-chars bs u)) ∙ none (chars bs) h where
  none : (cs : List ℕ) → length cs ≡ 0 → length (encode_utf8_all cs) ≡ 0
  none [] h = refl
  none (c ∷ cs) h = absurd (omega arith)

-- characters are left after the run of bytes where some are after that of characters
inside : (n : ℕ) (bs : List ℕ) (k : ℕ) → IsUtf8 bs → IsCharBoundary bs n → chars (drop n bs) ≡ drop k (chars bs)
    → nat_lt n (length bs) ≡ nat_lt k (length (chars bs))
inside n bs k u cut e =
    let left : length (chars (drop n bs)) ≡ length (chars bs) - k = ap length e ∙ length-drop k (chars bs) in
    let bytes : length (drop n bs) ≡ length bs - n = length-drop n bs in
    elim (cases_lt n (length bs)) [
      | inl some ↦ elim (cases_lt k (length (chars bs))) [
        | inl more ↦ both-below n (length bs) k (length (chars bs)) some more
        | inr none ↦ let gone : length (drop n bs) ≡ 0 = no-characters (drop n bs) (IsUtf8-drop bs n u cut)
            (omega arith) in absurd (omega arith)
      ]
      | inr end ↦ elim (cases_lt k (length (chars bs))) [
        | inl more ↦ let gone : length (chars (drop n bs)) ≡ 0 = no-bytes (drop n bs) (omega arith) in absurd (omega arith)
        | inr none ↦ neither-below n (length bs) k (length (chars bs)) end none
      ]
    ]

pub IsRunOf-run : (p : ℕ → Bool) (high : Bool) → IsOfAscii p high → (bs : List ℕ) → IsUtf8 bs → IsRunOf p bs (run p bs)
IsRunOf-run p high is bs u =
    let at : run p bs ≡ length (encode_utf8_all (take (run p (chars bs)) (chars bs))) =
    subst (λ (xs : List ℕ). run p xs ≡ length (encode_utf8_all (take (run p (chars bs)) (chars bs))))
    (encodes-chars bs u) (run-encoded p high is (chars bs)) in
    let cut = cut-at (run p (chars bs)) (run p bs) bs u at in
    record { within = cut.0; cut = cut.1; front = cut.2; rest = cut.3; inside = inside (run p bs) bs (run p (chars bs)) u cut.1 cut.3 }
