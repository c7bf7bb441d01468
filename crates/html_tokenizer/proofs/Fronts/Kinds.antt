-- Runs of one kind at the front of a text.
use Rattle.std.proofs.Common.{◌≡◌, ◌∙◌, ℕ, zero, suc, ◌+◌, ◌<◌, ◌≤◌, Bool, true, false, nat_eq, List, [], ◌∷◌}
use Rattle.std.proofs.Common.{length, take, get_or, refl, sym, arith, subst, inl, inr, length-append}
use Rattle.std.specs.Prelude.{All, encode_utf8, encode_utf8_all, slice_index}
use Rattle.std.specs.Char.{is_ascii_alphanumeric}
use Rattle.std.specs.Str.{IsCharBoundary, IsUtf8, chars}
use Rattle.std.proofs.lemmas.Bool.{cases_lt, true≢false}
use Rattle.std.proofs.lemmas.Bool.Decides.{nat_tests}
use Rattle.std.proofs.lemmas.List.{get_or-append-add, get_or-take, length-take-le}
use Rattle.std.proofs.lemmas.List.Elements.{All-cons, All-nil}
use Rattle.std.proofs.lemmas.Str.{byte_from_char, char_from_byte, encodes-chars, IsCharBoundary-after_ascii}
use Rattle.std.proofs.lemmas.Str.{IsCharBoundary-at_seam, IsUtf8-take, length-le-encodes}
use Rattle.html_tokenizer.specs.declared.front_runs.RunKind.{RunKind}
use Rattle.html_tokenizer.specs.declared.front_runs.RunKind.TheVariants.{Named, CdataText, Brackets}
use Rattle.html_tokenizer.specs.AheadRuns.{ends_run}

-- a test that says the same of all characters that are not ASCII
abbrev IsEven : (ℕ → Bool) → Type 0
IsEven ends = (b c : ℕ) → 128 ≤ b → 128 ≤ c → ends b ≡ ends c

high-unnamed : (c : ℕ) → 128 ≤ c → is_ascii_alphanumeric c ≡ false
high-unnamed c high = grind (arith, nat_tests, high)

high-other : (c d : ℕ) → 128 ≤ c → d < 128 → nat_eq c d ≡ false
high-other c d high low = grind (arith, nat_tests, high, low)

-- the end of a run is one
pub kinds-even : (kind : RunKind) → IsEven (ends_run kind)
kinds-even Named b c f g = rw (high-unnamed b f, high-unnamed c g) refl
kinds-even CdataText b c f g =
    rw (
      high-other b 0 f (omega arith),
      high-other b 10 f (omega arith),
      high-other b 13 f (omega arith),
      high-other b 93 f (omega arith),
      high-other c 0 g (omega arith),
      high-other c 10 g (omega arith),
      high-other c 13 g (omega arith),
      high-other c 93 g (omega arith),
    ) refl
kinds-even Brackets b c f g = rw (high-other b 93 f (omega arith), high-other c 93 g (omega arith)) refl

module _ (ends : ℕ → Bool) (even : IsEven ends) where
  -- at a character a run does not end, if it ends at none of its bytes
  head-goes_on : (c : ℕ) (cs : List ℕ)
      → ((k : ℕ) → k < length (encode_utf8_all (c ∷ cs)) → ends (get_or (encode_utf8_all (c ∷ cs)) k 0) ≡ false) → ends c ≡ false
  head-goes_on c cs goes =
      let bs = encode_utf8_all (c ∷ cs) in
      let some : 0 < length bs = omega (arith, length-le-encodes (c ∷ cs)) in
      elim (cases_lt (get_or bs 0 0) 128) [
        | inl low ↦ subst (λ d. ends d ≡ false) (sym (char_from_byte bs (encode_utf8_all cs) c refl low some)) (goes 0 some)
        | inr high ↦ elim (cases_lt c 128) [
          | inl less ↦ absurd (omega (arith, high, less, byte_from_char bs (encode_utf8_all cs) c refl less))
          | inr more ↦ even c (get_or bs 0 0) more high ∙ goes 0 some
        ]
      ]

  chars-go_on : (cs : List ℕ)
      → ((k : ℕ) → k < length (encode_utf8_all cs) → ends (get_or (encode_utf8_all cs) k 0) ≡ false) → All (λ c. ends c ≡ false) cs
  chars-go_on [] goes = All-nil (λ c. ends c ≡ false)
  chars-go_on (c ∷ cs) goes =
      let tail : (k : ℕ) → k < length (encode_utf8_all cs) → ends (get_or (encode_utf8_all cs) k 0) ≡ false =
      λ k l. subst (λ (x : ℕ). ends x ≡ false) (get_or-append-add (encode_utf8 c) (encode_utf8_all cs) k 0)
      (goes (length (encode_utf8 c) + k) (omega (arith, l, length-append (encode_utf8 c) (encode_utf8_all cs)))) in
      All-cons (λ c. ends c ≡ false) c cs (head-goes_on c cs goes) (chars-go_on cs tail)

  -- a text may be cut where a run ends
  pub kind-cut : (bs : List ℕ) (w : ℕ) → IsUtf8 bs → w ≤ length bs
      → ((k : ℕ) → k < w → ends (slice_index bs k) ≡ false) → (w < length bs → ends (slice_index bs w) ≡ true) → IsCharBoundary bs w
  kind-cut bs zero utf8 within before at = IsCharBoundary-at_seam bs [] bs refl utf8
  kind-cut bs (suc w) utf8 within before at = elim (cases_lt (slice_index bs w) 128) [
    | inl low ↦ subst (IsCharBoundary bs) (omega arith) (IsCharBoundary-after_ascii bs w utf8 (omega (arith, within)) low)
    | inr high ↦ (
      within,
      λ l h. absurd
          (true≢false (sym (at l) ∙ even (slice_index bs (suc w)) (slice_index bs w) h high ∙ before w (omega arith))),
    )
  ]

  -- at none of its characters the run ends
  pub kind-lacking : (bs : List ℕ) (w : ℕ) → IsUtf8 bs → w ≤ length bs
      → ((k : ℕ) → k < w → ends (slice_index bs k) ≡ false) → IsCharBoundary bs w → All (λ c. ends c ≡ false) (chars (take w bs))
  kind-lacking bs w utf8 within before cut =
      let long : length (take w bs) ≡ w = length-take-le w bs within in
      let back : encode_utf8_all (chars (take w bs)) ≡ take w bs = encodes-chars (take w bs) (IsUtf8-take bs w utf8 cut) in
      chars-go_on (chars (take w bs))
      (rw back (λ k l. rw (get_or-take w bs k 0 (omega (arith, l, long))) (before k (omega (arith, l, long)))))
