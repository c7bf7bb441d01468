-- A text and its first character.
use Rattle.std.proofs.Common.{◌≡◌, ◌∙◌, ℕ, ◌<◌, true, List, [], ◌∷◌, ◌++◌, length, take, drop, get_or, append-nil, refl, sym, ap, arith}
use Rattle.std.specs.Prelude.{encode_utf8, encode_utf8_all}
use Rattle.std.specs.Str.{IsCharBoundary, IsUtf8, chars}
use Rattle.std.specs.Char.{len_utf8}
use Rattle.std.proofs.Math.Seq.{take-append_seam}
use Rattle.std.proofs.lemmas.Str.{IsUtf8-take, chars-nil, chars_past_char, encodes-chars, length-encode}
use Rattle.html_rules.specs.Step.{after_line_feed}
use Rattle.html_names.proofs.FirstBytes.{BeginsWith-ascii, begins-other, no-text, past-first}
use Rattle.html_tree_builder.specs.Texts.{IsSplit}

pub split-cut : (bs rest : List ℕ) (c n : ℕ) → IsUtf8 bs → bs ≡ encode_utf8 c ++ rest → n ≡ len_utf8 c → IsCharBoundary bs n
split-cut bs rest c n u e m = (past-first bs rest c n u e m).0

pub split-first : (bs one left rest : List ℕ) (c n : ℕ) → IsUtf8 bs → bs ≡ encode_utf8 c ++ rest → n ≡ len_utf8 c
    → one ≡ take n bs → left ≡ drop n bs → IsSplit bs one left
split-first bs one left rest c n u e m o l =
    let past = past-first bs rest c n u e m in
    let size : n ≡ length (encode_utf8 c) = m ∙ sym (length-encode c) in
    let front : take n bs ≡ encode_utf8 c ++ [] = ap (take n) e ∙ rw size (take-append_seam (encode_utf8 c) rest)
    ∙ sym (append-nil (encode_utf8 c)) in
    rw (o, l, past.1) (record {
      first = c;
      character = chars_past_char (take n bs) [] c (IsUtf8-take bs n u past.0) front ∙ ap (λ cs. c ∷ cs) chars-nil;
      characters = chars_past_char bs rest c u e;
      text = past.2.text;
      shorter = past.2.shorter;
    })

pub line_feed-none : (bs : List ℕ) → length bs ≡ 0 → chars bs ≡ after_line_feed true (chars bs)
line_feed-none bs h = rw (no-text bs h) refl

pub line_feed-dropped : (bs : List ℕ) → IsUtf8 bs → 0 < length bs → get_or bs 0 0 ≡ 10 → chars (drop 1 bs) ≡ after_line_feed true (chars bs)
line_feed-dropped bs u l e =
    let low : get_or bs 0 0 < 128 = omega arith in
    let is = BeginsWith-ascii bs u l low in
    rw (is.characters, e) refl

pub line_feed-other : (bs : List ℕ) → IsUtf8 bs → 0 < length bs → (get_or bs 0 0 ≡ 10 → ⊥) → chars bs ≡ after_line_feed true (chars bs)
line_feed-other bs u l h =
    let small : 10 < 128 = omega arith in
    let is = begins-other bs u l 10 small h in
    rw (is.characters, is.other) refl

-- a text that is not empty has a first character
pub some-character : (bs : List ℕ) → IsUtf8 bs → 0 < length bs → (c : ℕ) × (cs : List ℕ) × (chars bs ≡ c ∷ cs)
some-character bs u l = by (chars bs) refl where
  by : (cs : List ℕ) → chars bs ≡ cs → (c : ℕ) × (cs : List ℕ) × (chars bs ≡ c ∷ cs)
  by [] e = absurd (omega (arith, ap length (sym (encodes-chars bs u) ∙ ap encode_utf8_all e)))
  by (c ∷ cs) e = (c, cs, e)
