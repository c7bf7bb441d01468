-- The lines of a text's bytes spell the lines of its characters.
use Rattle.std.proofs.Common.{◌≡◌, ◌∙◌, ℕ, suc, ◌<◌, Bool, true, false, List, [], ◌∷◌, ◌++◌, Bor, Result, Ok, Err, ap, arith}
use Rattle.std.proofs.Common.{eqb-true, get_or, length, map, refl, sym}
use Rattle.std.specs.List.{onto_first, slice_split}
use Rattle.std.specs.Prelude.{IfOk, IsUtf8, encode_utf8, encode_utf8_all}
use Rattle.std.specs.Str.{chars}
use Rattle.std.proofs.Math.Utf8.{scalar, scalars}
use Rattle.std.proofs.lemmas.Bool.{and_parts}
use Rattle.std.proofs.lemmas.List.{append-nil}
use Rattle.std.proofs.lemmas.List.Splits.{slice_split-cons_no, slice_split-cons_yes}
use Rattle.std.proofs.lemmas.Str.{chars-append, chars-encodes, chars-nil, encode_ascii, encodes-chars, inside_one, scalars-chars}
use Rattle.html_policy_text.specs.PolicyText.{is_feed}

-- bytes in front of the first part
abbrev onto_front : List ℕ → List (List ℕ) → List (List ℕ)
onto_front [] parts = parts
onto_front (x ∷ xs) parts = onto_first x (onto_front xs parts)

front-is : (xs part : List ℕ) (parts : List (List ℕ)) → onto_front xs (part ∷ parts) ≡ (xs ++ part) ∷ parts
front-is [] part parts = refl
front-is (x ∷ xs) part parts = ap (onto_first x) (front-is xs part parts)

split-run : (xs ys : List ℕ) → ((k : ℕ) → k < length xs → is_feed (get_or xs k 0) ≡ false)
    → slice_split is_feed (xs ++ ys) ≡ onto_front xs (slice_split is_feed ys)
split-run [] ys h = refl
split-run (x ∷ xs) ys h = slice_split-cons_no is_feed x (xs ++ ys) (h 0 (omega arith))
    ∙ ap (onto_first x) (split-run xs ys (λ k l. h (suc k) (omega arith)))

-- there is a first part
record HasFirst (parts : List (List ℕ)) : Type 0 where
  first : List ℕ
  others : List (List ℕ)
  are : parts ≡ first ∷ others

some-part : (ys : List ℕ) → HasFirst (slice_split is_feed ys)
some-part [] = record { first = []; others = []; are = refl }
some-part (y ∷ ys) = by (is_feed y) refl (some-part ys) where
  by : (b : Bool) → is_feed y ≡ b → HasFirst (slice_split is_feed ys) → HasFirst (slice_split is_feed (y ∷ ys))
  by true e r = record { first = []; others = slice_split is_feed ys; are = slice_split-cons_yes is_feed y ys e }
  by false e r = record {
    first = y ∷ r.first;
    others = r.others;
    are = slice_split-cons_no is_feed y ys e ∙ ap (onto_first y) r.are;
  }

is-feed : (c : ℕ) → is_feed c ≡ true → c ≡ 10
is-feed c e = eqb-true c 10 e

-- no byte of a character is a line feed, unless the character is
no-feed : (c : ℕ) → is_feed c ≡ false → (k : ℕ) → k < length (encode_utf8 c) → is_feed (get_or (encode_utf8 c) k 0) ≡ false
no-feed c e k l = by (is_feed (get_or (encode_utf8 c) k 0)) refl where
  by : (b : Bool) → is_feed (get_or (encode_utf8 c) k 0) ≡ b → is_feed (get_or (encode_utf8 c) k 0) ≡ false
  by false f = f
  by true f =
      let low : get_or (encode_utf8 c) k 0 ≡ 10 = is-feed (get_or (encode_utf8 c) k 0) f in
      let small : get_or (encode_utf8 c) k 0 < 128 = omega (arith, low) in
      let is : c ≡ get_or (encode_utf8 c) k 0 = inside_one c [] (encode_utf8 c) k (sym (append-nil (encode_utf8 c))) l small in
      let clash : true ≡ false = sym f ∙ (ap is_feed (sym is) ∙ e) in
      absurd cc

chars-of-one : (c : ℕ) → scalar c ≡ true → chars (encode_utf8 c) ≡ c ∷ []
chars-of-one c h = ap chars (sym (append-nil (encode_utf8 c))) ∙ chars-encodes (c ∷ []) (rw h refl)

one-text : (c : ℕ) → scalar c ≡ true → IsUtf8 (encode_utf8 c)
one-text c h = (c ∷ [], (rw h refl, append-nil (encode_utf8 c)))

pub split-encoded : (cs : List ℕ) → scalars cs ≡ true → map chars (slice_split is_feed (encode_utf8_all cs)) ≡ slice_split is_feed cs
split-encoded [] h = ap (λ (part : List ℕ). part ∷ []) chars-nil
split-encoded (c ∷ cs) h = by (is_feed c) refl (split-encoded cs (and_parts (scalar c) (scalars cs) h).1) where
  by : (b : Bool) → is_feed c ≡ b → map chars (slice_split is_feed (encode_utf8_all cs)) ≡ slice_split is_feed cs
      → map chars (slice_split is_feed (encode_utf8 c ++ encode_utf8_all cs)) ≡ slice_split is_feed (c ∷ cs)
  by true e later =
      let is : c ≡ 10 = is-feed c e in
      let low : c < 128 = omega (arith, is) in
      ap (λ (bs : List ℕ). map chars (slice_split is_feed (bs ++ encode_utf8_all cs))) (encode_ascii c low)
      ∙ (ap (map chars) (slice_split-cons_yes is_feed c (encode_utf8_all cs) e)
      ∙ (ap (λ (part : List ℕ). part ∷ map chars (slice_split is_feed (encode_utf8_all cs))) chars-nil
      ∙ (ap (λ (parts : List (List ℕ)). [] ∷ parts) later
      ∙ sym (slice_split-cons_yes is_feed c cs e))))
  by false e later =
      let valid = and_parts (scalar c) (scalars cs) h in
      let r = some-part (encode_utf8_all cs) in
      ap (map chars) (split-run (encode_utf8 c) (encode_utf8_all cs) (no-feed c e)
      ∙ (ap (onto_front (encode_utf8 c)) r.are ∙ front-is (encode_utf8 c) r.first r.others))
      ∙ (ap (λ (part : List ℕ). part ∷ map chars r.others) (chars-append (encode_utf8 c) r.first (one-text c valid.0)
      ∙ ap (λ (l : List ℕ). l ++ chars r.first) (chars-of-one c valid.0))
      ∙ (ap (λ (parts : List (List ℕ)). onto_first c (map chars parts)) (sym r.are)
      ∙ (ap (onto_first c) later ∙ sym (slice_split-cons_no is_feed c cs e))))

split-chars : (bytes : List ℕ) → IsUtf8 bytes → map chars (slice_split is_feed bytes) ≡ slice_split is_feed (chars bytes)
split-chars bytes text =
    ap (λ (bs : List ℕ). map chars (slice_split is_feed bs)) (sym (encodes-chars bytes text))
    ∙ split-encoded (chars bytes) (scalars-chars bytes text)

chars-of : (lines : List (Bor (List ℕ))) → map (λ line. chars line.now) lines ≡ map chars (map (λ line. line.now) lines)
chars-of [] = refl
chars-of (line ∷ lines) = ap (λ rest. chars line.now ∷ rest) (chars-of lines)

-- the lines that were collected
pub lines-collected : {T E : Type 0} (r : Result T E) (items : T → List (Bor (List ℕ))) (bytes : List ℕ) → IsUtf8 bytes
    → IfOk r (λ lines. map (λ (line : Bor (List ℕ)). line.now) (items lines) ≡ slice_split is_feed bytes)
    → IfOk r (λ lines. map (λ (line : Bor (List ℕ)). chars line.now) (items lines) ≡ slice_split is_feed (chars bytes))
lines-collected (Ok lines) items bytes text h = chars-of (items lines) ∙ (ap (map chars) h ∙ split-chars bytes text)
lines-collected (Err fault) items bytes text h = tt
