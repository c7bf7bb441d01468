-- A text and its first character.
use Rattle.std.proofs.Common.{◌≡◌, ◌∙◌, ℕ, zero, suc, ◌<◌, Bool, true, false, List, [], ◌∷◌, ◌++◌, length, take, drop, get_or}
use Rattle.std.proofs.Common.{refl, sym, ap, arith, Some, None, inl, inr}
use Rattle.std.specs.Prelude.{codes, encode_utf8, encode_utf8_all, nat_eq}
use Rattle.std.specs.Str.{IsCharBoundary, IsUtf8, chars}
use Rattle.std.specs.Char.{to_ascii_lowercase}
use Rattle.std.proofs.lemmas.Bool.{and_parts, cases_lt, eqb-true, ltb-true}
use Rattle.markup.specs.Plain.{is_plain}
use Rattle.html_tokens.specs.Characters.{begins_any_case, begins_by, run}
use Rattle.html_names.proofs.AnyCase.{high-lowered}
use Rattle.html_names.proofs.Runs.{cut-at}
use Rattle.std.proofs.lemmas.Bool.Decides.{nat_tests}
use Rattle.html_rules.specs.Choice.{choose}
use Rattle.html_rules.specs.Encodings.{after_charset, after_equals, after_space, encoding_at, encoding_of}
use Rattle.html_names.specs.Stops.{after_character, stops, unquoted_value}
use Rattle.html_names.specs.declared.encodings.Stop.TheVariants.{ValueEnd}
use Rattle.std.specs.Char.{len_utf8}
use Rattle.std.proofs.Math.Seq.{drop-append_seam}
use Rattle.std.proofs.lemmas.List.{length-append}
use Rattle.html_names.specs.Given.{IsRest}
use Rattle.std.proofs.lemmas.Str.{IsCharBoundary-after_ascii, IsCharBoundary-at_seam, IsUtf8-past_char, len_utf8_bounds}
use Rattle.std.proofs.lemmas.Str.{length-encode, byte_from_char, char_from_byte, chars-nil, chars_past_char, encode_ascii}
use Rattle.std.proofs.lemmas.Str.{encodes-chars}

self-eq : (n : ℕ) → nat_eq n n ≡ true
self-eq n = grind (arith, nat_tests)

pub no-text : (bs : List ℕ) → length bs ≡ 0 → chars bs ≡ []
no-text [] h = chars-nil
no-text (b ∷ bs) h = absurd (omega arith)

-- a text that begins with an ASCII byte begins with that character
pub record BeginsWith (bs : List ℕ) (b : ℕ) : Type 0 where
  pub characters : chars bs ≡ b ∷ chars (drop 1 bs)
  pub cut : IsCharBoundary bs 1

pub BeginsWith-ascii : (bs : List ℕ) → IsUtf8 bs → 0 < length bs → get_or bs 0 0 < 128 → BeginsWith bs (get_or bs 0 0)
BeginsWith-ascii bs u l low = by (chars bs) (encodes-chars bs u) where
  by : (cs : List ℕ) → encode_utf8_all cs ≡ bs → BeginsWith bs (get_or bs 0 0)
  by [] e = absurd (omega (arith, ap length e))
  by (c ∷ cs) e =
      let same : c ≡ get_or bs 0 0 = char_from_byte bs (encode_utf8_all cs) c (sym e) low l in
      let small : c < 128 = omega arith in
      let split : bs ≡ c ∷ encode_utf8_all cs = sym e ∙ ap (λ (x : List ℕ). x ++ encode_utf8_all cs) (encode_ascii c small) in
      let past = chars_past_char bs (encode_utf8_all cs) c u (sym e) in
      let rest : drop 1 bs ≡ encode_utf8_all cs = ap (drop 1) split in
      record {
        characters = past
            ∙ (ap (λ x. x ∷ chars (encode_utf8_all cs)) same ∙ ap (λ x. get_or bs 0 0 ∷ chars x) (sym rest));
        cut = IsCharBoundary-after_ascii bs 0 u l low;
      }

-- a text that begins with another byte begins with another character
pub record BeginsOther (bs : List ℕ) (w : ℕ) : Type 0 where
  pub first : ℕ
  pub rest : List ℕ
  pub characters : chars bs ≡ first ∷ rest
  pub other : nat_eq first w ≡ false

other-eq : (c w : ℕ) → (c ≡ w → ⊥) → nat_eq c w ≡ false
other-eq c w h = by (nat_eq c w) refl where
  by : (b : Bool) → nat_eq c w ≡ b → nat_eq c w ≡ false
  by true e = absurd (h (eqb-true _ _ e))
  by false e = e

pub begins-other : (bs : List ℕ) → IsUtf8 bs → 0 < length bs → (w : ℕ) → w < 128 → (get_or bs 0 0 ≡ w → ⊥) → BeginsOther bs w
begins-other bs u l w small h = by (chars bs) refl where
  by : (cs : List ℕ) → chars bs ≡ cs → BeginsOther bs w
  by [] e = absurd (omega (arith, ap length (sym (encodes-chars bs u) ∙ ap encode_utf8_all e)))
  by (c ∷ cs) e = record {
    first = c;
    rest = cs;
    characters = e;
    other = other-eq c w (λ is. let low : c < 128 = omega arith in
        h (byte_from_char bs (encode_utf8_all cs) c (sym (encodes-chars bs u) ∙ ap encode_utf8_all e) low ∙ is));
  }

-- what stands after a character, by the first byte
pub behind-none : (w : ℕ) (bs : List ℕ) → length bs ≡ 0 → after_character w (chars bs) ≡ None
behind-none w bs h = rw (no-text bs h) refl

pub behind-some : (w : ℕ) (bs : List ℕ) → IsUtf8 bs → 0 < length bs → w < 128 → get_or bs 0 0 ≡ w
    → after_character w (chars bs) ≡ Some (chars (drop 1 bs))
behind-some w bs u l small e =
    let low : get_or bs 0 0 < 128 = omega arith in
    let is = BeginsWith-ascii bs u l low in
    let same : nat_eq (get_or bs 0 0) w ≡ true = rw e (self-eq w) in
    rw (is.characters, same) refl

pub behind-other : (w : ℕ) (bs : List ℕ) → IsUtf8 bs → 0 < length bs → w < 128 → (get_or bs 0 0 ≡ w → ⊥)
    → after_character w (chars bs) ≡ None
behind-other w bs u l small h =
    let is = begins-other bs u l w small h in
    rw (is.characters, is.other) refl

pub equals-none : (cs : List ℕ) → after_character 61 cs ≡ None → after_equals cs ≡ None
equals-none [] e = refl
equals-none (c ∷ cs) e = by (nat_eq c 61) refl e where
  by : (b : Bool) → nat_eq c 61 ≡ b → choose b (λ _. Some cs) (λ _. None) ≡ None → after_equals (c ∷ cs) ≡ None
  by true is e = absurd cc
  by false is e = rw is refl

pub is-empty : (n : ℕ) (b : Bool) → b ≡ nat_eq n 0 → b ≡ true → n ≡ 0
is-empty n b e h = eqb-true n 0 (sym e ∙ h)

pub is-nonempty : (n : ℕ) (b : Bool) → b ≡ nat_eq n 0 → b ≡ false → 0 < n
is-nonempty zero b e h = absurd (cc (self-eq 0))
is-nonempty (suc n) b e h = omega arith

pub value-some : (bs : List ℕ) → IsUtf8 bs → 0 < length bs → unquoted_value (chars bs) ≡ Some
    (take (run (stops ValueEnd) (chars bs)) (chars bs))
value-some bs u l = by (chars bs) refl where
  by : (cs : List ℕ) → chars bs ≡ cs → unquoted_value cs ≡ Some (take (run (stops ValueEnd) cs) cs)
  by [] e = absurd (omega (arith, ap length (sym (encodes-chars bs u) ∙ ap encode_utf8_all e)))
  by (c ∷ cs) e = refl

-- a text that begins with an ASCII word may be cut after it, and its characters go on there
pub record BeginsWord (bs : List ℕ) (w : List ℕ) : Type 0 where
  pub cut : IsCharBoundary bs (length w)
  pub rest : chars (drop (length w) bs) ≡ drop (length w) (chars bs)

low-lowered : (c w : ℕ) → w < 128 → w ≡ to_ascii_lowercase c → c < 128
low-lowered c w l e = elim (cases_lt c 128) [
  | inl low ↦ low
  | inr high ↦ let same : nat_eq w (to_ascii_lowercase c) ≡ true = rw (← e) (self-eq w) in
      absurd (cc (high-lowered c w high l))
]

begins-word : (w cs : List ℕ) → is_plain w ≡ true → begins_any_case w cs ≡ true → length (encode_utf8_all (take (length w) cs)) ≡ length w
begins-word [] cs h b = refl
begins-word (w ∷ ws) [] h b = absurd cc
begins-word (w ∷ ws) (c ∷ cs) h b =
    let parts = and_parts _ _ h in
    by (nat_eq w (to_ascii_lowercase c)) refl (ltb-true w 128 parts.0) (begins-word ws cs parts.1) b
  where
    by : (same : Bool) → nat_eq w (to_ascii_lowercase c) ≡ same → w < 128
        → (begins_any_case ws cs ≡ true → length (encode_utf8_all (take (length ws) cs)) ≡ length ws)
        → begins_by same (λ _. begins_any_case ws cs) ≡ true → length (encode_utf8_all (take (length (w ∷ ws)) (c ∷ cs))) ≡ length (w ∷ ws)
    by true is small rest begun = rw (encode_ascii c (low-lowered c w small (eqb-true _ _ is))) (ap suc (rest begun))
    by false is small rest begun = absurd cc

pub BeginsWord-begins : (w bs : List ℕ) → IsUtf8 bs → is_plain w ≡ true → begins_any_case w (chars bs) ≡ true → BeginsWord bs w
BeginsWord-begins w bs u h b =
    let cut = cut-at (length w) (length w) bs u (sym (begins-word w (chars bs) h b)) in
    record { cut = cut.1; rest = cut.3 }

-- the first character of a text, and what stands after it
pub charset-begins : (t : List ℕ) → begins_any_case (codes "charset") t ≡ true → after_charset t ≡ after_equals (after_space (drop 7 t))
charset-begins t h = rw h refl

pub encoding-found : (c : ℕ) (t value : List ℕ) → after_charset (c ∷ t) ≡ Some value → encoding_of (c ∷ t) ≡ encoding_at value
unfolding encoding_of
encoding-found c t value h = rw h refl

pub encoding-further : (c : ℕ) (t : List ℕ) → after_charset (c ∷ t) ≡ None → encoding_of (c ∷ t) ≡ encoding_of t
unfolding encoding_of
encoding-further c t h = rw h refl

pub encoding-end : encoding_of [] ≡ None
unfolding encoding_of
encoding-end = refl

-- a text after its first character
pub past-first : (bs rest : List ℕ) (c n : ℕ) → IsUtf8 bs → bs ≡ encode_utf8 c ++ rest → n ≡ len_utf8 c
    → IsCharBoundary bs n × (drop n bs ≡ rest) × IsRest bs rest
past-first bs rest c n u e m =
    let size : n ≡ length (encode_utf8 c) = m ∙ sym (length-encode c) in
    let text : IsUtf8 rest = IsUtf8-past_char bs rest c u e in (
      rw size (IsCharBoundary-at_seam bs (encode_utf8 c) rest e text),
      ap (drop n) e ∙ rw size (drop-append_seam (encode_utf8 c) rest),
      record {
        first = c;
        characters = chars_past_char bs rest c u e;
        text = text;
        shorter = omega (arith, ap length e, length-append (encode_utf8 c) rest, length-encode c, len_utf8_bounds c);
      },
    )

pub further : (bs rest : List ℕ) → IsRest bs rest → after_charset (chars bs) ≡ None → encoding_of (chars bs) ≡ encoding_of (chars rest)
further bs rest is h = let none : after_charset (is.first ∷ chars rest) ≡ None = rw is.characters at h in
    rw is.characters (encoding-further is.first (chars rest) none)

pub found : (bs rest value : List ℕ) → IsRest bs rest → after_charset (chars bs) ≡ Some value → encoding_of (chars bs) ≡ encoding_at value
found bs rest value is h = let some : after_charset (is.first ∷ chars rest) ≡ Some value = rw is.characters at h in
    rw is.characters (encoding-found is.first (chars rest) value some)
