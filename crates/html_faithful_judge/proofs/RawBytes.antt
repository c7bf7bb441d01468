-- Raw text is decided by its bytes: what ends it, and what changes how it goes on, is of ASCII, and no `<` is in such a word.
use lib.Utf8.{encode, encodes}
use Rattle.std.proofs.Common.{◌≡◌, ◌∙◌, ◌<◌, ◌≤◌, ◌-◌, ℕ, zero, suc, Bool, true, false, List, [], ◌∷◌, ◌++◌, length, refl, sym, ap, arith}
use Rattle.std.proofs.Common.{append-nil, drop, get_or, inl, inr, map, take}
use Rattle.std.specs.Prelude.{◌&&◌, ◌||◌, not, codes, nat_eq, nat_lt, Option, Some, None, slice_index}
use Rattle.std.specs.Char.{is_ascii_alphabetic, to_ascii_lowercase}
use Rattle.std.specs.List.{list_all}
use Rattle.std.specs.Str.{IsUtf8, chars}
use Rattle.std.proofs.lemmas.Bool.{and_parts, cases_lt, ltb-true}
use Rattle.std.proofs.lemmas.Bool.Decides.{nat_tests}
use Rattle.std.proofs.lemmas.List.{drop_all, length-drop, take_all}
use Rattle.std.proofs.lemmas.Str.{char_from_byte, encode_ascii, encodes-chars, inside_one}
use Rattle.markup.specs.Escape.{end_tag}
use Rattle.memchr.specs.Find.{IsFirstByte, is_byte, is_byte2}
use Rattle.html_tokens.specs.Characters.{begins, begins_by, begins_name, ends_name_at, ends_tag_name}
use Rattle.html_tokens.specs.RawText.{ends_at_tag, is_letters, next_kind, slash_name}
use Rattle.html_tokens.specs.declared.states.RawKind.{RawKind}
use Rattle.html_tokens.specs.declared.states.RawKind.TheVariants.{Rcdata, Rawtext, ScriptData, ScriptDataEscaped}
use Rattle.html_tokens.specs.declared.states.ScriptEscapeKind.TheVariants.{DoubleEscaped, Escaped}
use Rattle.html_faithful.specs.Forms.{goes_on_raw}
use Rattle.html_faithful_judge.specs.Raw.{IsFirstSign, goes_on_here, has_hyphens, is_sign}

-- words of ASCII without `<`
abbrev is_word : List ℕ → Bool
is_word w = list_all (λ c. nat_lt c 128 && not (nat_eq c 60)) w

word-low : (c : ℕ) → (nat_lt c 128 && not (nat_eq c 60)) ≡ true → c < 128
word-low c h = ltb-true c 128 (and_parts _ _ h).0

word-other : (c : ℕ) → (nat_lt c 128 && not (nat_eq c 60)) ≡ true → nat_eq c 60 ≡ false
word-other c h = grind (arith, nat_tests, h)

high-eq : (c w : ℕ) → 128 ≤ c → w < 128 → nat_eq w c ≡ false
high-eq c w h l = grind (arith, nat_tests, h, l)

eq-high : (c w : ℕ) → 128 ≤ c → w < 128 → nat_eq c w ≡ false
eq-high c w h l = grind (arith, nat_tests, h, l)

high-lowered : (c w : ℕ) → 128 ≤ c → w < 128 → nat_eq w (to_ascii_lowercase c) ≡ false
high-lowered c w h l = grind (arith, nat_tests, h, l)

high-ends : (c : ℕ) → 128 ≤ c → ends_tag_name c ≡ false
high-ends c h = rw (
  eq-high c 9 h (omega arith),
  eq-high c 10 h (omega arith),
  eq-high c 12 h (omega arith),
  eq-high c 32 h (omega arith),
  eq-high c 47 h (omega arith),
  eq-high c 62 h (omega arith),
) refl

-- the first byte of a character that is not of ASCII is not, either
above : (c b : ℕ) (rest bs : List ℕ) → b ∷ bs ≡ encode c ++ rest → 128 ≤ c → 128 ≤ b
above c b rest bs e high = elim (cases_lt b 128) [
  | inl low ↦ let is : c ≡ b = char_from_byte (b ∷ bs) rest c e low (omega arith) in omega (arith, is, high, low)
  | inr up ↦ up
]

begins-high : (c : ℕ) (rest : List ℕ) (w : ℕ) (ws bs : List ℕ) → bs ≡ encode c ++ rest → 128 ≤ c → w < 128 → begins (w ∷ ws) bs ≡ false
begins-high c rest w ws [] e high small = refl
begins-high c rest w ws (b ∷ bs) e high small = rw (high-eq b w (above c b rest bs e high) small) refl

-- a word begins the bytes of a text where it begins its characters, with a `<` after them
begins-bytes : (w cs t : List ℕ) → is_word w ≡ true → begins w (encodes cs) ≡ begins w (cs ++ 60 ∷ t)
begins-bytes [] cs t h = refl
begins-bytes (w ∷ ws) [] t h = sym (rw (word-other w (and_parts _ _ h).0) refl)
begins-bytes (w ∷ ws) (c ∷ cs) t h =
    let parts = and_parts _ _ h in
    elim (cases_lt c 128) [
      | inl low ↦ rw (encode_ascii c low, begins-bytes ws cs t parts.1) refl
      | inr high ↦ begins-high c (encodes cs) w ws (encode c ++ encodes cs) refl high (word-low w parts.0)
          ∙ sym (rw (high-eq c w high (word-low w parts.0)) refl)
    ]

ends-high : (c : ℕ) (rest bs : List ℕ) → bs ≡ encode c ++ rest → 128 ≤ c → ends_name_at bs ≡ false
ends-high c rest [] e high = refl
ends-high c rest (b ∷ bs) e high = high-ends b (above c b rest bs e high)

name-high : (c : ℕ) (rest : List ℕ) (w : ℕ) (ws bs : List ℕ) → bs ≡ encode c ++ rest → 128 ≤ c → w < 128 → begins_name (w ∷ ws) bs ≡ false
name-high c rest w ws [] e high small = refl
name-high c rest w ws (b ∷ bs) e high small = rw (high-lowered b w (above c b rest bs e high) small) refl

-- and so does a name
name-bytes : (w cs t : List ℕ) → is_word w ≡ true → begins_name w (encodes cs) ≡ begins_name w (cs ++ 60 ∷ t)
name-bytes [] [] t h = refl
name-bytes [] (c ∷ cs) t h = elim (cases_lt c 128) [
  | inl low ↦ rw (encode_ascii c low) refl
  | inr high ↦ ends-high c (encodes cs) (encode c ++ encodes cs) refl high ∙ sym (high-ends c high)
]
name-bytes (w ∷ ws) [] t h = sym (rw (word-other w (and_parts _ _ h).0) refl)
name-bytes (w ∷ ws) (c ∷ cs) t h =
    let parts = and_parts _ _ h in
    elim (cases_lt c 128) [
      | inl low ↦ rw (encode_ascii c low, name-bytes ws cs t parts.1) refl
      | inr high ↦ name-high c (encodes cs) w ws (encode c ++ encodes cs) refl high (word-low w parts.0)
          ∙ sym (rw (high-lowered c w high (word-low w parts.0)) refl)
    ]

slash-high : (name : List ℕ) (c : ℕ) (rest bs : List ℕ) → bs ≡ encode c ++ rest → 128 ≤ c → slash_name name bs ≡ false
slash-high name c rest [] e high = refl
slash-high name c rest (b ∷ bs) e high = rw (eq-high b 47 (above c b rest bs e high) (omega arith)) refl

slash-bytes : (name cs t : List ℕ) → is_word (map to_ascii_lowercase name) ≡ true
    → slash_name name (encodes cs) ≡ slash_name name (cs ++ 60 ∷ t)
slash-bytes name [] t h = refl
slash-bytes name (c ∷ cs) t h = elim (cases_lt c 128) [
  | inl low ↦ rw (encode_ascii c low, name-bytes (map to_ascii_lowercase name) cs t h) refl
  | inr high ↦ slash-high name c (encodes cs) (encode c ++ encodes cs) refl high ∙ sym (rw (eq-high c 47 high (omega arith)) refl)
]

next-bytes : (kind : RawKind) (c : ℕ) (cs t : List ℕ) → next_kind kind c (encodes cs) ≡ next_kind kind c (cs ++ 60 ∷ t)
next-bytes Rcdata c cs t = refl
next-bytes Rawtext c cs t = refl
next-bytes ScriptData c cs t = rw (begins-bytes (codes "!--") cs t refl) refl
next-bytes (ScriptDataEscaped Escaped) c cs t =
    rw (name-bytes (codes "script") cs t refl, begins-bytes (codes "->") cs t refl) refl
next-bytes (ScriptDataEscaped DoubleEscaped) c cs t =
    rw (name-bytes (codes "/script") cs t refl, begins-bytes (codes "->") cs t refl) refl

-- other bytes than signs end nothing, and change nothing
next-plain : (kind : RawKind) (c : ℕ) (rest : List ℕ) → is_sign kind c ≡ false → next_kind kind c rest ≡ kind
next-plain kind c rest h = by kind (nat_eq c 60) (nat_eq c 45) refl refl h
  where
    by : (kind : RawKind) (a b : Bool) → nat_eq c 60 ≡ a → nat_eq c 45 ≡ b → (a || (has_hyphens kind && b)) ≡ false
        → next_kind kind c rest ≡ kind
    by kind true b e f h = absurd cc
    by Rcdata false b e f h = refl
    by Rawtext false b e f h = refl
    by ScriptData false b e f h = rw e refl
    by (ScriptDataEscaped kind) false true e f h = absurd cc
    by (ScriptDataEscaped Escaped) false false e f h = rw (e, f) refl
    by (ScriptDataEscaped DoubleEscaped) false false e f h = rw (e, f) refl

not-less : (kind : RawKind) (c : ℕ) → is_sign kind c ≡ false → nat_eq c 60 ≡ false
not-less kind c h = by (nat_eq c 60) refl h
  where
    by : (a : Bool) → nat_eq c 60 ≡ a → (a || (has_hyphens kind && nat_eq c 45)) ≡ false → a ≡ false
    by false e h = refl
    by true e h = absurd cc

plain-byte : (kind : RawKind) (name : List ℕ) (c : ℕ) (rest : List ℕ) → is_sign kind c ≡ false
    → goes_on_here kind name (c ∷ rest) ≡ goes_on_here kind name rest
plain-byte kind name c rest h = rw (not-less kind c h, next-plain kind c rest h) refl

high-sign : (kind : RawKind) (c : ℕ) → 128 ≤ c → is_sign kind c ≡ false
high-sign kind c h = rw (eq-high c 60 h (omega arith), eq-high c 45 h (omega arith)) (by (has_hyphens kind))
  where
    by : (b : Bool) → (false || (b && false)) ≡ false
    by true = refl
    by false = refl

-- so do the bytes of a character that is not of ASCII
high-bytes : (kind : RawKind) (name bs rest : List ℕ) → ((k : ℕ) → k < length bs → 128 ≤ get_or bs k 0)
    → goes_on_here kind name (bs ++ rest) ≡ goes_on_here kind name rest
high-bytes kind name [] rest h = refl
high-bytes kind name (b ∷ bs) rest h =
    plain-byte kind name b (bs ++ rest) (high-sign kind b (h 0 (omega arith)))
    ∙ high-bytes kind name bs rest (λ k within. h (suc k) (omega (arith, within)))

high-all : (c : ℕ) (rest : List ℕ) → 128 ≤ c → (k : ℕ) → k < length (encode c) → 128 ≤ get_or (encode c) k 0
high-all c rest high k within = elim (cases_lt (get_or (encode c) k 0) 128) [
  | inl low ↦
      let is : c ≡ get_or (encode c) k 0 = inside_one c [] (encode c) k (sym (append-nil (encode c))) within low in
      omega (arith, is, high, low)
  | inr up ↦ up
]

raw-high : (kind : RawKind) (name : List ℕ) (c : ℕ) (cs : List ℕ) → 128 ≤ c → goes_on_raw kind name (c ∷ cs) ≡ goes_on_raw kind name cs
raw-high kind name c cs h = rw (eq-high c 60 h (omega arith), next-plain kind c (cs ++ end_tag name) (high-sign kind c h)) refl

letter-word : (c : ℕ) → is_ascii_alphabetic c ≡ true → (nat_lt (to_ascii_lowercase c) 128 && not (nat_eq (to_ascii_lowercase c) 60)) ≡ true
letter-word c h = grind (arith, nat_tests, h)

letters-word : (cs : List ℕ) → list_all is_ascii_alphabetic cs ≡ true → is_word (map to_ascii_lowercase cs) ≡ true
letters-word [] h = refl
letters-word (c ∷ cs) h =
    let parts = and_parts _ _ h in
    rw (letter-word c parts.0, letters-word cs parts.1) refl

name-word : (name : List ℕ) → is_letters name ≡ true → is_word (map to_ascii_lowercase name) ≡ true
name-word [] h = absurd cc
name-word (c ∷ cs) h = letters-word (c ∷ cs) h

all-bytes : (kind : RawKind) (name cs : List ℕ) → is_letters name ≡ true → goes_on_here kind name (encodes cs) ≡ goes_on_raw kind name cs
all-bytes kind name [] letters = refl
all-bytes kind name (c ∷ cs) letters = elim (cases_lt c 128) [
  | inl low ↦
      rw (
        encode_ascii c low,
        letters,
        slash-bytes name cs (codes "/" ++ name ++ codes ">") (name-word name letters),
        next-bytes kind c cs (codes "/" ++ name ++ codes ">"),
        all-bytes (next_kind kind c (cs ++ end_tag name)) name cs letters,
      ) refl
  | inr high ↦
      high-bytes kind name (encode c) (encodes cs) (high-all c [] high)
      ∙ (all-bytes kind name cs letters ∙ sym (raw-high kind name c cs high))
]

letters-ascii : (cs : List ℕ) → list_all is_ascii_alphabetic cs ≡ true → encodes cs ≡ cs
letters-ascii [] h = refl
letters-ascii (c ∷ cs) h =
    let parts = and_parts _ _ h in
    rw (encode_ascii c (letter-low c parts.0), letters-ascii cs parts.1) refl
  where
    letter-low : (c : ℕ) → is_ascii_alphabetic c ≡ true → c < 128
    letter-low c h = grind (arith, nat_tests, h)

name-ascii : (cs : List ℕ) → is_letters cs ≡ true → encodes cs ≡ cs
name-ascii [] h = refl
name-ascii (c ∷ cs) h = letters-ascii (c ∷ cs) h

-- raw text goes on as its bytes say
pub raw-bytes : (kind : RawKind) (name text : List ℕ) → IsUtf8 name → IsUtf8 text → is_letters (chars name) ≡ true
    → goes_on_here kind name text ≡ goes_on_raw kind (chars name) (chars text)
raw-bytes kind name text n t letters =
    let own : name ≡ chars name = sym (encodes-chars name n) ∙ name-ascii (chars name) letters in
    ap (λ (bs : List ℕ). goes_on_here kind bs text) own
    ∙ (ap (goes_on_here kind (chars name)) (sym (encodes-chars text t)) ∙ all-bytes kind (chars name) (chars text) letters)

-- THE FIRST SIGN

sign-less : (kind : RawKind) (b : ℕ) → has_hyphens kind ≡ false → is_sign kind b ≡ true → is_byte 60 b ≡ true
sign-less kind b h is = less b (sym (ap (λ h. nat_eq b 60 || (h && nat_eq b 45)) h) ∙ is)
  where
    less : (b : ℕ) → (nat_eq b 60 || (false && nat_eq b 45)) ≡ true → is_byte 60 b ≡ true
    less b is = grind (arith, nat_tests, is)

sign-both : (kind : RawKind) (b : ℕ) → is_sign kind b ≡ true → is_byte2 60 45 b ≡ true
sign-both kind b is = by (has_hyphens kind) is
  where
    by : (h : Bool) → (nat_eq b 60 || (h && nat_eq b 45)) ≡ true → is_byte2 60 45 b ≡ true
    by true is = grind (arith, nat_tests, is)
    by false is = grind (arith, nat_tests, is)

none-there : (b : Bool) → (b ≡ true → ⊥) → b ≡ false
none-there false h = refl
none-there true h = absurd (h refl)

first-by : (kind : RawKind) (bytes : List ℕ) (test : ℕ → Bool) (found : Option ℕ)
    → ((b : ℕ) → is_sign kind b ≡ true → test b ≡ true) → IsFirstByte test bytes found → IsFirstSign kind bytes found
first-by kind bytes test None sign seen =
    λ k within. none-there (is_sign kind (slice_index bytes k)) (λ is. seen k (omega arith) within (sign (slice_index bytes k) is))
first-by kind bytes test (Some at) sign seen = (
  seen.0.high,
  λ k within. none-there (is_sign kind (slice_index bytes k)) (λ is. seen.0.before k (omega arith) within (sign (slice_index bytes k) is)),
)

pub first-less : (kind : RawKind) (bytes : List ℕ) (found : Option ℕ) → has_hyphens kind ≡ false → IsFirstByte (is_byte 60) bytes found
    → IsFirstSign kind bytes found
first-less kind bytes found h seen = first-by kind bytes (is_byte 60) found (λ b is. sign-less kind b h is) seen

pub first-both : (kind : RawKind) (bytes : List ℕ) (found : Option ℕ) → IsFirstByte (is_byte2 60 45) bytes found
    → IsFirstSign kind bytes found
first-both kind bytes found seen = first-by kind bytes (is_byte2 60 45) found (λ b is. sign-both kind b is) seen

-- FROM SIGN TO SIGN

abbrev ends_at : RawKind → List ℕ → ℕ → List ℕ → Bool
ends_at kind name b rest = nat_eq b 0x3C && ends_at_tag kind && slash_name name rest

pub no-sign : (kind : RawKind) (name bytes : List ℕ) → ((k : ℕ) → k < length bytes → is_sign kind (slice_index bytes k) ≡ false)
    → goes_on_here kind name bytes ≡ ends_at_tag kind
no-sign kind name [] h = refl
no-sign kind name (b ∷ bs) h =
    plain-byte kind name b bs (h 0 (omega arith)) ∙ no-sign kind name bs (λ k within. h (suc k) (omega (arith, within)))

at-sign : (kind : RawKind) (name bytes : List ℕ) (at : ℕ) → at < length bytes
    → ((k : ℕ) → k < at → is_sign kind (slice_index bytes k) ≡ false)
    → goes_on_here kind name bytes ≡ (not (ends_at kind name (get_or bytes at 0) (drop (suc at) bytes))
    && goes_on_here (next_kind kind (get_or bytes at 0) (drop (suc at) bytes)) name (drop (suc at) bytes))
at-sign kind name [] at l h = absurd (omega arith)
at-sign kind name (b ∷ bs) zero l h = refl
at-sign kind name (b ∷ bs) (suc at) l h =
    plain-byte kind name b bs (h 0 (omega arith)) ∙ at-sign kind name bs at (omega arith) (λ k within. h (suc k) (omega (arith, within)))

ahead-first : (bs : List ℕ) (at : ℕ) → get_or (drop at bs) 0 0 ≡ get_or bs at 0
ahead-first [] zero = refl
ahead-first [] (suc at) = refl
ahead-first (b ∷ bs) zero = refl
ahead-first (b ∷ bs) (suc at) = ahead-first bs at

ahead-rest : (bs : List ℕ) (at : ℕ) → drop 1 (drop at bs) ≡ drop (suc at) bs
ahead-rest [] zero = refl
ahead-rest [] (suc at) = refl
ahead-rest (b ∷ bs) zero = refl
ahead-rest (b ∷ bs) (suc at) = ahead-rest bs at

to-end : (xs : List ℕ) (i : ℕ) → take (length xs - i) (drop i xs) ≡ drop i xs
to-end xs i = take_all (length xs - i) (drop i xs) (omega (arith, length-drop i xs))

-- what is cut off at a sign
abbrev ahead_of : List ℕ → ℕ → List ℕ
ahead_of bytes at = take (length bytes - at) (drop at bytes)

abbrev rest_of : List ℕ → ℕ → List ℕ
rest_of bytes at = take (length (ahead_of bytes at) - 1) (drop 1 (ahead_of bytes at))

first-is : (bytes : List ℕ) (at : ℕ) → get_or (ahead_of bytes at) 0 0 ≡ get_or bytes at 0
first-is bytes at = ap (λ (bs : List ℕ). get_or bs 0 0) (to-end bytes at) ∙ ahead-first bytes at

rest-is : (bytes : List ℕ) (at : ℕ) → rest_of bytes at ≡ drop (suc at) bytes
rest-is bytes at = to-end (ahead_of bytes at) 1 ∙ (ap (drop 1) (to-end bytes at) ∙ ahead-rest bytes at)

pub sign-ends : (kind : RawKind) (name bytes : List ℕ) (at : ℕ) (is : Bool) → IsFirstSign kind bytes (Some at)
    → is ≡ ends_at kind name (get_or (ahead_of bytes at) 0 0) (rest_of bytes at) → is ≡ true → goes_on_here kind name bytes ≡ false
sign-ends kind name bytes at is first e odd =
    let now : ends_at kind name (get_or bytes at 0) (drop (suc at) bytes) ≡ true =
    sym (e ∙ (ap (λ b. ends_at kind name b (rest_of bytes at)) (first-is bytes at)
    ∙ ap (ends_at kind name (get_or bytes at 0)) (rest-is bytes at))) ∙ odd in
    at-sign kind name bytes at first.0 first.1
    ∙ ap (λ b. not b && goes_on_here (next_kind kind (get_or bytes at 0) (drop (suc at) bytes)) name (drop (suc at) bytes)) now

pub sign-goes : (kind next : RawKind) (name bytes : List ℕ) (at : ℕ) (is : Bool) → IsFirstSign kind bytes (Some at)
    → is ≡ ends_at kind name (get_or (ahead_of bytes at) 0 0) (rest_of bytes at) → is ≡ false
    → next ≡ next_kind kind (get_or (ahead_of bytes at) 0 0) (rest_of bytes at)
    → goes_on_here kind name bytes ≡ goes_on_here next name (rest_of bytes at)
sign-goes kind next name bytes at is first e even follows =
    let now : ends_at kind name (get_or bytes at 0) (drop (suc at) bytes) ≡ false =
    sym (e ∙ (ap (λ b. ends_at kind name b (rest_of bytes at)) (first-is bytes at)
    ∙ ap (ends_at kind name (get_or bytes at 0)) (rest-is bytes at))) ∙ even in
    let then : next_kind kind (get_or bytes at 0) (drop (suc at) bytes) ≡ next =
    sym (follows ∙ (ap (λ b. next_kind kind b (rest_of bytes at)) (first-is bytes at)
    ∙ ap (next_kind kind (get_or bytes at 0)) (rest-is bytes at))) in
    at-sign kind name bytes at first.0 first.1
    ∙ (ap (λ b. not b && goes_on_here (next_kind kind (get_or bytes at 0) (drop (suc at) bytes)) name (drop (suc at) bytes)) now
    ∙ (ap (λ kind. goes_on_here kind name (drop (suc at) bytes)) then ∙ ap (goes_on_here next name) (sym (rest-is bytes at))))

-- A NAME, BYTE BY BYTE

pub name-turn : (w t : List ℕ) (i : ℕ) → i < length w → i < length t
    → begins_name (map to_ascii_lowercase (drop i w)) (drop i t)
    ≡ begins_by (nat_eq (to_ascii_lowercase (get_or w i 0)) (to_ascii_lowercase (get_or t i 0)))
    (λ _. begins_name (map to_ascii_lowercase (drop (suc i) w)) (drop (suc i) t))
name-turn [] t i l m = absurd (omega arith)
name-turn (x ∷ w) [] i l m = absurd (omega arith)
name-turn (x ∷ w) (c ∷ t) zero l m = refl
name-turn (x ∷ w) (c ∷ t) (suc i) l m = name-turn w t i (omega arith) (omega arith)

pub name-short : (w t : List ℕ) (i : ℕ) → i < length w → length t ≤ i
    → begins_name (map to_ascii_lowercase (drop i w)) (drop i t) ≡ false
name-short [] t i l h = absurd (omega arith)
name-short (x ∷ w) [] zero l h = refl
name-short (x ∷ w) (c ∷ t) zero l h = absurd (omega arith)
name-short (x ∷ w) [] (suc i) l h = name-none w i (omega arith)
  where
    name-none : (w : List ℕ) (i : ℕ) → i < length w → begins_name (map to_ascii_lowercase (drop i w)) [] ≡ false
    name-none [] i l = absurd (omega arith)
    name-none (x ∷ w) zero l = refl
    name-none (x ∷ w) (suc i) l = name-none w i (omega arith)
name-short (x ∷ w) (c ∷ t) (suc i) l h = name-short w t i (omega arith) (omega arith)

pub name-over : (w t : List ℕ) (i : ℕ) → length w ≤ i → begins_name (map to_ascii_lowercase (drop i w)) (drop i t) ≡ ends_name_at (drop i t)
name-over w t i h = rw (drop_all i w h) refl
