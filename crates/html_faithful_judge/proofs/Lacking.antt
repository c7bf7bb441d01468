-- Texts without a character of ASCII, which a search for its byte tells.
use lib.Utf8.{encode, encodes}
use Rattle.std.proofs.Common.{◌≡◌, ◌<◌, ◌+◌, ◌∙◌, ℕ, Bool, true, false, List, [], ◌∷◌, ◌++◌, Option, Some, None, length, arith}
use Rattle.std.proofs.Common.{subst, refl, sym}
use Rattle.std.specs.Option.{is_some}
use Rattle.std.specs.Prelude.{◌&&◌, ◌||◌, codes, if◌then◌else◌, is_none, nat_eq, not}
use Rattle.std.specs.Str.{IsUtf8, chars}
use Rattle.std.proofs.lemmas.Bool.{and_parts}
use Rattle.std.proofs.lemmas.Bool.Decides.{nat_tests}
use Rattle.std.proofs.lemmas.List.{get_or-append-add, length-append}
use Rattle.std.proofs.lemmas.Str.{encode_ascii, encodes-chars, length-encode, len_utf8_bounds}
use Rattle.memchr.specs.Find.{IsFirstByte, Passes, is_byte}
use Rattle.html_tokens.specs.Comments.{comment_end}
use Rattle.html_tokens.specs.Characters.{begins, begins_by}
use Rattle.html_faithful.specs.Forms.{has_no_end, is_comment_text, is_kept}
use Rattle.html_faithful_judge.specs.Texts.{lacks}

is-byte : (a c : ℕ) → nat_eq c a ≡ true → is_byte a c ≡ true
is-byte a c h = grind (arith, nat_tests, h)

is-low : (a c : ℕ) → a < 128 → nat_eq c a ≡ true → c < 128
is-low a c l h = grind (arith, nat_tests, l, h)

-- where no byte is that character, none of the characters is
lacks-by : (a : ℕ) → a < 128 → (cs : List ℕ) → ((k : ℕ) → k < length (encodes cs) → ¬ Passes (is_byte a) (encodes cs) k)
    → lacks a cs ≡ true
lacks-by a l [] none = refl
lacks-by a l (c ∷ cs) none = by (nat_eq c a) refl (lacks-by a l cs rest)
  where
    size : length (encodes (c ∷ cs)) ≡ length (encode c) + length (encodes cs)
    size = length-append (encode c) (encodes cs)

    rest : (k : ℕ) → k < length (encodes cs) → ¬ Passes (is_byte a) (encodes cs) k
    rest k within is = none (length (encode c) + k) (omega (arith, within, size))
        (subst (λ (b : ℕ). is_byte a b ≡ true) (sym (get_or-append-add (encode c) (encodes cs) k 0)) is)

    first : nat_eq c a ≡ true → Passes (is_byte a) (encodes (c ∷ cs)) 0
    first h = rw (encode_ascii c (is-low a c l h)) (is-byte a c h)

    by : (b : Bool) → nat_eq c a ≡ b → lacks a cs ≡ true → lacks a (c ∷ cs) ≡ true
    by false e others = rw e others
    by true e others = absurd (none 0 (omega (arith, size, length-encode c, (len_utf8_bounds c).0)) (first e))

pub search-lacks : (a : ℕ) (bs : List ℕ) (found : Option ℕ) → a < 128 → IsUtf8 bs → IsFirstByte (is_byte a) bs found
    → (none : Bool) → is_some found ≡ not none → none ≡ true → lacks a (chars bs) ≡ true
search-lacks a bs None l text search none is h =
    let same = encodes-chars bs text in
    lacks-by a l (chars bs)
    (λ k within is. search k (omega arith) (subst (λ (xs : List ℕ). k < length xs) same within)
    (subst (λ (xs : List ℕ). Passes (is_byte a) xs k) same is))
search-lacks a bs (Some k) l text search true is h = absurd cc
search-lacks a bs (Some k) l text search false is h = absurd cc

-- COMMENTS

is-not : (b : Bool) → not b ≡ true → b ≡ false
is-not false h = refl
is-not true h = absurd cc

none-by : (a b c d e : Bool) → c ≡ false → (d && e) ≡ false
    → is_none {T = ℕ} (if (a && b) && c then Some 3 else if ((a && b) && d) && e then Some 4 else None) ≡ true
none-by true true false true false h k = refl
none-by true true false false e h k = refl
none-by false b false d e h k = refl
none-by true false false d e h k = refl
none-by a b true d e h k = absurd cc
none-by true true false true true h k = absurd cc

and-false : (d e : Bool) → e ≡ false → (d && e) ≡ false
and-false true false h = refl
and-false false false h = refl
and-false d true h = absurd cc

none-here : (c : ℕ) (cs : List ℕ) → lacks 62 cs ≡ true → is_none (comment_end ((c ∷ cs) ++ codes "-->")) ≡ true
none-here c [] h = none-by (nat_eq c 45) true false false true refl refl
none-here c (d ∷ []) h = none-by (nat_eq c 45) (nat_eq d 45) false false false refl refl
none-here c (d ∷ e ∷ []) h =
    let rest = (and_parts (not (nat_eq d 62)) (lacks 62 (e ∷ [])) h).1 in
    let third = is-not (nat_eq e 62) (and_parts (not (nat_eq e 62)) true rest).0 in
    none-by (nat_eq c 45) (nat_eq d 45) (nat_eq e 62) (nat_eq e 33) false third (and-false (nat_eq e 33) false refl)
none-here c (d ∷ e ∷ f ∷ cs) h =
    let rest = (and_parts (not (nat_eq d 62)) (lacks 62 (e ∷ f ∷ cs)) h).1 in
    let parts = and_parts (not (nat_eq e 62)) (lacks 62 (f ∷ cs)) rest in
    let fourth = (and_parts (not (nat_eq f 62)) (lacks 62 cs) parts.1).0 in
    none-by (nat_eq c 45) (nat_eq d 45) (nat_eq e 62) (nat_eq e 33) (nat_eq f 62) (is-not (nat_eq e 62) parts.0)
    (and-false (nat_eq e 33) (nat_eq f 62) (is-not (nat_eq f 62) fourth))

none-in : (text : List ℕ) → lacks 62 text ≡ true → has_no_end text ≡ true
none-in [] h = refl
none-in (c ∷ cs) h =
    let rest = (and_parts (not (nat_eq c 62)) (lacks 62 cs) h).1 in
    rw (none-here c cs rest) (none-in cs rest)

-- nor does it end where it begins
same-by : (a b : ℕ) → nat_eq b a ≡ false → nat_eq a b ≡ false
same-by a b h = grind (arith, nat_tests, h)

begins-so : (text : List ℕ) → lacks 62 text ≡ true
    → (begins (codes ">") (text ++ codes "-->") || begins (codes "->") (text ++ codes "-->")) ≡ false
begins-so [] h = refl
begins-so (c ∷ []) h =
    let first = is-not (nat_eq c 62) (and_parts (not (nat_eq c 62)) true h).0 in
    rw (same-by 62 c first) (by (nat_eq 45 c))
  where
    by : (b : Bool) → begins_by b (λ _. false) ≡ false
    by true = refl
    by false = refl
begins-so (c ∷ d ∷ cs) h =
    let parts = and_parts (not (nat_eq c 62)) (lacks 62 (d ∷ cs)) h in
    let second = is-not (nat_eq d 62) (and_parts (not (nat_eq d 62)) (lacks 62 cs) parts.1).0 in
    rw (same-by 62 c (is-not (nat_eq c 62) parts.0), same-by 62 d second) (by (nat_eq 45 c))
  where
    by : (b : Bool) → begins_by b (λ _. false) ≡ false
    by true = refl
    by false = refl

-- so a comment without `>` ends nowhere before its end
pub with-kept : (text : List ℕ) (kept : Bool) → kept ≡ is_kept text → kept ≡ true → lacks 62 text ≡ true → true ≡ is_comment_text text
with-kept text kept is h lacking =
    sym (rw (sym is ∙ h, none-in text lacking, begins-so text lacking) refl)
