-- What the beginnings of words say of the characters that follow.
use Rattle.std.proofs.Common.{◌≡◌, ◌∙◌, ℕ, suc, ◌+◌, ◌≤◌, ◌<◌, length, Bool, true, false, ◌||◌, nat_eq, nat_lt, List, [], ◌∷◌}
use Rattle.std.proofs.Common.{◌++◌, get_or, take, slice_index_or, refl, sym, ap, arith, append_assoc, append-nil}
use Rattle.std.specs.Prelude.{◌&&◌, zip, codes, if◌then◌else◌, ◌==◌}
use Rattle.std.specs.Char.{to_ascii_lowercase, is_ascii_alphabetic}
use Rattle.std.specs.List.{list_all}
use Rattle.std.proofs.lemmas.Bool.{eqb-true}
use Rattle.std.proofs.lemmas.List.{take_more}
use Rattle.std.proofs.lemmas.Bool.Decides.{nat_tests}
use Rattle.html_tokens.specs.Characters.{shown, begins, begins_any_case, begins_by, is_white_space, ends_word}
use Rattle.html_tokens.specs.Comments.{bogus_comment_after}
use Rattle.html_tokens.specs.declared.token.Doctype.{Doctype}
use Rattle.html_tokens.specs.Doctypes.{junk_after}
use Rattle.html_tokens.specs.Item.{Stand, longer, longer_by}
use Rattle.html_tokenizer_parts.specs.declared.keyword.Word.{Word}
use Rattle.html_tokenizer_parts.specs.declared.keyword.Word.TheVariants as word
use Rattle.html_tokenizer_parts.specs.Keywords.{letter, spelling, is_any_case, has_front, is_spelt, is_begun, becomes}
use Rattle.html_tokenizer_parts.specs.Keywords.{may_become, IsPart, front_of}
use Rattle.html_tokenizer_parts.proofs.Words.{and_parts}

pub and_both : (a b : Bool) → a ≡ true → b ≡ true → (a && b) ≡ true
and_both a b e f = rw (e, f) refl

pub or_parts : (a b : Bool) → (a || b) ≡ false → (a ≡ false) × (b ≡ false)
or_parts true b h = absurd cc
or_parts false b h = (refl, h)

pub never : (a : Bool) → a ≡ true → a ≡ false → ⊥
never a e f = cc

and_false : (a : Bool) → (a && false) ≡ false
and_false true = refl
and_false false = refl

and_true : (a : Bool) → (a && true) ≡ a
and_true true = refl
and_true false = refl

and_fails : (a b c : Bool) → (b ≡ false → c ≡ false) → (a && b) ≡ false → (a && c) ≡ false
and_fails true b c k h = k h
and_fails false b c k h = refl

and_all_fail : (a b c d e : Bool) → (b ≡ false → c ≡ false → d ≡ false → e ≡ false) → (a && b) ≡ false
    → (a && c) ≡ false → (a && d) ≡ false → (a && e) ≡ false
and_all_fail true b c d e k f g h = k f g h
and_all_fail false b c d e k f g h = refl

-- BY INDEX

-- two lists agree as far as both go
abbrev pub agree : Bool → List ℕ → List ℕ → Bool
agree any ws cs = list_all {X = ℕ × ℕ} (λ p. nat_eq p.0 (letter any p.1)) (zip ws cs)

pub front-long : (any : Bool) (ws cs : List ℕ) (c : ℕ) → length ws ≤ length cs → has_front any ws (cs ++ c ∷ []) ≡ false
front-long any [] [] c h = refl
front-long any [] (x ∷ cs) c h = refl
front-long any (w ∷ ws) [] c h = absurd (omega arith)
front-long any (w ∷ ws) (x ∷ cs) c h = rw (front-long any ws cs c (omega arith)) (and_false (nat_eq w (letter any x)))

pub front-at : (any : Bool) (ws cs : List ℕ) (c d : ℕ) → length cs < length ws → agree any ws cs ≡ true
    → has_front any ws (cs ++ c ∷ []) ≡ nat_eq (slice_index_or ws (length cs) d) (letter any c)
front-at any [] cs c d l h = absurd (omega arith)
front-at any (w ∷ ws) [] c d l h = and_true (nat_eq w (letter any c))
front-at any (w ∷ ws) (x ∷ cs) c d l h =
    let p = and_parts (nat_eq w (letter any x)) (agree any ws cs) h in
    rw p.0 (front-at any ws cs c d (omega arith) p.1)

pub front-not : (any : Bool) (ws cs u : List ℕ) → agree any ws cs ≡ false → has_front any ws (cs ++ u) ≡ false
front-not any [] [] u h = absurd cc
front-not any [] (x ∷ cs) u h = refl
front-not any (w ∷ ws) [] u h = absurd cc
front-not any (w ∷ ws) (x ∷ cs) u h = and_fails (nat_eq w (letter any x)) (agree any ws cs)
    (has_front any ws (cs ++ u)) (front-not any ws cs u) h

pub length-one : (cs : List ℕ) (c : ℕ) → length (cs ++ c ∷ []) ≡ length cs + 1
length-one [] c = refl
length-one (x ∷ cs) c = let e : length (cs ++ c ∷ []) ≡ length cs + 1 = length-one cs c in omega arith

pub spelt-by : (any : Bool) (ws cs : List ℕ) → has_front any ws cs ≡ true → is_spelt any ws cs ≡ nat_eq (length cs) (length ws)
spelt-by any [] [] h = refl
spelt-by any [] (c ∷ cs) h = absurd cc
spelt-by any (w ∷ ws) [] h = grind (arith, nat_tests)
spelt-by any (w ∷ ws) (c ∷ cs) h =
    let p = and_parts (nat_eq w (letter any c)) (has_front any ws cs) h in
    rw (p.0, spelt-by any ws cs p.1) (same-suc (length cs) (length ws))
  where
    same-suc : (a b : ℕ) → nat_eq a b ≡ nat_eq (suc a) (suc b)
    same-suc a b = grind (arith, nat_tests)

pub begun-by : (any : Bool) (ws cs : List ℕ) → has_front any ws cs ≡ true → is_begun any ws cs ≡ nat_lt (length cs) (length ws)
begun-by any [] [] h = refl
begun-by any [] (c ∷ cs) h = absurd cc
begun-by any (w ∷ ws) [] h = grind (arith, nat_tests)
begun-by any (w ∷ ws) (c ∷ cs) h =
    let p = and_parts (nat_eq w (letter any c)) (has_front any ws cs) h in
    rw (p.0, begun-by any ws cs p.1) (less-suc (length cs) (length ws))
  where
    less-suc : (a b : ℕ) → nat_lt a b ≡ nat_lt (suc a) (suc b)
    less-suc a b = grind (arith, nat_tests)

pub spelt-not : (any : Bool) (ws cs : List ℕ) → has_front any ws cs ≡ false → is_spelt any ws cs ≡ false
spelt-not any [] [] h = absurd cc
spelt-not any [] (c ∷ cs) h = refl
spelt-not any (w ∷ ws) [] h = refl
spelt-not any (w ∷ ws) (c ∷ cs) h = and_fails (nat_eq w (letter any c)) (has_front any ws cs) (is_spelt any ws cs) (spelt-not any ws cs) h

pub begun-not : (any : Bool) (ws cs : List ℕ) → has_front any ws cs ≡ false → is_begun any ws cs ≡ false
begun-not any [] cs h = refl
begun-not any (w ∷ ws) [] h = absurd cc
begun-not any (w ∷ ws) (c ∷ cs) h = and_fails (nat_eq w (letter any c)) (has_front any ws cs) (is_begun any ws cs) (begun-not any ws cs) h

-- what a keyword's tests answer
pub leads-at : (any : Bool) (ws cs spelled : List ℕ) (c read found given : ℕ) → read ≡ length cs → spelled ≡ ws
    → found ≡ slice_index_or spelled read found → given ≡ letter any c → length cs < length ws
    → agree any ws cs ≡ true → nat_eq found given ≡ has_front any ws (cs ++ c ∷ [])
leads-at any ws cs spelled c read found given e f is g l h = ap (λ x. nat_eq x given) is
    ∙ rw (e, f, g) (sym (front-at any ws cs c found l h))

pub spelt-at : (any : Bool) (ws cs spelled : List ℕ) (c read : ℕ) → has_front any ws (cs ++ c ∷ []) ≡ true
    → read ≡ length cs → spelled ≡ ws → nat_eq (read + 1) (length spelled) ≡ is_spelt any ws (cs ++ c ∷ [])
spelt-at any ws cs spelled c read h e f =
    rw (e, f) (sym (spelt-by any ws (cs ++ c ∷ []) h ∙ ap (λ n. nat_eq n (length ws)) (length-one cs c)))

pub begun-at : (any : Bool) (ws cs spelled : List ℕ) (c read : ℕ) → has_front any ws (cs ++ c ∷ []) ≡ true
    → read ≡ length cs → spelled ≡ ws → nat_lt (read + 1) (length spelled) ≡ is_begun any ws (cs ++ c ∷ [])
begun-at any ws cs spelled c read h e f =
    rw (e, f) (sym (begun-by any ws (cs ++ c ∷ []) h ∙ ap (λ n. nat_lt n (length ws)) (length-one cs c)))

-- WHOLE WORDS

-- whether a text begins with a word
abbrev pub begins_in : Bool → List ℕ → List ℕ → Bool
begins_in true ws t = begins_any_case ws t
begins_in false ws t = begins ws t

begins_and : (a b : Bool) → begins_by a (λ _. b) ≡ (a && b)
begins_and true b = refl
begins_and false b = refl

begins-more : (any : Bool) (w c : ℕ) (ws t : List ℕ) → begins_in any (w ∷ ws) (c ∷ t) ≡ (nat_eq w (letter any c) && begins_in any ws t)
begins-more true w c ws t = begins_and (nat_eq w (to_ascii_lowercase c)) (begins_any_case ws t)
begins-more false w c ws t = begins_and (nat_eq w c) (begins ws t)

begins-nothing : (any : Bool) (w : ℕ) (ws : List ℕ) → begins_in any (w ∷ ws) [] ≡ false
begins-nothing true w ws = refl
begins-nothing false w ws = refl

begins-any : (any : Bool) (t : List ℕ) → begins_in any [] t ≡ true
begins-any true t = refl
begins-any false t = refl

-- the beginning of a word does not begin with the word
pub begun-open : (any : Bool) (ws cs : List ℕ) → is_begun any ws cs ≡ true → begins_in any ws cs ≡ false
begun-open any [] cs h = absurd cc
begun-open any (w ∷ ws) [] h = begins-nothing any w ws
begun-open any (w ∷ ws) (c ∷ cs) h =
    let p = and_parts _ _ h in
    begins-more any w c ws cs ∙ rw (begun-open any ws cs p.1) (and_false (nat_eq w (letter any c)))

-- a text that goes on where neither the word nor its beginning does
stops : (any : Bool) (ws cs : List ℕ) (c : ℕ) (t : List ℕ) → begins_in any ws cs ≡ false
    → is_spelt any ws (cs ++ c ∷ []) ≡ false → is_begun any ws (cs ++ c ∷ []) ≡ false → begins_in any ws (cs ++ c ∷ t) ≡ false
stops any [] cs c t e f g = absurd (never (begins_in any [] cs) (begins-any any cs) e)
stops any (w ∷ []) [] c t e f g = begins-more any w c [] t ∙ and_fails (nat_eq w (letter any c)) true
    (begins_in any [] t) (λ h. absurd cc) f
stops any (w ∷ v ∷ ws) [] c t e f g = begins-more any w c (v ∷ ws) t ∙ and_fails (nat_eq w (letter any c)) true
    (begins_in any (v ∷ ws) t) (λ h. absurd cc) g
stops any (w ∷ ws) (x ∷ cs) c t e f g = begins-more any w x ws (cs ++ c ∷ t)
    ∙ and_all_fail (nat_eq w (letter any x)) (begins_in any ws cs) (is_spelt any ws (cs ++ c ∷ []))
    (is_begun any ws (cs ++ c ∷ [])) (begins_in any ws (cs ++ c ∷ t)) (stops any ws cs c t) (sym (begins-more any w x ws cs) ∙ e) f g

pub spelt-begins : (any : Bool) (ws cs t : List ℕ) → is_spelt any ws cs ≡ true → begins_in any ws (cs ++ t) ≡ true
spelt-begins any [] [] t h = begins-any any t
spelt-begins any [] (c ∷ cs) t h = absurd cc
spelt-begins any (w ∷ ws) [] t h = absurd cc
spelt-begins any (w ∷ ws) (c ∷ cs) t h =
    let p = and_parts _ _ h in
    begins-more any w c ws (cs ++ t) ∙ and_both (nat_eq w (letter any c)) (begins_in any ws (cs ++ t)) p.0 (spelt-begins any ws cs t p.1)

pub spelt-length : (any : Bool) (ws cs : List ℕ) → is_spelt any ws cs ≡ true → length cs ≡ length ws
spelt-length any [] [] h = refl
spelt-length any [] (c ∷ cs) h = absurd cc
spelt-length any (w ∷ ws) [] h = absurd cc
spelt-length any (w ∷ ws) (c ∷ cs) h = ap suc (spelt-length any ws cs (and_parts _ _ h).1)

-- THE WORDS

abbrev pub begins_word : Word → List ℕ → Bool
begins_word word t = begins_in (is_any_case word) (spelling word) t

abbrev pub first : Word → ℕ
first word.Dashes = 45
first word.Doctype = 100
first word.Cdata = 91
first word.Public = 112
first word.System = 115

abbrev pub others : Word → List ℕ
others word.Dashes = codes "-"
others word.Doctype = codes "octype"
others word.Cdata = codes "CDATA["
others word.Public = codes "ublic"
others word.System = codes "ystem"

abbrev word_at : ℕ → Word
word_at c =
    if nat_eq c 45 then word.Dashes
    else if nat_eq c 100 then word.Doctype
    else if nat_eq c 91 then word.Cdata
    else if nat_eq c 112 then word.Public
    else word.System

spelling-parts : (w : Word) → spelling w ≡ first w ∷ others w
spelling-parts word.Dashes = refl
spelling-parts word.Doctype = refl
spelling-parts word.Cdata = refl
spelling-parts word.Public = refl
spelling-parts word.System = refl

first-lowered : (w : Word) → to_ascii_lowercase (first w) ≡ first w
first-lowered word.Dashes = refl
first-lowered word.Doctype = refl
first-lowered word.Cdata = refl
first-lowered word.Public = refl
first-lowered word.System = refl

word-first : (w : Word) → word_at (first w) ≡ w
word-first word.Dashes = refl
word-first word.Doctype = refl
word-first word.Cdata = refl
word-first word.Public = refl
word-first word.System = refl

same-word : (v w : Word) → nat_eq (first v) (first w) ≡ true → v ≡ w
same-word v w e = sym (word-first v) ∙ ap word_at (eqb-true (first v) (first w) e) ∙ word-first w

apart-letters : (any any' : Bool) (a w x : ℕ) → to_ascii_lowercase a ≡ a → to_ascii_lowercase w ≡ w
    → nat_eq a w ≡ false → nat_eq a (letter any x) ≡ true → nat_eq w (letter any' x) ≡ false
apart-letters true true a w x k l e h = grind (arith, nat_tests)
apart-letters true false a w x k l e h = grind (arith, nat_tests)
apart-letters false true a w x k l e h = grind (arith, nat_tests)
apart-letters false false a w x k l e h = grind (arith, nat_tests)

begun-apart : (any any' : Bool) (a w : ℕ) (vs ws cs : List ℕ) → to_ascii_lowercase a ≡ a → to_ascii_lowercase w ≡ w
    → nat_eq a w ≡ false → is_begun any (a ∷ vs) cs ≡ true → begins_in any' (w ∷ ws) cs ≡ false
begun-apart any any' a w vs ws [] k l e h = begins-nothing any' w ws
begun-apart any any' a w vs ws (x ∷ cs) k l e h =
    begins-more any' w x ws cs ∙ ap (λ b. b && begins_in any' ws cs)
    (apart-letters any any' a w x k l e (and_parts (nat_eq a (letter any x)) (is_begun any vs cs) h).0)

spelt-apart : (any any' : Bool) (a w : ℕ) (vs ws cs t : List ℕ) → to_ascii_lowercase a ≡ a
    → to_ascii_lowercase w ≡ w → nat_eq a w ≡ false → is_spelt any (a ∷ vs) cs ≡ true → begins_in any' (w ∷ ws) (cs ++ t) ≡ false
spelt-apart any any' a w vs ws [] t k l e h = absurd cc
spelt-apart any any' a w vs ws (x ∷ cs) t k l e h =
    begins-more any' w x ws (cs ++ t) ∙ ap (λ b. b && begins_in any' ws (cs ++ t))
    (apart-letters any any' a w x k l e (and_parts (nat_eq a (letter any x)) (is_spelt any vs cs) h).0)

open-by : (v w : Word) (cs : List ℕ) (same : Bool) → nat_eq (first v) (first w) ≡ same → may_become v cs ≡ true → begins_word w cs ≡ false
open-by v w cs true e h = rw (← same-word v w e) (begun-open (is_any_case v) (spelling v) cs h)
open-by v w cs false e h =
    let h' : is_begun (is_any_case v) (first v ∷ others v) cs ≡ true = rw (spelling-parts v) at h in
    rw (spelling-parts w) (begun-apart (is_any_case v) (is_any_case w) (first v) (first w) (others v) (others w) cs
    (first-lowered v) (first-lowered w) e h')

-- the beginning of a word begins with no word
pub part-open : (cs : List ℕ) → IsPart cs → (w : Word) → begins_word w cs ≡ false
part-open cs part w = open-by part.word w cs (nat_eq (first part.word) (first w)) refl part.begun

-- a text that begins with a word begins with no other
pub word-apart : (v w : Word) (cs t : List ℕ) → nat_eq (first v) (first w) ≡ false → becomes v cs ≡ true → begins_word w (cs ++ t) ≡ false
word-apart v w cs t e h =
    let h' : is_spelt (is_any_case v) (first v ∷ others v) cs ≡ true = rw (spelling-parts v) at h in
    rw (spelling-parts w) (spelt-apart (is_any_case v) (is_any_case w) (first v) (first w) (others v)
    (others w) cs t (first-lowered v) (first-lowered w) e h')

-- what does not go on with a word does not begin with it
pub word-stops : (w : Word) (cs : List ℕ) (c : ℕ) (t : List ℕ) → IsPart cs → becomes w (cs ++ c ∷ []) ≡ false
    → may_become w (cs ++ c ∷ []) ≡ false → begins_word w (cs ++ c ∷ t) ≡ false
word-stops w cs c t part e f = stops (is_any_case w) (spelling w) cs c t (part-open cs part w) e f

-- THEIR CHARACTERS

-- a letter, "-" or "["
abbrev pub is_plain : ℕ → Bool
is_plain c = is_ascii_alphabetic c || nat_eq c 45 || nat_eq c 91

letter-plain : (any : Bool) (w c : ℕ) → is_plain w ≡ true → nat_eq w (letter any c) ≡ true → is_plain c ≡ true
letter-plain true w c h e = grind (arith, nat_tests)
letter-plain false w c h e = grind (arith, nat_tests)

begun-plain : (any : Bool) (ws cs : List ℕ) → list_all is_plain ws ≡ true → is_begun any ws cs ≡ true → list_all is_plain cs ≡ true
begun-plain any [] cs h e = absurd cc
begun-plain any (w ∷ ws) [] h e = refl
begun-plain any (w ∷ ws) (c ∷ cs) h e =
    let p = and_parts (is_plain w) (list_all is_plain ws) h in
    let q = and_parts (nat_eq w (letter any c)) (is_begun any ws cs) e in
    and_both (is_plain c) (list_all is_plain cs) (letter-plain any w c p.0 q.0) (begun-plain any ws cs p.1 q.1)

spelt-plain : (any : Bool) (ws cs : List ℕ) → list_all is_plain ws ≡ true → is_spelt any ws cs ≡ true → list_all is_plain cs ≡ true
spelt-plain any [] [] h e = refl
spelt-plain any [] (c ∷ cs) h e = absurd cc
spelt-plain any (w ∷ ws) [] h e = absurd cc
spelt-plain any (w ∷ ws) (c ∷ cs) h e =
    let p = and_parts (is_plain w) (list_all is_plain ws) h in
    let q = and_parts (nat_eq w (letter any c)) (is_spelt any ws cs) e in
    and_both (is_plain c) (list_all is_plain cs) (letter-plain any w c p.0 q.0) (spelt-plain any ws cs p.1 q.1)

spelling-plain : (w : Word) → list_all is_plain (spelling w) ≡ true
spelling-plain word.Dashes = refl
spelling-plain word.Doctype = refl
spelling-plain word.Cdata = refl
spelling-plain word.Public = refl
spelling-plain word.System = refl

pub part-plain : (cs : List ℕ) → IsPart cs → list_all is_plain cs ≡ true
part-plain cs part = begun-plain (is_any_case part.word) (spelling part.word) cs (spelling-plain part.word) part.begun

pub word-plain : (w : Word) (cs : List ℕ) → becomes w cs ≡ true → list_all is_plain cs ≡ true
word-plain w cs h = spelt-plain (is_any_case w) (spelling w) cs (spelling-plain w) h

pub last-plain : (cs : List ℕ) (c : ℕ) → list_all is_plain (cs ++ c ∷ []) ≡ true → is_plain c ≡ true
last-plain [] c h = (and_parts (is_plain c) true h).0
last-plain (x ∷ cs) c h = last-plain cs c (and_parts (is_plain x) (list_all is_plain (cs ++ c ∷ [])) h).1

pub plain-break : (c : ℕ) → is_plain c ≡ true → nat_eq c 10 ≡ false
plain-break c h = grind (arith, nat_tests)

pub plain-mark : (c : ℕ) → is_plain c ≡ true → nat_eq c 62 ≡ false
plain-mark c h = grind (arith, nat_tests)

pub plain-shown : (c : ℕ) → is_plain c ≡ true → shown c ≡ c
plain-shown c h = let e : nat_eq c 0 ≡ false = grind (arith, nat_tests) in rw e refl

pub plain-white : (c : ℕ) → is_plain c ≡ true → is_white_space c ≡ false
plain-white c h = grind (arith, nat_tests)

-- ITEMS

bogus-step : (st : Stand) (front : List ℕ) (c : ℕ) (t : List ℕ) → nat_eq c 62 ≡ false → shown c ≡ c
    → bogus_comment_after st front (c ∷ t) ≡ longer (bogus_comment_after st (front ++ c ∷ []) t)
bogus-step st front c t e f = rw e (ap (λ x. longer (bogus_comment_after st (front ++ x ∷ []) t)) f)

-- what was read of a word is the front of a bogus comment
pub bogus-behind : (st : Stand) (front cs t : List ℕ) → list_all is_plain cs ≡ true → bogus_comment_after st front
    (cs ++ t) ≡ longer_by (length cs) (bogus_comment_after st (front ++ cs) t)
bogus-behind st front [] t h = rw append-nil refl
bogus-behind st front (c ∷ cs) t h =
    let p = and_parts (is_plain c) (list_all is_plain cs) h in
    bogus-step st front c (cs ++ t) (plain-mark c p.0) (plain-shown c p.0)
    ∙ ap longer (bogus-behind st (front ++ c ∷ []) cs t p.1
    ∙ ap (λ x. longer_by (length cs) (bogus_comment_after st x t)) (append_assoc front (c ∷ []) cs))

-- and is dropped in a doctype
pub junk-behind : (st : Stand) (d : Doctype) (cs t : List ℕ) → list_all is_plain cs ≡ true
    → junk_after st d (cs ++ t) ≡ longer_by (length cs) (junk_after st d t)
junk-behind st d [] t h = refl
junk-behind st d (c ∷ cs) t h =
    let p = and_parts (is_plain c) (list_all is_plain cs) h in
    rw (plain-mark c p.0) (ap longer (junk-behind st d cs t p.1))

pub word-other : (c : ℕ) → is_white_space c ≡ false → nat_eq c 62 ≡ false → ends_word c ≡ false
word-other c e f = rw (e, f) refl

-- WHERE A KEYWORD BEGINS

pub begun-part : (x : ℕ) (cs : List ℕ) → list_all is_plain (x ∷ cs) ≡ true → ends_word x ≡ false
begun-part x cs h =
    let p : is_plain x ≡ true = (and_parts (is_plain x) (list_all is_plain cs) h).0 in
    word-other x (plain-white x p) (plain-mark x p)

pub front-empty : (cs : List ℕ) (c : ℕ) → (length cs == 0) ≡ true → ends_word c ≡ ends_word (front_of cs c)
front-empty [] c h = refl
front-empty (x ∷ cs) c h = let e : length (x ∷ cs) ≡ 0 = eqb-true (length (x ∷ cs)) 0 h in absurd (omega arith)

pub front-part : (cs : List ℕ) (c : ℕ) → IsPart cs → (length cs == 0) ≡ false → ends_word (front_of cs c) ≡ false
front-part [] c part h = absurd cc
front-part (x ∷ cs) c part h = begun-part x cs (part-plain (x ∷ cs) part)

-- a text of one character more of those that were read
pub text-more : (items text new : List ℕ) (k c : ℕ) → k < length items → c ≡ get_or items k c → text ≡ take k items
    → new ≡ text ++ c ∷ [] → new ≡ take (k + 1) items
text-more items text new k c within is so_far pushed = pushed ∙ ap (λ t. t ++ c ∷ []) so_far
    ∙ ap (λ x. take k items ++ x ∷ []) is ∙ sym (take_more items k c within)
