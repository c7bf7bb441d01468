-- How the kind of raw text goes on, and where its end tag stands.
use Rattle.std.proofs.Common.{◌≡◌, ◌∙◌, ℕ, suc, length, sym, Bool, true, false, nat_eq, List, [], ◌∷◌, ◌++◌, map, Option, Some}
use Rattle.std.proofs.Common.{None, refl, ap, arith, append_assoc, inl, inr}
use Rattle.std.specs.Prelude.{◌⊎◌, ◌&&◌, nat_lt, slice_index, codes, if◌then◌else◌}
use Rattle.std.specs.Char.{to_ascii_lowercase, is_ascii_alphabetic}
use Rattle.std.specs.List.{list_all}
use Rattle.std.specs.Str.{IsUtf8, chars}
use Rattle.std.proofs.lemmas.Bool.{lt-ltb}
use Rattle.std.proofs.lemmas.Bool.Decides.{nat_tests}
use Rattle.html_tokens.specs.declared.states.RawKind.{RawKind}
use Rattle.html_tokens.specs.declared.states.RawKind.TheVariants.{Rcdata, Rawtext, ScriptData, ScriptDataEscaped}
use Rattle.html_tokens.specs.declared.states.ScriptEscapeKind.{ScriptEscapeKind}
use Rattle.html_tokens.specs.declared.states.ScriptEscapeKind.TheVariants.{Escaped, DoubleEscaped}
use Rattle.html_tokens.specs.Characters.{ends_tag_name, begins_by, begins_name}
use Rattle.html_tokens.specs.RawText.{is_letters, is_fitting_end, ends_at_tag, next_kind}
use Rattle.html_tokenizer_parts.proofs.Words.{and_parts, letters-bytes}
use Rattle.html_tokenizer_parts.specs.Words.{has_next, same_any_case, ends_raw_text, ends_script, may_escape, kind_after}

pub and-none : (a : Bool) → (a && false) ≡ false
and-none true = refl
and-none false = refl

-- a letter is none of the characters that matter to raw text
pub letter-no_open : (c : ℕ) → is_ascii_alphabetic c ≡ true → nat_eq c 60 ≡ false
letter-no_open c h = grind (arith, nat_tests)

pub letter-no_reference : (c : ℕ) → is_ascii_alphabetic c ≡ true → nat_eq c 38 ≡ false
letter-no_reference c h = grind (arith, nat_tests)

pub letter-no_dash : (c : ℕ) → is_ascii_alphabetic c ≡ true → nat_eq c 45 ≡ false
letter-no_dash c h = grind (arith, nat_tests)

pub letter-no_null : (c : ℕ) → is_ascii_alphabetic c ≡ true → nat_eq c 0 ≡ false
letter-no_null c h = grind (arith, nat_tests)

pub letter-no_break : (c : ℕ) → is_ascii_alphabetic c ≡ true → nat_eq c 10 ≡ false
letter-no_break c h = grind (arith, nat_tests)

pub letter-no_slash : (c : ℕ) → is_ascii_alphabetic c ≡ true → nat_eq c 47 ≡ false
letter-no_slash c h = grind (arith, nat_tests)

pub letter-no_end : (c : ℕ) → is_ascii_alphabetic c ≡ true → ends_tag_name c ≡ false
letter-no_end c h = grind (arith, nat_tests)

pub end-no_letter : (c : ℕ) → ends_tag_name c ≡ true → is_ascii_alphabetic c ≡ false
end-no_letter c h = grind (arith, nat_tests)

-- a letter's lower case is that of letters only
apart : (n c : ℕ) → is_ascii_alphabetic n ≡ true → is_ascii_alphabetic c ≡ false → nat_eq (to_ascii_lowercase n)
    (to_ascii_lowercase c) ≡ false
apart n c h e = grind (arith, nat_tests)

letter-of : (c d : ℕ) → is_ascii_alphabetic d ≡ true → nat_eq (to_ascii_lowercase c) (to_ascii_lowercase d) ≡ true
    → is_ascii_alphabetic c ≡ true
letter-of c d h e = grind (arith, nat_tests)

lower-slash : (c : ℕ) → nat_eq c 47 ≡ false → nat_eq 47 (to_ascii_lowercase c) ≡ false
lower-slash c e = grind (arith, nat_tests)

pub other-way : (c d : ℕ) → nat_eq c d ≡ false → nat_eq d c ≡ false
other-way c d e = grind (arith, nat_tests)

-- a character but "<" and "-" leaves the kind
pub kind-same : (kind : RawKind) (c : ℕ) (t : List ℕ) → nat_eq c 60 ≡ false → nat_eq c 45 ≡ false → next_kind kind c t ≡ kind
kind-same Rcdata c t e f = refl
kind-same Rawtext c t e f = refl
kind-same ScriptData c t e f = rw e refl
kind-same (ScriptDataEscaped Escaped) c t e f = rw (e, f) refl
kind-same (ScriptDataEscaped DoubleEscaped) c t e f = rw (e, f) refl

-- "-" leaves it where the text is not escaped
pub kind-dash : (kind : RawKind) (t : List ℕ) → ((escape : ScriptEscapeKind) → kind ≡ ScriptDataEscaped escape → ⊥)
    → next_kind kind 45 t ≡ kind
kind-dash Rcdata t h = refl
kind-dash Rawtext t h = refl
kind-dash ScriptData t h = refl
kind-dash (ScriptDataEscaped escape) t h = absurd (h escape refl)

-- one character more of a front
pub kind_after-more : (kind : RawKind) (front : List ℕ) (c : ℕ) (t : List ℕ)
    → kind_after kind (front ++ c ∷ []) t ≡ next_kind (kind_after kind front (c ∷ t)) c t
kind_after-more kind [] c t = refl
kind_after-more kind (d ∷ front) c t =
    ap (λ u. kind_after (next_kind kind d u) (front ++ c ∷ []) t) (append_assoc front (c ∷ []) t)
    ∙ kind_after-more (next_kind kind d (front ++ c ∷ t)) front c t

-- letters leave it
pub kind_after-letters : (kind : RawKind) (word t : List ℕ) → list_all is_ascii_alphabetic word ≡ true → kind_after kind word t ≡ kind
kind_after-letters kind [] t h = refl
kind_after-letters kind (c ∷ word) t h =
    let p = and_parts _ _ h in
    ap (λ k. kind_after k word t) (kind-same kind c (word ++ t) (letter-no_open c p.0) (letter-no_dash c p.0))
    ∙ kind_after-letters kind word t p.1

-- "<" leaves it where no escape may begin
pub kind-open : (kind : RawKind) (c : ℕ) (t : List ℕ) → may_escape kind c ≡ false → next_kind kind 60 (c ∷ t) ≡ kind
kind-open Rcdata c t e = refl
kind-open Rawtext c t e = refl
kind-open ScriptData c t e = rw (other-way c 33 e) refl
kind-open (ScriptDataEscaped Escaped) c t e = rw (apart 115 c refl e) refl
kind-open (ScriptDataEscaped DoubleEscaped) c t e = rw (lower-slash c e) refl

-- "</" leaves it where it begins the fitting end tag
pub kind-open_slash : (kind : RawKind) (t : List ℕ) → ends_at_tag kind ≡ true → next_kind kind 60 (47 ∷ t) ≡ kind
kind-open_slash Rcdata t e = refl
kind-open_slash Rawtext t e = refl
kind-open_slash ScriptData t e = refl
kind-open_slash (ScriptDataEscaped Escaped) t e = refl
kind-open_slash (ScriptDataEscaped DoubleEscaped) t e = absurd cc

-- and where no letter follows
pub kind-no_name : (kind : RawKind) (c : ℕ) (t : List ℕ) → is_ascii_alphabetic c ≡ false → next_kind kind 60 (47 ∷ c ∷ t) ≡ kind
kind-no_name Rcdata c t e = refl
kind-no_name Rawtext c t e = refl
kind-no_name ScriptData c t e = refl
kind-no_name (ScriptDataEscaped Escaped) c t e = refl
kind-no_name (ScriptDataEscaped DoubleEscaped) c t e = rw (apart 115 c refl e) refl

-- the same where one of both is so
pub kind-slash : (kind : RawKind) (c : ℕ) (t : List ℕ) → (is_ascii_alphabetic c ≡ false) ⊎ (ends_at_tag kind ≡ true)
    → next_kind kind 60 (47 ∷ c ∷ t) ≡ kind
kind-slash kind c t (inl e) = kind-no_name kind c t e
kind-slash kind c t (inr e) = kind-open_slash kind (c ∷ t) e

pub double_escaped : (kind : RawKind) → ends_at_tag kind ≡ false → kind ≡ ScriptDataEscaped DoubleEscaped
double_escaped (ScriptDataEscaped DoubleEscaped) e = refl
double_escaped (ScriptDataEscaped Escaped) e = absurd cc
double_escaped Rcdata e = absurd cc
double_escaped Rawtext e = absurd cc
double_escaped ScriptData e = absurd cc

begins-none : (letter all : Bool) (n c : ℕ) (go : Unit {0} → Bool) → is_ascii_alphabetic n ≡ letter
    → is_ascii_alphabetic c ≡ false → ((letter && all) && begins_by (nat_eq (to_ascii_lowercase n) (to_ascii_lowercase c)) go) ≡ false
begins-none true all n c go h e = rw (apart n c h e) (and-none all)
begins-none false all n c go h e = refl

begins-both : (same : Bool) (n a : ℕ) (name word : List ℕ) (c : ℕ) (t : List ℕ) → nat_eq (to_ascii_lowercase n)
    (to_ascii_lowercase a) ≡ same → is_ascii_alphabetic a ≡ true
    → (list_all is_ascii_alphabetic name && begins_name (map to_ascii_lowercase name) (word ++ c ∷ t)) ≡
    (same_any_case name word && ends_tag_name c)
    → ((is_ascii_alphabetic n && list_all is_ascii_alphabetic name)
    && begins_by same (λ _. begins_name (map to_ascii_lowercase name) (word ++ c ∷ t))) ≡
    ((same && same_any_case name word) && ends_tag_name c)
begins-both true n a name word c t e h ih = rw (letter-of n a h e) ih
begins-both false n a name word c t e h ih = and-none _

chosen : (b : Bool) (x y : ScriptEscapeKind) → (if b then ScriptDataEscaped x else ScriptDataEscaped y) ≡
    ScriptDataEscaped (if b then x else y)
chosen true x y = refl
chosen false x y = refl

-- a name after "</" fits if the word there is the same in any case, and something ends it
pub begins-word : (name word : List ℕ) (c : ℕ) (t : List ℕ) → list_all is_ascii_alphabetic word ≡ true → is_ascii_alphabetic c ≡ false
    → (list_all is_ascii_alphabetic name && begins_name (map to_ascii_lowercase name) (word ++ c ∷ t)) ≡
    (same_any_case name word && ends_tag_name c)
begins-word [] [] c t h e = refl
begins-word [] (a ∷ word) c t h e = letter-no_end a (and_parts _ _ h).0
begins-word (n ∷ name) [] c t h e = begins-none (is_ascii_alphabetic n) (list_all is_ascii_alphabetic name) n c _ refl e
begins-word (n ∷ name) (a ∷ word) c t h e =
    let p = and_parts _ _ h in
    begins-both (nat_eq (to_ascii_lowercase n) (to_ascii_lowercase a)) n a name word c t refl p.0 (begins-word name word c t p.1 e)

-- without the fitting end tag there "<" is text
pub fitting-slash : (last : Option (List ℕ)) (c : ℕ) (t : List ℕ) → nat_eq c 47 ≡ false → is_fitting_end last (c ∷ t) ≡ false
fitting-slash None c t e = refl
fitting-slash (Some name) c t e = rw e (and-none (is_letters name))

pub fitting-word : (last : Option (List ℕ)) (word : List ℕ) (c : ℕ) (t : List ℕ)
    → list_all is_ascii_alphabetic word ≡ true → is_ascii_alphabetic c ≡ false
    → is_fitting_end last (47 ∷ (word ++ c ∷ t)) ≡ ends_raw_text last word c
fitting-word None word c t h e = refl
fitting-word (Some []) [] c t h e = refl
fitting-word (Some []) (a ∷ word) c t h e = refl
fitting-word (Some (n ∷ name)) [] c t h e = begins-word (n ∷ name) [] c t h e
fitting-word (Some (n ∷ name)) (a ∷ word) c t h e = begins-word (n ∷ name) (a ∷ word) c t h e

-- no word fits where there is none
pub unfit-empty : (last : Option (List ℕ)) (c : ℕ) → ends_raw_text last [] c ≡ false
unfit-empty None c = refl
unfit-empty (Some name) c = refl

-- the name "script" after "<" or "</"
pub begins-script : (word : List ℕ) (c : ℕ) (t : List ℕ) → list_all is_ascii_alphabetic word ≡ true
    → is_ascii_alphabetic c ≡ false → begins_name (codes "script") (word ++ c ∷ t) ≡ ends_script word c
begins-script word c t h e = begins-word (codes "script") word c t h e

pub kind-script : (word : List ℕ) (c : ℕ) (t : List ℕ) → list_all is_ascii_alphabetic word ≡ true → is_ascii_alphabetic c ≡ false
    → kind_after (ScriptDataEscaped Escaped) (60 ∷ word) (c ∷ t) ≡ ScriptDataEscaped (if ends_script word c then DoubleEscaped else Escaped)
kind-script word c t h e =
    kind_after-letters (next_kind (ScriptDataEscaped Escaped) 60 (word ++ c ∷ t)) word (c ∷ t) h
    ∙ rw (begins-script word c t h e) (chosen (ends_script word c) DoubleEscaped Escaped)

pub kind-end_script : (word : List ℕ) (c : ℕ) (t : List ℕ) → list_all is_ascii_alphabetic word ≡ true → is_ascii_alphabetic c ≡ false
    → kind_after (ScriptDataEscaped DoubleEscaped) (60 ∷ 47 ∷ word) (c ∷ t) ≡ ScriptDataEscaped
    (if ends_script word c then Escaped else DoubleEscaped)
kind-end_script word c t h e =
    let first = next_kind (ScriptDataEscaped DoubleEscaped) 60 (47 ∷ (word ++ c ∷ t)) in
    kind_after-letters (next_kind first 47 (word ++ c ∷ t)) word (c ∷ t) h
    ∙ kind-same first 47 (word ++ c ∷ t) refl refl
    ∙ rw (begins-script word c t h e) (chosen (ends_script word c) Escaped DoubleEscaped)

-- A NAME THAT DOES NOT GO ON BY A LETTER

pub next-shift : (a b : ℕ) → nat_lt (suc a) (suc b) ≡ nat_lt a b
next-shift a b = grind (arith, nat_tests)

first-next : (m : ℕ) (x : Bool) → (nat_lt 0 (suc m) && x) ≡ false → x ≡ false
first-next m x h = ap (λ b. b && x) (sym (lt-ltb 0 (suc m) (omega arith))) ∙ h

begins-other : (b x : Bool) → x ≡ false → begins_by b (λ _. x) ≡ false
begins-other true x e = e
begins-other false x e = refl

begins-apart : (name word : List ℕ) (c : ℕ) (t : List ℕ) → list_all is_ascii_alphabetic word ≡ true
    → is_ascii_alphabetic c ≡ true → has_next name word c ≡ false → begins_name (map to_ascii_lowercase name) (word ++ c ∷ t) ≡ false
begins-apart [] [] c t w l h = letter-no_end c l
begins-apart [] (a ∷ word) c t w l h = letter-no_end a (and_parts _ _ w).0
begins-apart (n ∷ name) [] c t w l h =
    let e : nat_eq (to_ascii_lowercase n) (to_ascii_lowercase c) ≡ false = first-next (length name) _ h in
    rw e refl
begins-apart (n ∷ name) (a ∷ word) c t w l h =
    let shifted : has_next name word c ≡ false =
    ap (λ b. b && nat_eq (to_ascii_lowercase (slice_index name (length word))) (to_ascii_lowercase c))
    (sym (next-shift (length word) (length name))) ∙ h in
    begins-other (nat_eq (to_ascii_lowercase n) (to_ascii_lowercase a)) _ (begins-apart name word c t (and_parts _ _ w).1 l shifted)

pub letters-of : (name : List ℕ) → is_letters name ≡ true → list_all is_ascii_alphabetic name ≡ true
letters-of [] h = absurd cc
letters-of (c ∷ cs) h = h

apart-by : (b : Bool) (name u : List ℕ) → is_letters name ≡ b
    → (list_all is_ascii_alphabetic name ≡ true → begins_name (map to_ascii_lowercase name) u ≡ false)
    → (is_letters name && (true && begins_name (map to_ascii_lowercase name) u)) ≡ false
apart-by true name u e f = rw (e, f (letters-of name e)) refl
apart-by false name u e f = rw e refl

-- where the name does not go on by a letter, no fitting end tag stands there
pub fitting-apart : (bytes name word : List ℕ) (c : ℕ) (t : List ℕ) → IsUtf8 bytes → chars bytes ≡ name
    → list_all is_ascii_alphabetic word ≡ true → is_ascii_alphabetic c ≡ true → has_next bytes word c ≡ false
    → is_fitting_end (Some name) (47 ∷ (word ++ c ∷ t)) ≡ false
fitting-apart bytes name word c t u e w l h =
    apart-by (is_letters name) name (word ++ c ∷ t) refl (λ all.
    let same : bytes ≡ name = letters-bytes bytes u (ap (list_all is_ascii_alphabetic) e ∙ all) ∙ e in
    begins-apart name word c t w l (ap (λ b. has_next b word c) (sym same) ∙ h))
