-- URLs, read from the left.
use Rattle.std.proofs.Common.{◌≡◌, ◌∙◌, ℕ, ◌+◌, ◌<◌, Bool, true, false, ◌&&◌, ◌||◌, nat_eq, List, [], ◌∷◌, ◌++◌, length, get_or}
use Rattle.std.proofs.Common.{drop, Option, Some, None, refl, sym, ap, append_assoc, append-nil, arith}
use Rattle.std.specs.Prelude.{cond, not}
use Rattle.std.specs.Char.{is_ascii_alphabetic, to_ascii_lowercase}
use Rattle.std.specs.List.{filter}
use Rattle.std.proofs.lemmas.Bool.Decides.{nat_tests}
use Rattle.std.proofs.lemmas.List.{at_drop_more}
use Rattle.std.proofs.lemmas.List.Elements.{filter-append}
use Rattle.html_clean.specs.Urls.{has_begun, is_blank, is_break, is_scheme_character, option_cons, prepended, scheme_after}
use Rattle.html_clean.specs.Urls.{scheme_by, scheme_rest, step_of, url_text, without_blanks}
use Rattle.html_clean.specs.declared.kinds.SchemeStep.TheVariants.{Ends, Stops, Grows}

-- THE TEXT

abbrev kept : ℕ → Bool
kept c = not (is_break c)

one-by : (c : ℕ) (b : Bool) → filter kept (cond b [] (c ∷ [])) ≡ cond ((false || not b) && kept c) ([] ++ c ∷ []) []
one-by c true = refl
one-by c false = refl

tail-by : (ys : List ℕ) (c : ℕ) (k : Bool) → filter kept ys ++ cond k (c ∷ []) [] ≡ cond k (filter kept ys ++ c ∷ []) (filter kept ys)
tail-by ys c true = refl
tail-by ys c false = append-nil (filter kept ys)

more-by : (y : ℕ) (ys : List ℕ) (c : ℕ) (b : Bool) → url_text (ys ++ c ∷ []) ≡ cond
    ((has_begun ys || not (is_blank c)) && kept c) (url_text ys ++ c ∷ []) (url_text ys)
    → filter kept (cond b (without_blanks (ys ++ c ∷ [])) (y ∷ (ys ++ c ∷ [])))
    ≡ cond (((not b || has_begun ys) || not (is_blank c)) && kept c)
    (filter kept (cond b (without_blanks ys) (y ∷ ys)) ++ c ∷ []) (filter kept (cond b (without_blanks ys) (y ∷ ys)))
more-by y ys c true h = h
more-by y ys c false h = filter-append kept (y ∷ ys) (c ∷ []) ∙ tail-by (y ∷ ys) c (kept c)

-- a text, with a character more
pub url_text-more : (ys : List ℕ) (c : ℕ) → url_text (ys ++ c ∷ []) ≡ cond
    ((has_begun ys || not (is_blank c)) && not (is_break c)) (url_text ys ++ c ∷ []) (url_text ys)
url_text-more [] c = one-by c (is_blank c)
url_text-more (y ∷ ys) c = more-by y ys c (is_blank y) (url_text-more ys c)

or-assoc : (a b d : Bool) → (a || (b || d)) ≡ ((a || b) || d)
or-assoc true b d = refl
or-assoc false b d = refl

or-false : (b : Bool) → (b || false) ≡ b
or-false true = refl
or-false false = refl

pub has_begun-more : (ys : List ℕ) (c : ℕ) → has_begun (ys ++ c ∷ []) ≡ (has_begun ys || not (is_blank c))
has_begun-more [] c = or-false (not (is_blank c))
has_begun-more (y ∷ ys) c = ap (λ b. not (is_blank y) || b) (has_begun-more ys c) ∙ or-assoc (not (is_blank y))
    (has_begun ys) (not (is_blank c))

-- THE SCHEME

prepended-more : (name : List ℕ) (d : ℕ) (o : Option (List ℕ)) → prepended name (option_cons d o) ≡ prepended (name ++ d ∷ []) o
prepended-more name d None = refl
prepended-more name d (Some cs) = ap Some (sym (append_assoc name (d ∷ []) cs))

-- the colon is no letter
colon : (c : ℕ) (a : Bool) → nat_eq c 58 ≡ true → is_ascii_alphabetic c ≡ a → a ≡ false
colon c true h e = absurd (grind (arith, nat_tests))
colon c false h e = refl

behind-none : (d : ℕ) (o : Option (List ℕ)) → option_cons d o ≡ prepended (d ∷ []) o
behind-none d None = refl
behind-none d (Some cs) = refl

behind-one : (c : ℕ) (rest : List ℕ) (e a : Bool) → nat_eq c 58 ≡ e → is_ascii_alphabetic c ≡ a
    → cond a (option_cons (to_ascii_lowercase c) (scheme_rest rest)) None ≡ scheme_by
    (cond e Stops (cond a Grows Stops)) [] (prepended (to_ascii_lowercase c ∷ []) (scheme_rest rest))
behind-one c rest true a he ha = rw (colon c a he ha) refl
behind-one c rest false true he ha = behind-none (to_ascii_lowercase c) (scheme_rest rest)
behind-one c rest false false he ha = refl

behind-more : (d : ℕ) (name : List ℕ) (c : ℕ) (rest : List ℕ) (e a : Bool)
    → prepended (d ∷ name) (cond e (Some []) (cond a (option_cons (to_ascii_lowercase c) (scheme_rest rest)) None))
    ≡ scheme_by (cond e Ends (cond a Grows Stops)) (d ∷ name) (prepended ((d ∷ name) ++ to_ascii_lowercase c ∷ []) (scheme_rest rest))
behind-more d name c rest true a = ap Some (append-nil (d ∷ name))
behind-more d name c rest false true = prepended-more (d ∷ name) (to_ascii_lowercase c) (scheme_rest rest)
behind-more d name c rest false false = refl

pub scheme-turn : (name : List ℕ) (c : ℕ) (rest : List ℕ) → scheme_after name (c ∷ rest) ≡ scheme_by
    (step_of name c) name (scheme_after (name ++ to_ascii_lowercase c ∷ []) rest)
scheme-turn [] c rest = behind-one c rest _ _ refl refl
scheme-turn (d ∷ name) c rest = behind-more d name c rest (nat_eq c 58) (is_scheme_character c)

-- at the character that is n characters after the front
pub scheme-at : (name cs : List ℕ) (n c : ℕ) → (n < length cs) × (c ≡ get_or cs n c)
    → scheme_after name (drop n cs) ≡ scheme_by (step_of name c) name (scheme_after (name ++ to_ascii_lowercase c ∷ []) (drop (n + 1) cs))
scheme-at name cs n c h = at_drop_more (scheme_after name) cs n c h.0
    ∙ (ap (λ x. scheme_after name (x ∷ drop (n + 1) cs)) (sym h.1) ∙ scheme-turn name c (drop (n + 1) cs))

pub scheme-end : (name : List ℕ) → scheme_after name [] ≡ None
scheme-end [] = refl
scheme-end (d ∷ name) = refl

-- a text that has grown by a character, if it was taken
pub grown : (ys : List ℕ) (c : ℕ) (made : List ℕ) (b k : Bool) → made ≡ url_text ys
    → b ≡ (has_begun ys || not (is_blank c)) → k ≡ (b && not (is_break c)) → cond k (made ++ c ∷ []) made ≡ url_text (ys ++ c ∷ [])
grown ys c made b k h e f = rw (f, e, h) (sym (url_text-more ys c))
