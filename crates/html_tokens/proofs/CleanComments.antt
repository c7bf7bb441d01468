-- Where comments end, and that no clean one has a fault.
use Rattle.std.proofs.Common.{◌≡◌, ◌∙◌, ℕ, Bool, true, false, nat_eq, List, [], ◌∷◌, ◌++◌, drop, Some, None, refl, sym, ap, subst, arith}
use Rattle.std.specs.Prelude.{not, codes}
use Rattle.std.proofs.lemmas.Bool.Decides.{nat_tests}
use Rattle.html_tokens.specs.Characters.{begins, run_by, shown}
use Rattle.html_tokens.specs.Clean.{is_clean_in_comment, clean_comment, is_clean_comment}
use Rattle.html_tokens.specs.Comments.{comment_end, is_odd_in_comment, comment_after, comment_at, empty_by}
use Rattle.html_tokens.specs.Item.{Stand, longer}
use Rattle.html_tokens.proofs.CleanTags.{IsFaultless}
use Rattle.html_tokens.proofs.ReferenceNames.{begins-front}

-- a clean character is no hyphen, no ">", not odd and itself
no-dash : (c : ℕ) → is_clean_in_comment c ≡ true → nat_eq c 45 ≡ false
no-dash c h = grind (arith, nat_tests)

not-dash : (c : ℕ) → is_clean_in_comment c ≡ true → nat_eq 45 c ≡ false
not-dash c h = grind (arith, nat_tests)

not-mark : (c : ℕ) → is_clean_in_comment c ≡ true → nat_eq 62 c ≡ false
not-mark c h = grind (arith, nat_tests)

not-odd : (c : ℕ) → is_clean_in_comment c ≡ true → is_odd_in_comment c ≡ false
not-odd c h = grind (arith, nat_tests)

shown-same : (c : ℕ) → is_clean_in_comment c ≡ true → shown c ≡ c
shown-same c h = grind (arith, nat_tests)

-- no comment ends before a character that is no hyphen
pub end-none : (c : ℕ) (t : List ℕ) → nat_eq c 45 ≡ false → comment_end (c ∷ t) ≡ None
end-none c [] e = rw e refl
end-none c (a ∷ []) e = rw e refl
end-none c (a ∷ b ∷ []) e = rw e refl
end-none c (a ∷ b ∷ d ∷ t) e = rw e refl

-- and each before "-->"
pub end-mark : (t : List ℕ) → comment_end (codes "-->" ++ t) ≡ Some 3
end-mark [] = refl
end-mark (c ∷ t) = refl

-- what neither ">" nor "->" opens is no empty comment
filled : (mark dash : Bool) (st : Stand) (t : List ℕ) → mark ≡ false → dash ≡ false → empty_by mark dash st t ≡ comment_after st [] t
filled mark dash st t e f = rw (e, f) refl

-- it begins with the character that comes
pub begun-by : (st : Stand) (c : ℕ) (t : List ℕ) → nat_eq 62 c ≡ false → nat_eq 45 c ≡ false
    → comment_at st (c ∷ t) ≡ comment_after st [] (c ∷ t)
begun-by st c t e f = filled _ _ st (c ∷ t) (rw e refl) (rw f refl)

-- a clean character is of the comment
pub goes-on : (st : Stand) (front : List ℕ) (c : ℕ) (t : List ℕ) → is_clean_in_comment c ≡ true
    → comment_after st front (c ∷ t) ≡ longer (comment_after st (front ++ c ∷ []) t)
goes-on st front c t h = rw (end-none c t (no-dash c h), not-odd c h, shown-same c h) refl

-- a clean character begins it
pub begun : (st : Stand) (c : ℕ) (t : List ℕ) → is_clean_in_comment c ≡ true → comment_at st (c ∷ t) ≡ comment_after st [] (c ∷ t)
begun st c t h = begun-by st c t (not-mark c h) (not-dash c h)

-- "-->" ends a comment well
closed : (st : Stand) (front t : List ℕ) → IsFaultless (comment_after st front (codes "-->" ++ t))
closed st front t = rw (end-mark t) refl

-- what the rest of a clean comment begins with, by whether it is a clean character
abbrev IsCleanBy : Bool → ℕ → List ℕ → Type 0
IsCleanBy clean c t = begins (codes "-->") (drop (run_by (not clean) (λ _. clean_comment t)) (c ∷ t)) ≡ true

rest-by : (clean : Bool) (st : Stand) (front : List ℕ) (c : ℕ) (t : List ℕ) → is_clean_in_comment c ≡ clean
    → IsCleanBy clean c t → (is_clean_comment t ≡ true → IsFaultless (comment_after st (front ++ c ∷ []) t))
    → IsFaultless (comment_after st front (c ∷ t))
rest-by true st front c t e h go = ap (λ i. i.fault) (goes-on st front c t e) ∙ go h
rest-by false st front c t e h go = subst (λ u. IsFaultless (comment_after st front u))
    (sym (begins-front (codes "-->") (c ∷ t) h)) (closed st front (drop 3 (c ∷ t)))

rest : (st : Stand) (front t : List ℕ) → is_clean_comment t ≡ true → IsFaultless (comment_after st front t)
rest st front [] h = absurd cc
rest st front (c ∷ t) h = rest-by (is_clean_in_comment c) st front c t refl h (rest st (front ++ c ∷ []) t)

at-by : (clean : Bool) (st : Stand) (c : ℕ) (t : List ℕ) → is_clean_in_comment c ≡ clean → IsCleanBy clean c t
    → IsFaultless (comment_after st [] (c ∷ t)) → IsFaultless (comment_at st (c ∷ t))
at-by true st c t e h k = ap (λ i. i.fault) (begun st c t e) ∙ k
at-by false st c t e h k = subst (λ u. IsFaultless (comment_at st u)) (sym (begins-front (codes "-->") (c ∷ t) h))
    (closed st [] (drop 3 (c ∷ t)))

-- after "<!--" a clean comment has no fault
pub comment : (st : Stand) (t : List ℕ) → is_clean_comment t ≡ true → IsFaultless (comment_at st t)
comment st [] h = absurd cc
comment st (c ∷ t) h = at-by (is_clean_in_comment c) st c t refl h (rest st [] (c ∷ t) h)
