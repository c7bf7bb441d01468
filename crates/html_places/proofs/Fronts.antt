-- The place after a front of a text, from the one before its last character.
use Rattle.std.proofs.Common.{◌≡◌, ◌∙◌, ◌+◌, ◌-◌, ◌^◌, ◌++◌, ◌∷◌, ℕ, Bool, true, false, not, cond, ◌&&◌, ◌||◌, nat_eq, List, []}
use Rattle.std.proofs.Common.{append_assoc, append-nil, arith, count_by, refl, sym, ap, subst}
use Rattle.std.proofs.lemmas.Bool.{cases_lt, eqb-true, le-ltb, lt-ltb}
use Rattle.std.proofs.Math.Logic.{⊎_elim}
use Rattle.std.proofs.lemmas.List.{reverse-append}
use Rattle.std.proofs.lemmas.List.Sums.{sum_by_push}
use Rattle.std.specs.List.{prefix_len, suffix_len}
use Rattle.markup.specs.Forest.{one_more}
use Rattle.html_tokens.specs.NormalText.{newline_by, newlines, newlines_after, normal_text, without_mark, without_mark_by}
use Rattle.html_places.specs.Places.{number_after}
use Rattle.html_places.specs.Fronts.{IsFront, after_return, is_filled, next_place}
use Rattle.html_places.specs.Places.{place_after, place_at_end}
use Rattle.html_places.specs.Fronts.{passed, passed_all, stays}
use Rattle.html_places.specs.declared.place.Front.{Front}
use Rattle.html_places.specs.declared.place.Place.{Place}

-- LINE ENDS

newline-append : (is second : Bool) (c : ℕ) (u v : List ℕ)
    → ((b : Bool) → newlines_after b (u ++ v) ≡ newlines_after b u ++ newlines_after (after_return b u) v)
    → newline_by is second c (λ b. newlines_after b (u ++ v))
    ≡ newline_by is second c (λ b. newlines_after b u) ++ newlines_after (after_return is u) v
newline-append true second c u v each = ap (λ (t : List ℕ). 10 ∷ t) (each true)
newline-append false true c u v each = each false
newline-append false false c u v each = ap (λ (t : List ℕ). c ∷ t) (each false)

newlines-append : (cr : Bool) (u v : List ℕ) → newlines_after cr (u ++ v) ≡ newlines_after cr u ++ newlines_after (after_return cr u) v
newlines-append cr [] v = refl
newlines-append cr (c ∷ u) v = newline-append (nat_eq c 13) (cr && nat_eq c 10) c u v (λ b. newlines-append b u v)

return-append : (cr : Bool) (u v : List ℕ) → after_return cr (u ++ v) ≡ after_return (after_return cr u) v
return-append cr [] v = refl
return-append cr (c ∷ u) v = return-append (nat_eq c 13) u v

mark-append : (c : ℕ) (t v : List ℕ) → without_mark true (c ∷ t ++ v) ≡ without_mark true (c ∷ t) ++ v
mark-append c t v = by (nat_eq c 0xFEFF)
  where
    by : (is : Bool) → without_mark_by (true && is) c (t ++ v) ≡ without_mark_by (true && is) c t ++ v
    by true = refl
    by false = refl

-- ONE CHARACTER MORE

abbrev at : ℕ → ℕ → Place
at l k = record { line = l; column = k }

same-at : (l l' k k' : ℕ) → l ≡ l' → k ≡ k' → at l k ≡ at l' k'
same-at l l' k k' e f = rw (e, f) refl

abbrev feeds : List ℕ → ℕ
feeds t = count_by (λ x. nat_eq x 10) t

abbrev width : List ℕ → ℕ
width t = suffix_len (λ x. not (nat_eq x 10)) t

-- one more is counted
number-more : (n m : ℕ) → m ≡ n + 1 → number_after m ≡ one_more (number_after n)
number-more n m is = ⊎_elim
    (λ below. rw (lt-ltb (number_after n) (2 ^ 64 - 1) (omega arith)) (omega arith))
    (λ above. rw (le-ltb (number_after n) (2 ^ 64 - 1) (omega arith)) (omega arith))
    (cases_lt (n + 1) (2 ^ 64 - 1))

place-push : (t : List ℕ) (c : ℕ) → place_at_end (t ++ c ∷ []) ≡ next_place false (nat_eq c 10) (place_at_end t)
place-push t c = by (nat_eq c 10) counted ended
  where
    counted : feeds (t ++ c ∷ []) ≡ feeds t + cond (nat_eq c 10) 1 0
    counted = sum_by_push (λ x. cond (nat_eq x 10) 1 0) t c

    ended : width (t ++ c ∷ []) ≡ cond (not (nat_eq c 10)) (1 + width t) 0
    ended = ap (prefix_len (λ x. not (nat_eq x 10))) (reverse-append t (c ∷ []))

    by : (is : Bool) → feeds (t ++ c ∷ []) ≡ feeds t + cond is 1 0 → width (t ++ c ∷ []) ≡ cond (not is) (1 + width t) 0
        → place_at_end (t ++ c ∷ []) ≡ next_place false is (place_at_end t)
    by true e f = same-at (number_after (feeds (t ++ c ∷ []))) (one_more (number_after (feeds t))) (number_after (width (t ++ c ∷ []))) 1
        (number-more (feeds t) (feeds (t ++ c ∷ [])) (omega (arith, e))) (ap number_after f)
    by false e f = same-at (number_after (feeds (t ++ c ∷ []))) (number_after (feeds t)) (number_after (width (t ++ c ∷ [])))
        (one_more (number_after (width t))) (ap number_after (e ∙ omega arith))
        (number-more (width t) (width (t ++ c ∷ [])) (omega (arith, f)))

-- what comes of the next character of a text
abbrev came : (begun cr : Bool) → ℕ → List ℕ
came begun cr c = cond (not begun && nat_eq c 0xFEFF) [] (newline_by (nat_eq c 13) (cr && nat_eq c 10) c (λ b. []))

normal-push : (front : List ℕ) (c : ℕ) → normal_text true (front ++ c ∷ [])
    ≡ normal_text true front ++ came (is_filled front) (after_return false (without_mark true front)) c
normal-push [] c = by (nat_eq c 0xFEFF)
  where
    by : (is : Bool) → newlines_after false (without_mark_by (true && is) c [])
        ≡ cond (not false && is) [] (newline_by (nat_eq c 13) (false && nat_eq c 10) c (λ b. []))
    by true = refl
    by false = refl
normal-push (d ∷ t) c = ap newlines (mark-append d t (c ∷ [])) ∙ newlines-append false (without_mark true (d ∷ t)) (c ∷ [])

return-push : (front : List ℕ) (c : ℕ) → after_return false (without_mark true (front ++ c ∷ [])) ≡ nat_eq c 13
return-push [] c = by (nat_eq c 0xFEFF) refl
  where
    by : (is : Bool) → nat_eq c 0xFEFF ≡ is → after_return false (without_mark_by (true && is) c []) ≡ nat_eq c 13
    by true e = subst (λ x. false ≡ nat_eq x 13) (sym (eqb-true c 0xFEFF e)) refl
    by false e = refl
return-push (d ∷ t) c = ap (after_return false) (mark-append d t (c ∷ [])) ∙ return-append false (without_mark true (d ∷ t)) (c ∷ [])

filled-push : (front : List ℕ) (c : ℕ) → true ≡ is_filled (front ++ c ∷ [])
filled-push [] c = refl
filled-push (d ∷ t) c = refl

-- the place after what comes of a character
Places-on : List ℕ → Bool → Bool → ℕ → Type 0
Places-on t begun cr c = place_at_end (t ++ came begun cr c) ≡ next_place (stays begun cr c) (nat_eq c 10 || nat_eq c 13) (place_at_end t)

on-return : (t : List ℕ) (begun cr : Bool) → Places-on t begun cr 13
unfolding Places-on
on-return t true cr = place-push t 10
on-return t false cr = place-push t 10

on-feed : (t : List ℕ) (begun cr : Bool) → Places-on t begun cr 10
unfolding Places-on
on-feed t true true = ap place_at_end (append-nil t)
on-feed t true false = place-push t 10
on-feed t false true = ap place_at_end (append-nil t)
on-feed t false false = place-push t 10

on-mark : (t : List ℕ) (begun cr : Bool) → Places-on t begun cr 0xFEFF
unfolding Places-on
on-mark t true true = place-push t 0xFEFF
on-mark t true false = place-push t 0xFEFF
on-mark t false cr = ap place_at_end (append-nil t)

on-other : (t : List ℕ) (begun cr : Bool) (c : ℕ) → nat_eq c 13 ≡ false → nat_eq c 10 ≡ false → nat_eq c 0xFEFF ≡ false
    → Places-on t begun cr c
unfolding Places-on
on-other t true true c e f g = let p = place-push t c in rw (e, f, g) (rw f at p)
on-other t true false c e f g = let p = place-push t c in rw (e, f, g) (rw f at p)
on-other t false true c e f g = let p = place-push t c in rw (e, f, g) (rw f at p)
on-other t false false c e f g = let p = place-push t c in rw (e, f, g) (rw f at p)

places-on : (t : List ℕ) (begun cr : Bool) (c : ℕ) → Places-on t begun cr c
places-on t begun cr c = by (nat_eq c 13) (nat_eq c 10) (nat_eq c 0xFEFF) refl refl refl
  where
    by : (r f m : Bool) → nat_eq c 13 ≡ r → nat_eq c 10 ≡ f → nat_eq c 0xFEFF ≡ m → Places-on t begun cr c
    by true f m e g h = subst (λ x. Places-on t begun cr x) (sym (eqb-true c 13 e)) (on-return t begun cr)
    by false true m e g h = subst (λ x. Places-on t begun cr x) (sym (eqb-true c 10 g)) (on-feed t begun cr)
    by false false true e g h = subst (λ x. Places-on t begun cr x) (sym (eqb-true c 0xFEFF h)) (on-mark t begun cr)
    by false false false e g h = on-other t begun cr c e g h

place-more : (front : List ℕ) (c : ℕ) → place_after (front ++ c ∷ [])
    ≡ next_place (stays (is_filled front) (after_return false (without_mark true front)) c) (nat_eq c 10 || nat_eq c 13) (place_after front)
unfolding Places-on
place-more front c = ap place_at_end (normal-push front c)
    ∙ places-on (normal_text true front) (is_filled front) (after_return false (without_mark true front)) c

front-passed : (front : List ℕ) (f : Front) (c : ℕ) → IsFront front f → IsFront (front ++ c ∷ []) (passed f c)
front-passed front f c is = record {
  place = rw (is.place, is.has_begun, is.is_return) (sym (place-more front c));
  has_begun = filled-push front c;
  is_return = sym (return-push front c);
}

pub passed-push : (f : Front) (t : List ℕ) (c : ℕ) → passed_all f (t ++ c ∷ []) ≡ passed (passed_all f t) c
passed-push f [] c = refl
passed-push f (d ∷ t) c = passed-push (passed f d) t c

-- all characters of a text after a front of it
pub front-passed-all : (front : List ℕ) (f : Front) (t : List ℕ) → IsFront front f → IsFront (front ++ t) (passed_all f t)
front-passed-all front f [] is = subst (λ (u : List ℕ). IsFront u f) (sym (append-nil front)) is
front-passed-all front f (c ∷ t) is =
    subst (λ (u : List ℕ). IsFront u (passed_all (passed f c) t)) (append_assoc front (c ∷ []) t)
    (front-passed-all (front ++ c ∷ []) (passed f c) t (front-passed front f c is))
