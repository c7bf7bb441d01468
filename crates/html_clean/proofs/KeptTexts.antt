-- What is passed on of texts.
use Rattle.std.proofs.Common.{◌≡◌, ◌∙◌, ℕ, Bool, true, false, ◌&&◌, List, [], ◌∷◌, ◌++◌, Some, None, length, refl, ap, sym}
use Rattle.std.specs.Prelude.{IsUtf8, cond, not}
use Rattle.std.specs.Str.{chars}
use Rattle.std.proofs.Math.Utf8.{encode}
use Rattle.std.proofs.lemmas.Str.{IsUtf8-past_char, chars_past_char}
use Rattle.html_clean.specs.Names.{first_two}
use Rattle.std.specs.List.{list_all}
use Rattle.std.proofs.lemmas.Bool.{and_parts, not-true, not-false}
use Rattle.markup.specs.Calls.Call.{WriteText}
use Rattle.html_round_trip.specs.Slices.Forms.{is_no_text}
use Rattle.html_clean.specs.Calls.{text_passed}
use Rattle.html_clean.specs.Policies.{is_mark, is_plain_character, plain_text, starts_with_mark, text_at, without_marks}

-- a plain text is left as it is
pub plain-same : (cs : List ℕ) → list_all is_plain_character cs ≡ true → plain_text cs ≡ cs
plain-same [] h = refl
plain-same (c ∷ cs) h =
    let p = and_parts (is_plain_character c) (list_all is_plain_character cs) h in
    rw p.0 (ap (λ cs. c ∷ cs) (plain-same cs p.1))

mark-same : (cs : List ℕ) → starts_with_mark cs ≡ false → without_marks cs ≡ cs
mark-same [] h = refl
mark-same (c ∷ cs) h = rw h refl

at-same : (front : Bool) (cs : List ℕ) → plain_text cs ≡ cs → (front && starts_with_mark cs) ≡ false → text_at front cs ≡ cs
at-same true cs e h = ap without_marks e ∙ mark-same cs h
at-same false cs e h = e

-- all of a text is passed on
pub kept-whole : (front : Bool) (cs : List ℕ)
    → (list_all is_plain_character cs && not (front && starts_with_mark cs)) ≡ true → text_at front cs ≡ cs
kept-whole front cs h =
    let p = and_parts (list_all is_plain_character cs) (not (front && starts_with_mark cs)) h in
    at-same front cs (plain-same cs p.0) (not-true _ p.1)

more-by : (y : ℕ) (ys : List ℕ) (c : ℕ) (b : Bool) → without_marks (ys ++ c ∷ []) ≡ cond
    (is_no_text (without_marks ys) && is_mark c) [] (without_marks ys ++ c ∷ [])
    → cond b (without_marks (ys ++ c ∷ [])) (y ∷ (ys ++ c ∷ [])) ≡ cond
    (is_no_text (cond b (without_marks ys) (y ∷ ys)) && is_mark c) [] (cond b (without_marks ys) (y ∷ ys) ++ c ∷ [])
more-by y ys c true h = h
more-by y ys c false h = refl

-- a text with a character more
marks-more : (ys : List ℕ) (c : ℕ) → without_marks (ys ++ c ∷ []) ≡ cond
    (is_no_text (without_marks ys) && is_mark c) [] (without_marks ys ++ c ∷ [])
marks-more [] c = refl
marks-more (y ∷ ys) c = more-by y ys c (is_mark y) (marks-more ys c)

pub mark-pushed : (ys : List ℕ) (c : ℕ) (made : List ℕ) → made ≡ without_marks ys
    → not (is_no_text made && is_mark c) ≡ true → made ++ c ∷ [] ≡ without_marks (ys ++ c ∷ [])
mark-pushed ys c made e h = sym (marks-more ys c ∙ rw (← e) (rw (not-true _ h) refl))

skipped : (made : List ℕ) (c : ℕ) (b : Bool) → (is_no_text made && b) ≡ true → made ≡ cond (is_no_text made && b) [] (made ++ c ∷ [])
skipped [] c true h = refl
skipped [] c false h = absurd cc
skipped (d ∷ ds) c b h = absurd cc

pub mark-skipped : (ys : List ℕ) (c : ℕ) (made : List ℕ) → made ≡ without_marks ys
    → not (is_no_text made && is_mark c) ≡ false → made ≡ without_marks (ys ++ c ∷ [])
mark-skipped ys c made e h = skipped made c (is_mark c) (not-false _ h) ∙ sym (marks-more ys c ∙ rw (← e) refl)

pub none-passed : (text : List ℕ) → is_no_text text ≡ true → text_passed false text ≡ None
none-passed [] h = refl
none-passed (c ∷ cs) h = absurd cc

pub some-passed : (text : List ℕ) → is_no_text text ≡ false → text_passed false text ≡ Some (WriteText text)
some-passed [] h = absurd cc
some-passed (c ∷ cs) h = refl

-- THE FIRST TWO CHARACTERS

pub empty-is : (xs : List ℕ) → length xs ≡ 0 → xs ≡ []
empty-is [] h = refl
empty-is (x ∷ xs) h = absurd cc

pub two-none : (bs rest : List ℕ) (c : ℕ) → IsUtf8 bs → bs ≡ encode c ++ rest → length rest ≡ 0 → None ≡ first_two (chars bs)
unfolding chars
two-none bs rest c u e h = sym (ap first_two (chars_past_char bs rest c u e ∙ ap (λ r. c ∷ chars r) (empty-is rest h)))

pub two-some : (bs rest later : List ℕ) (c d : ℕ) → IsUtf8 bs → bs ≡ encode c ++ rest → rest ≡ encode d ++ later
    → Some (c, d) ≡ first_two (chars bs)
two-some bs rest later c d u e h =
    sym (ap first_two (chars_past_char bs rest c u e ∙ ap (λ r. c ∷ r) (chars_past_char rest later d (IsUtf8-past_char bs rest c u e) h)))
