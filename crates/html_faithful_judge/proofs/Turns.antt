-- Texts that are looked at character by character, with what stands after them.
use Rattle.std.proofs.Common.{◌≡◌, ◌∙◌, ℕ, zero, suc, ◌+◌, ◌<◌, ◌≤◌, Bool, true, false, List, [], ◌∷◌, ◌++◌, length, refl, sym, ap, arith}
use Rattle.std.proofs.Common.{add-one, codes, drop, take, ◌-◌}
use Rattle.std.proofs.lemmas.List.{length-append, length-drop, take_all}
use Rattle.std.specs.Prelude.{◌&&◌, is_none, not}
use Rattle.std.specs.Str.{bytes_eq}
use Rattle.std.proofs.lemmas.Slice.Eq.{bytes_eq-Decides}
use Rattle.html_tokens.specs.Comments.{comment_end}
use Rattle.html_tokens.specs.RawText.{is_letters}
use Rattle.html_faithful.specs.Forms.{has_no_end}

-- the first of what is left of a comment
pub comment-turn : (text : List ℕ) (i : ℕ) → i < length text → has_no_end (drop i text) ≡
    (is_none (comment_end (drop i (text ++ codes "-->"))) && has_no_end (drop (suc i) text))
comment-turn [] i l = absurd (omega arith)
comment-turn (c ∷ cs) zero l = refl
comment-turn (c ∷ cs) (suc i) l = comment-turn cs i (omega arith)

pub comment-done : (text : List ℕ) (i : ℕ) → length text ≤ i → has_no_end (drop i text) ≡ true
comment-done [] zero l = refl
comment-done [] (suc i) l = refl
comment-done (c ∷ cs) zero l = absurd (omega arith)
comment-done (c ∷ cs) (suc i) l = comment-done cs i (omega arith)

to-end : (xs : List ℕ) (i : ℕ) → take (length xs - i) (drop i xs) ≡ drop i xs
to-end xs i = take_all (length xs - i) (drop i xs) (omega (arith, length-drop i xs))

-- the front of a text that has an end of so many characters
front-length : (whole text end : List ℕ) (count : ℕ) → whole ≡ text ++ end → count + length end ≡ length whole → count ≡ length text
front-length whole text end count e h = omega (arith, ap length e, length-append text end)

not-none : (b : Bool) → not b ≡ true → b ≡ false
not-none false h = refl
not-none true h = absurd cc

is-none : (b : Bool) → not b ≡ false → b ≡ true
is-none true h = refl
is-none false h = absurd cc

-- a comment that ends here, and one that does not
pub comment-odd : (whole text : List ℕ) (count i : ℕ) (b : Bool) → whole ≡ text ++ codes "-->" → count + 3 ≡ length whole → i < count
    → has_no_end text ≡ has_no_end (drop i text) → b ≡ not (is_none (comment_end (take (length whole - i) (drop i whole))))
    → b ≡ true → false ≡ has_no_end text
comment-odd whole text count i b e k l h is odd =
    let within : i < length text = omega (arith, front-length whole text (codes "-->") count e k) in
    sym (h ∙ (comment-turn text i within ∙ ap (λ b. b && has_no_end (drop (suc i) text))
    (sym (ap (λ ws. is_none (comment_end (drop i ws))) e)
    ∙ not-none _ (sym (is ∙ ap (λ ws. not (is_none (comment_end ws))) (to-end whole i)) ∙ odd))))

pub comment-even : (whole text : List ℕ) (count i : ℕ) (b : Bool) → whole ≡ text ++ codes "-->" → count + 3 ≡ length whole → i < count
    → has_no_end text ≡ has_no_end (drop i text) → b ≡ not (is_none (comment_end (take (length whole - i) (drop i whole))))
    → b ≡ false → has_no_end text ≡ has_no_end (drop (i + 1) text)
comment-even whole text count i b e k l h is even =
    let within : i < length text = omega (arith, front-length whole text (codes "-->") count e k) in
    rw add-one (h ∙ (comment-turn text i within ∙ ap (λ b. b && has_no_end (drop (suc i) text))
    (sym (ap (λ ws. is_none (comment_end (drop i ws))) e)
    ∙ is-none _ (sym (is ∙ ap (λ ws. not (is_none (comment_end ws))) (to-end whole i)) ∙ even))))

pub comment-all : (whole text : List ℕ) (count i : ℕ) → whole ≡ text ++ codes "-->" → count + 3 ≡ length whole → count ≤ i
    → has_no_end text ≡ has_no_end (drop i text) → true ≡ has_no_end text
comment-all whole text count i e k l h =
    sym (h ∙ comment-done text i (omega (arith, front-length whole text (codes "-->") count e k)))

-- `script` is of letters
pub script-letters : (name : List ℕ) (b : Bool) → b ≡ bytes_eq name (codes "script") → b ≡ true → is_letters name ≡ true
script-letters name b e h = ap is_letters ((bytes_eq-Decides name (codes "script")).0 (sym e ∙ h))
