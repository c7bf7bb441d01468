-- Values, read from the left.
use Rattle.std.proofs.Common.{◌≡◌, ◌∙◌, ℕ, zero, suc, ◌+◌, ◌<◌, arith, Bool, true, false, ◌&&◌, List, [], ◌∷◌, ◌++◌}
use Rattle.std.proofs.Common.{append_assoc, drop, get_or, length, ap, refl, sym, None, Some}
use Rattle.std.specs.Prelude.{IsUtf8, cond, nat_eq}
use Rattle.std.specs.Char.{is_ascii_whitespace}
use Rattle.std.specs.List.{filter, list_all}
use Rattle.std.specs.Str.{chars}
use Rattle.std.proofs.Math.Utf8.{encode}
use Rattle.std.proofs.lemmas.List.{at_drop_more}
use Rattle.std.proofs.lemmas.Str.{chars_past_char}
use Rattle.html_round_trip.specs.Slices.Forms.{is_no_text}
use Rattle.html_clean.proofs.KeptTexts.{empty-is}
use Rattle.html_clean.specs.Beginnings.{after_beginning, begins_with}
use Rattle.html_clean.specs.Values.{after_sign, joined_after, with_word, word_if, words_from}
use Rattle.html_clean.proofs.Mapped.{dropped-more}

-- BEGINNINGS

-- at the character that is n characters after the front, and one of the other text
pub begins-at : (cs old new : List ℕ) (n c d : ℕ) (b : Bool) → IsUtf8 old → old ≡ encode d ++ new
    → (n < length cs) × (c ≡ get_or cs n c) → nat_eq c d ≡ b
    → begins_with (drop n cs) (chars old) ≡ (b && begins_with (drop (n + 1) cs) (chars new))
begins-at cs old new n c d b u e h same =
    ap (begins_with (drop n cs)) (chars_past_char old new d u e)
    ∙ (at_drop_more (λ xs. begins_with xs (d ∷ chars new)) cs n c h.0
    ∙ (ap (λ x. begins_with (x ∷ drop (n + 1) cs) (d ∷ chars new)) (sym h.1)
    ∙ ap (λ b. b && begins_with (drop (n + 1) cs) (chars new)) same))

-- the same where the other text has ended
pub begins-none : (cs old : List ℕ) (n c : ℕ) → length old ≡ 0 → (n < length cs) × (c ≡ get_or cs n c)
    → begins_with (drop n cs) (chars old) ≡ false
unfolding chars
begins-none cs old n c e h = ap (λ r. begins_with (drop n cs) (chars r)) (empty-is old e)
    ∙ at_drop_more (λ xs. begins_with xs []) cs n c h.0

-- the same of what follows a beginning
pub after-at : (cs old new : List ℕ) (n c d : ℕ) (b : Bool) → IsUtf8 old → old ≡ encode d ++ new
    → (n < length cs) × (c ≡ get_or cs n c) → nat_eq c d ≡ b
    → after_beginning (drop n cs) (chars old) ≡ cond b (after_beginning (drop (n + 1) cs) (chars new)) None
after-at cs old new n c d b u e h same =
    ap (after_beginning (drop n cs)) (chars_past_char old new d u e)
    ∙ (at_drop_more (λ xs. after_beginning xs (d ∷ chars new)) cs n c h.0
    ∙ (ap (λ x. after_beginning (x ∷ drop (n + 1) cs) (d ∷ chars new)) (sym h.1)
    ∙ ap (λ b. cond b (after_beginning (drop (n + 1) cs) (chars new)) None) same))

pub after-none : (cs old : List ℕ) (n c : ℕ) → length old ≡ 0 → (n < length cs) × (c ≡ get_or cs n c)
    → after_beginning (drop n cs) (chars old) ≡ None
unfolding chars
after-none cs old n c e h = ap (λ r. after_beginning (drop n cs) (chars r)) (empty-is old e)
    ∙ at_drop_more (λ xs. after_beginning xs []) cs n c h.0

-- three characters more
pub three-more : (text : List ℕ) (a b c : ℕ) → ((text ++ a ∷ []) ++ b ∷ []) ++ c ∷ [] ≡ text ++ (a ∷ (b ∷ (c ∷ [])))
three-more text a b c = simp append_assoc

-- NUMBERS

-- where a character is none, not all are
pub not-all : (p : ℕ → Bool) (cs : List ℕ) (n c : ℕ) → (n < length cs) × (c ≡ get_or cs n c) → p c ≡ false → list_all p cs ≡ false
not-all p [] n c h e = absurd (omega (arith, h.0))
not-all p (x ∷ xs) zero c h e = ap (λ y. p y && list_all p xs) (sym h.1) ∙ ap (λ b. b && list_all p xs) e
not-all p (x ∷ xs) (suc n) c h e = right (p x) (list_all p xs) (not-all p xs n c (omega (arith, h.0), h.1) e) where
  right : (a b : Bool) → b ≡ false → (a && b) ≡ false
  right true b k = k
  right false b k = refl

-- SIGNS

-- what follows the sign in front of a text
pub sign-some : (sign : ℕ) (bs rest : List ℕ) (c : ℕ) → IsUtf8 bs → bs ≡ encode c ++ rest → nat_eq c sign ≡ true
    → after_sign sign (chars bs) ≡ Some (chars rest)
sign-some sign bs rest c u e same = ap (after_sign sign) (chars_past_char bs rest c u e) ∙ ap (λ b. cond b (Some (chars rest)) None) same

-- WORDS

turned : (made : List (List ℕ)) (word : List ℕ) (c : ℕ) (cs : List ℕ) (b : Bool) → is_ascii_whitespace c ≡ b
    → made ++ words_from word (c ∷ cs) ≡ cond b ((made ++ word_if word) ++ words_from [] cs) (made ++ words_from (word ++ c ∷ []) cs)
turned made word c cs true h = rw h (sym (append_assoc made (word_if word) (words_from [] cs)))
turned made word c cs false h = rw h refl

-- at the character that is n characters after the front
pub words-at : (made : List (List ℕ)) (word cs : List ℕ) (n c : ℕ) (b : Bool) → (n < length cs) × (c ≡ get_or cs n c)
    → is_ascii_whitespace c ≡ b → made ++ words_from word (drop n cs)
    ≡ cond b ((made ++ word_if word) ++ words_from [] (drop (n + 1) cs)) (made ++ words_from (word ++ c ∷ []) (drop (n + 1) cs))
words-at made word cs n c b h e = at_drop_more (λ xs. made ++ words_from word xs) cs n c h.0
    ∙ (ap (λ x. made ++ words_from word (x ∷ drop (n + 1) cs)) (sym h.1) ∙ turned made word c (drop (n + 1) cs) b e)

-- with a word more, where it is allowed
allowed-by : (p : List ℕ → Bool) (made new x : List ℕ) (xs : List (List ℕ)) (b : Bool) → p x ≡ b → new ≡ cond b (with_word made x) made
    → joined_after new (filter p xs) ≡ joined_after made (filter p (x ∷ xs))
allowed-by p made new x xs true h e = rw h (ap (λ text. joined_after text (filter p xs)) e)
allowed-by p made new x xs false h e = rw h (ap (λ text. joined_after text (filter p xs)) e)

-- the same for the word that is n words after the front
pub allowed-at : (p : List ℕ → Bool) (made new x : List ℕ) (xs : List (List ℕ)) (n : ℕ) → n < length xs → x ≡ get_or xs n x
    → new ≡ cond (p x) (with_word made x) made
    → joined_after new (filter p (drop (n + 1) xs)) ≡ joined_after made (filter p (drop n xs))
allowed-at p made new x xs n h is e = allowed-by p made new x (drop (n + 1) xs) (p x) refl e
    ∙ sym (dropped-more (λ list. joined_after made (filter p list)) xs n x h is)

pub word-first : (made word : List ℕ) → is_no_text made ≡ true → made ++ word ≡ with_word made word
word-first [] word h = refl
word-first (c ∷ cs) word h = absurd cc

pub word-next : (made word : List ℕ) → is_no_text made ≡ false → (made ++ 32 ∷ []) ++ word ≡ with_word made word
word-next [] word h = absurd cc
word-next (c ∷ cs) word h = ap (λ l. c ∷ l) (after cs) where
  after : (cs : List ℕ) → (cs ++ 32 ∷ []) ++ word ≡ cs ++ 32 ∷ word
  after [] = refl
  after (d ∷ ds) = ap (λ l. d ∷ l) (after ds)
