-- The words of a line that was written, and the rules that reading it gives.
use Rattle.std.proofs.Common.{◌≡◌, ◌∙◌, ℕ, ◌+◌, Bool, true, false, List, [], ◌∷◌, ◌++◌, Option, None, Some, Ok, ap, append_assoc}
use Rattle.std.proofs.Common.{eqb-true, map, refl, subst, sym}
use Rattle.std.specs.Prelude.{◌&&◌, ◌==◌, cond, is_none, length, not}
use Rattle.std.specs.Char.{is_ascii_whitespace}
use Rattle.std.specs.List.{All, list_all}
use Rattle.std.proofs.Math.Dec.{eqb-suc-zero}
use Rattle.std.proofs.lemmas.Bool.{and_from, and_parts}
use Rattle.std.proofs.lemmas.List.{append-nil}
use Rattle.std.proofs.lemmas.List.Elements.{All-append, All-cons, All-nil}
use Rattle.std.proofs.lemmas.List.Folds.{list_all-append}
use Rattle.std.proofs.lemmas.List.Splits.{slice_split_at}
use Rattle.html_clean.specs.Values.{word_if, words_from, words_of}
use Rattle.html_policy_text.specs.PolicyText.{is_feed, lines_of, read_lines, then_lines, with_line}
use Rattle.html_policy_text.specs.Rules.{Rules, after_mark, beginning_if, whole_if, whole_words, word_beginnings}
use Rattle.html_policy_text.specs.Written.{is_solid, is_whole, is_word, line_of, list_text, marked, spaced}

-- WORDS

pub not-true : (b : Bool) → not b ≡ true → b ≡ false
not-true true h = absurd cc
not-true false h = refl

pub word-solid : (word : List ℕ) → is_word word ≡ true → list_all is_solid word ≡ true
word-solid word h = (and_parts (not (length word == 0)) (list_all is_solid word) h).1

-- what has a character and no white space is a word
pub some-word : (c : ℕ) (cs : List ℕ) → list_all is_solid (c ∷ cs) ≡ true → is_word (c ∷ cs) ≡ true
some-word c cs h =
    and_from (not (length (c ∷ cs) == 0)) (list_all is_solid (c ∷ cs)) (ap not (eqb-suc-zero (length cs))) h

words-run : (begun cs rest : List ℕ) → list_all is_solid cs ≡ true → words_from begun (cs ++ rest) ≡ words_from (begun ++ cs) rest
words-run begun [] rest h = ap (λ (word : List ℕ). words_from word rest) (sym (append-nil begun))
words-run begun (c ∷ cs) rest h =
    let both = and_parts (is_solid c) (list_all is_solid cs) h in
    ap (λ (b : Bool). cond b (word_if begun ++ words_from [] (cs ++ rest)) (words_from (begun ++ c ∷ []) (cs ++ rest)))
    (not-true (is_ascii_whitespace c) both.0)
    ∙ (words-run (begun ++ c ∷ []) cs rest both.1 ∙ ap (λ (word : List ℕ). words_from word rest) (append_assoc begun (c ∷ []) cs))

word-some : (word : List ℕ) → is_word word ≡ true → word_if word ≡ word ∷ []
word-some [] h = absurd cc
word-some (c ∷ cs) h = refl

words-spaced : (words : List (List ℕ)) (word : List ℕ) → is_word word ≡ true → list_all is_word words ≡ true
    → words_from word (spaced words) ≡ word ∷ words
words-spaced [] word h hs = word-some word h
words-spaced (w ∷ ws) word h hs =
    let both = and_parts (is_word w) (list_all is_word ws) hs in
    ap (λ (l : List (List ℕ)). l ++ words_from [] (w ++ spaced ws)) (word-some word h)
    ∙ ap (λ (l : List (List ℕ)). word ∷ l) (words-run [] w (spaced ws) (word-solid w both.0) ∙ words-spaced ws w both.0 both.1)

-- a line has the words that were written
pub line-words : (keyword : List ℕ) (words : List (List ℕ)) → is_word keyword ≡ true → list_all is_word words ≡ true
    → words_of (keyword ++ spaced words) ≡ keyword ∷ words
line-words keyword words h hs = words-run [] keyword (spaced words) (word-solid keyword h) ∙ words-spaced words keyword h hs

one-are : (word : List ℕ) → list_all is_solid word ≡ true → list_all is_word (word_if word) ≡ true
one-are [] h = refl
one-are (c ∷ cs) h = and_from (is_word (c ∷ cs)) true (some-word c cs h) refl

-- the words of any text can be written
pub words-are : (cs word : List ℕ) → list_all is_solid word ≡ true → list_all is_word (words_from word cs) ≡ true
words-are [] word h = one-are word h
words-are (c ∷ cs) word h = by (is_ascii_whitespace c) refl (λ w k. words-are cs w k) where
  by : (b : Bool) → is_ascii_whitespace c ≡ b
      → ((w : List ℕ) → list_all is_solid w ≡ true → list_all is_word (words_from w cs) ≡ true)
      → list_all is_word (words_from word (c ∷ cs)) ≡ true
  by true e later =
      ap (λ (b : Bool). list_all is_word (cond b (word_if word ++ words_from [] cs) (words_from (word ++ c ∷ []) cs))) e
      ∙ (list_all-append is_word (word_if word) (words_from [] cs)
      ∙ and_from (list_all is_word (word_if word)) (list_all is_word (words_from [] cs)) (one-are word h) (later [] refl))
  by false e later =
      ap (λ (b : Bool). list_all is_word (cond b (word_if word ++ words_from [] cs) (words_from (word ++ c ∷ []) cs))) e
      ∙ later (word ++ c ∷ []) (list_all-append is_solid word (c ∷ [])
      ∙ and_from (list_all is_solid word) (is_solid c && true) h (and_from (is_solid c) true (ap not e) refl))

-- LINES

abbrev pub IsNoFeed : ℕ → Type 0
IsNoFeed c = is_feed c ≡ false

no-feed : (c : ℕ) → is_solid c ≡ true → is_feed c ≡ false
no-feed c h = by (is_feed c) refl where
  by : (b : Bool) → is_feed c ≡ b → is_feed c ≡ false
  by false e = e
  by true e =
      let is : c ≡ 10 = eqb-true c 10 e in
      let clash : true ≡ false = sym h ∙ ap is_solid is in
      absurd cc

pub solid-feeds : (cs : List ℕ) → list_all is_solid cs ≡ true → All IsNoFeed cs
solid-feeds [] h = All-nil IsNoFeed
solid-feeds (c ∷ cs) h =
    let both = and_parts (is_solid c) (list_all is_solid cs) h in
    All-cons IsNoFeed c cs (no-feed c both.0) (solid-feeds cs both.1)

pub spaced-feeds : (words : List (List ℕ)) → list_all is_word words ≡ true → All IsNoFeed (spaced words)
spaced-feeds [] h = All-nil IsNoFeed
spaced-feeds (w ∷ ws) h =
    let both = and_parts (is_word w) (list_all is_word ws) h in
    All-cons IsNoFeed 32 (w ++ spaced ws) refl
    (All-append IsNoFeed w (spaced ws) (solid-feeds w (word-solid w both.0)) (spaced-feeds ws both.1))

-- after rules, a text makes others, whatever follows it
pub record Reads (text : List ℕ) (rules next : Rules) : Type 0 where
  pub go : (number : ℕ) (rest : List ℕ) → (later : ℕ)
      × (read_lines number rules (lines_of (text ++ rest)) ≡ read_lines later next (lines_of rest))

pub nothing-read : (rules : Rules) → Reads [] rules rules
nothing-read rules = record { go = λ number rest. (number, refl) }

pub then-read : (a b : List ℕ) (r s t : Rules) → Reads a r s → Reads b s t → Reads (a ++ b) r t
then-read a b r s t f g = record {
  go = λ number rest.
      let first = f.go number (b ++ rest) in
      let second = g.go first.0 rest in (
        second.0,
        ap (λ (text : List ℕ). read_lines number r (lines_of text)) (append_assoc a b rest) ∙ (first.1 ∙ second.1),
      );
}

pub line-read : (keyword : List ℕ) (words : List (List ℕ)) (rules next : Rules) → is_word keyword ≡ true → list_all is_word words ≡ true
    → with_line rules (keyword ∷ words) ≡ Ok next → Reads (line_of keyword words) rules next
line-read keyword words rules next h hs taken = record {
  go = λ number rest.
      let body = keyword ++ spaced words in
      let feeds = All-append IsNoFeed keyword (spaced words) (solid-feeds keyword (word-solid keyword h)) (spaced-feeds words hs) in (
        number + 1,
        ap (λ (text : List ℕ). read_lines number rules (lines_of text)) (append_assoc body (10 ∷ []) rest)
            ∙ (ap (read_lines number rules) (slice_split_at is_feed body 10 rest feeds refl)
            ∙ ap (λ made. then_lines number made (λ next. read_lines (number + 1) next (lines_of rest)))
            (ap (with_line rules) (line-words keyword words h hs) ∙ taken)),
      );
}

-- a line for a list, if there is one
pub list-read : (keyword : List ℕ) (words : List (List ℕ)) (rules : Rules) (next : List (List ℕ) → Rules) → is_word keyword ≡ true
    → list_all is_word words ≡ true → rules ≡ next []
    → ((word : List ℕ) (rest : List (List ℕ)) → with_line rules (keyword ∷ (word ∷ rest)) ≡ Ok (next (word ∷ rest)))
    → Reads (list_text keyword words) rules (next words)
list-read keyword [] rules next h hs none some = subst (λ (made : Rules). Reads [] rules made) none (nothing-read rules)
list-read keyword (word ∷ rest) rules next h hs none some =
    line-read keyword (word ∷ rest) rules (next (word ∷ rest)) h hs (some word rest)

-- WHOLE WORDS, AND BEGINNINGS OF WORDS

none-is : (o : Option (List ℕ)) → is_none o ≡ true → o ≡ None
none-is None h = refl
none-is (Some beginning) h = absurd cc

pub wholes-are : (words : List (List ℕ)) → list_all is_whole words ≡ true → list_all is_word words ≡ true
wholes-are [] h = refl
wholes-are (w ∷ ws) h =
    let both = and_parts (is_whole w) (list_all is_whole ws) h in
    and_from (is_word w) (list_all is_word ws) (and_parts (is_word w) (is_none (after_mark w)) both.0).0 (wholes-are ws both.1)

pub marked-are : (beginnings : List (List ℕ)) → list_all (list_all is_solid) beginnings ≡ true
    → list_all is_word (map marked beginnings) ≡ true
marked-are [] h = refl
marked-are (b ∷ bs) h =
    let both = and_parts (list_all is_solid b) (list_all (list_all is_solid) bs) h in
    and_from (is_word (marked b)) (list_all is_word (map marked bs)) (some-word 94 b both.0) (marked-are bs both.1)

pub wholes-back : (words beginnings : List (List ℕ)) → list_all is_whole words ≡ true
    → whole_words (words ++ map marked beginnings) ≡ words
wholes-back [] [] h = refl
wholes-back [] (b ∷ bs) h = wholes-back [] bs h
wholes-back (w ∷ ws) bs h =
    let both = and_parts (is_whole w) (list_all is_whole ws) h in
    ap (λ (o : Option (List ℕ)). whole_if o w ++ whole_words (ws ++ map marked bs))
    (none-is (after_mark w) (and_parts (is_word w) (is_none (after_mark w)) both.0).1)
    ∙ ap (λ (l : List (List ℕ)). w ∷ l) (wholes-back ws bs both.1)

pub beginnings-back : (words beginnings : List (List ℕ)) → list_all is_whole words ≡ true
    → word_beginnings (words ++ map marked beginnings) ≡ beginnings
beginnings-back [] [] h = refl
beginnings-back [] (b ∷ bs) h = ap (λ (l : List (List ℕ)). b ∷ l) (beginnings-back [] bs h)
beginnings-back (w ∷ ws) bs h =
    let both = and_parts (is_whole w) (list_all is_whole ws) h in
    ap (λ (o : Option (List ℕ)). beginning_if o ++ word_beginnings (ws ++ map marked bs))
    (none-is (after_mark w) (and_parts (is_word w) (is_none (after_mark w)) both.0).1)
    ∙ beginnings-back ws bs both.1
