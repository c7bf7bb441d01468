-- Texts that grow, piece by piece.
use Rattle.std.proofs.Common.{◌≡◌, ◌∙◌, ℕ, ◌+◌, ◌<◌, List, [], ◌∷◌, ◌++◌, Result, Ok, Err, ap, append_assoc, drop, get_or, length, map, refl, sym}
use Rattle.std.specs.Prelude.{OnOk}
use Rattle.std.proofs.lemmas.List.{drop_more}
use Rattle.html_policy_text.specs.Written.{spaced, texts_of}

-- what follows where a call succeeded
pub on-ok : {T E : Type 0} (r : Result T E) (A B : Type 0) → OnOk r A → (A → B) → OnOk r B
on-ok (Ok x) A B h f = f h
on-ok (Err fault) A B h f = tt

-- one word more
pub spaced-turn : {X : Type 0} (word_of : X → List ℕ) (text text' word : List ℕ) (x : X) (xs : List X) (n : ℕ) → n < length xs
    → x ≡ get_or xs n x → word ≡ word_of x → text' ≡ text ++ 32 ∷ word
    → text' ++ spaced (map word_of (drop (n + 1) xs)) ≡ text ++ spaced (map word_of (drop n xs))
spaced-turn word_of text text' word x xs n h is named same =
    let rest = map word_of (drop (n + 1) xs) in
    ap (λ (t : List ℕ). t ++ spaced rest) same
    ∙ (append_assoc text (32 ∷ word) (spaced rest)
    ∙ ap (λ (l : List ℕ). text ++ l) (ap (λ (w : List ℕ). 32 ∷ (w ++ spaced rest)) (named ∙ ap word_of is)
    ∙ sym (ap (λ l. spaced (map word_of l)) (drop_more xs n x h))))

-- the same of words as they are
pub words-turn : (text text' word x : List ℕ) (xs : List (List ℕ)) (n : ℕ) → n < length xs → x ≡ get_or xs n x → word ≡ x
    → text' ≡ text ++ 32 ∷ word → text' ++ spaced (drop (n + 1) xs) ≡ text ++ spaced (drop n xs)
words-turn text text' word x xs n h is named same =
    let rest = drop (n + 1) xs in
    ap (λ (t : List ℕ). t ++ spaced rest) same
    ∙ (append_assoc text (32 ∷ word) (spaced rest)
    ∙ ap (λ (l : List ℕ). text ++ l) (ap (λ (w : List ℕ). 32 ∷ (w ++ spaced rest)) (named ∙ is) ∙ sym (ap spaced (drop_more xs n x h))))

-- one line more
pub texts-turn : {X Y : Type 0} (f : Y → List ℕ) (g : X → Y) (text text' : List ℕ) (x : X) (xs : List X) (n : ℕ) → n < length xs
    → x ≡ get_or xs n x → text' ≡ text ++ f (g x)
    → text' ++ texts_of f (map g (drop (n + 1) xs)) ≡ text ++ texts_of f (map g (drop n xs))
texts-turn f g text text' x xs n h is same =
    let rest = texts_of f (map g (drop (n + 1) xs)) in
    ap (λ (t : List ℕ). t ++ rest) same
    ∙ (append_assoc text (f (g x)) rest
    ∙ ap (λ (l : List ℕ). text ++ l) (ap (λ (y : _). f (g y) ++ rest) is ∙ sym (ap (λ l. texts_of f (map g l)) (drop_more xs n x h))))

-- a piece more
pub piece-more : {X : Type 0} (f : X → List ℕ) (before before' after : List ℕ) (x y : X) → after ≡ before ++ f x → before ≡ before'
    → x ≡ y → after ≡ before' ++ f y
piece-more f before before' after x y is was same =
    is ∙ (ap (λ (t : List ℕ). t ++ f x) was ∙ ap (λ z. before' ++ f z) same)

-- words after others
pub spaced-append : (xs ys : List (List ℕ)) → spaced (xs ++ ys) ≡ spaced xs ++ spaced ys
spaced-append [] ys = refl
spaced-append (x ∷ xs) ys = ap (λ (l : List ℕ). 32 ∷ (x ++ l)) (spaced-append xs ys)
    ∙ ap (λ (l : List ℕ). 32 ∷ l) (sym (append_assoc x (spaced xs) (spaced ys)))

-- a line of a keyword and words
pub line-of : (text keyword words : List ℕ) → ((text ++ keyword) ++ words) ++ 10 ∷ [] ≡ text ++ ((keyword ++ words) ++ 10 ∷ [])
line-of text keyword words = simp append_assoc

-- the same with a word before the others
pub line-with : (text keyword word words : List ℕ)
    → (((text ++ keyword) ++ 32 ∷ word) ++ words) ++ 10 ∷ [] ≡ text ++ ((keyword ++ 32 ∷ (word ++ words)) ++ 10 ∷ [])
line-with text keyword word words = simp append_assoc

pub line-with-two : (text keyword word other words : List ℕ)
    → ((((text ++ keyword) ++ 32 ∷ word) ++ 32 ∷ other) ++ words) ++ 10 ∷ []
    ≡ text ++ ((keyword ++ 32 ∷ (word ++ 32 ∷ (other ++ words))) ++ 10 ∷ [])
line-with-two text keyword word other words = simp append_assoc
