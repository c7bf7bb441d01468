-- Lists that are made one by one.
use Rattle.std.proofs.Common.{◌≡◌, ◌∙◌, ℕ, ◌+◌, ◌<◌, List, [], ◌∷◌, ◌++◌, append_assoc, drop, get_or, length, map, take, ap, sym}
use Rattle.std.proofs.lemmas.List.{at_drop_more, map-append, take_more}

-- what was made of so many, and of one more
pub mapped-more : {A B : Type 0} (f : A → B) (xs : List A) (n : ℕ) (d : A) (y : B) → n < length xs
    → y ≡ f (get_or xs n d) → map f (take n xs) ++ y ∷ [] ≡ map f (take (n + 1) xs)
mapped-more f xs n d y h e = ap (λ y. map f (take n xs) ++ y ∷ []) e
    ∙ sym (ap (map f) (take_more xs n d h) ∙ map-append f (take n xs) (get_or xs n d ∷ []))

-- the same after others
pub pushed-more : {A B C : Type 0} (g : C → B) (f : A → B) (items : List C) (front : List B) (xs : List A) (n : ℕ)
    (d : A) (y : C) → map g items ≡ front ++ map f (take n xs) → n < length xs → g y ≡ f (get_or xs n d)
    → map g (items ++ y ∷ []) ≡ front ++ map f (take (n + 1) xs)
pushed-more g f items front xs n d y inv h e =
    map-append g items (y ∷ [])
    ∙ (ap (λ made. made ++ g y ∷ []) inv
    ∙ (append_assoc front (map f (take n xs)) (g y ∷ []) ∙ ap (λ made. front ++ made) (mapped-more f xs n d (g y) h e)))

-- what is left of a list, by its first
pub dropped-more : {A B : Type 0} (f : List A → B) (xs : List A) (n : ℕ) (x : A) → n < length xs → x ≡ get_or xs n x
    → f (drop n xs) ≡ f (x ∷ drop (n + 1) xs)
dropped-more f xs n x h e = at_drop_more f xs n x h ∙ ap (λ y. f (y ∷ drop (n + 1) xs)) (sym e)
