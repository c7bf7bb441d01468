-- The words after a command.
use Rattle.std.proofs.Common.{◌≡◌, ◌∙◌, ◌≤◌, ◌-◌, ℕ, Bool, true, false, List, [], ◌∷◌, Some, None}
use Rattle.std.proofs.Common.{ap, arith, drop, length, map, refl, sym, take}
use Rattle.std.proofs.lemmas.List.{take_all}
use Rattle.std.specs.Prelude.{◌&&◌, ◌||◌, String, codes, cond, not}
use Rattle.std.specs.List.{list_any, slice_index_or}
use Rattle.std.specs.Str.{bytes_eq}
use Rattle.std.specs.String.{string_bytes}
use Rattle.std.specs.declared.alloc.Global.{Global}
use Rattle.figpliers_program.specs.Cleaning.{clean_words, is_about}

any-map : {X Y : Type 0} (p : Y → Bool) (h : X → Y) (xs : List X) → list_any p (map h xs) ≡ list_any (λ x. p (h x)) xs
any-map p h [] = refl
any-map p h (x ∷ xs) = ap (λ b. p (h x) || b) (any-map p h xs)

rest-is : {X : Type 0} (a b : X) (xs : List X) → take (length (a ∷ (b ∷ xs)) - 2) xs ≡ xs
rest-is a b xs = take_all (length (a ∷ (b ∷ xs)) - 2) xs (omega (arith))

-- the words after the second
abbrev pub rest_of : List (String Global) → List (String Global)
rest_of words = take (length words - 2) (drop 2 words)

-- by whether the second word is `clean`, and whether one after it asks for something else
pub given : (words : List (String Global)) (command : String Global) → 2 ≤ length words → command ≡ slice_index_or words 1 command
    → clean_words (map string_bytes words) ≡ cond (bytes_eq (string_bytes command) (codes "clean")
    && not (list_any (λ word. is_about (string_bytes word)) (rest_of words))) (Some (map string_bytes (rest_of words))) None
given [] command least is = absurd (omega (arith, least))
given (program ∷ []) command least is = absurd (omega (arith, least))
given (program ∷ (word ∷ words)) command least is =
    ap (λ (w : String Global). cond (bytes_eq (string_bytes w) (codes "clean") && not (list_any is_about (map string_bytes words)))
    (Some (map string_bytes words)) None) (sym is)
    ∙ ap (λ b. cond (bytes_eq (string_bytes command) (codes "clean") && not b) (Some (map string_bytes words)) None)
    (any-map is_about string_bytes words)
    ∙ ap (λ (ws : List (String Global)). cond (bytes_eq (string_bytes command) (codes "clean")
    && not (list_any (λ word. is_about (string_bytes word)) ws)) (Some (map string_bytes ws)) None) (sym (rest-is program word words))

not-false : (b : Bool) → not b ≡ false → b ≡ true
not-false true is = refl
not-false false is = absurd cc

-- the second word is `clean`, and this is whether one after it asks for something else
pub of-clean : (words : List (String Global)) (command : String Global) (text : List ℕ) (other about : Bool) → 2 ≤ length words
    → command ≡ slice_index_or words 1 command → text ≡ string_bytes command
    → other ≡ not (bytes_eq text (codes "clean")) → other ≡ false
    → about ≡ list_any (λ word. is_about (string_bytes word)) (rest_of words)
    → clean_words (map string_bytes words) ≡ cond (not about) (Some (map string_bytes (rest_of words))) None
of-clean words command text other about least is spelled compared not-other told =
    let rest = rest_of words in
    given words command least is
    ∙ ap (λ t. cond (bytes_eq t (codes "clean") && not (list_any (λ word. is_about (string_bytes word)) rest))
    (Some (map string_bytes rest)) None) (sym spelled)
    ∙ ap (λ b. cond (b && not (list_any (λ word. is_about (string_bytes word)) rest)) (Some (map string_bytes rest)) None)
    (not-false (bytes_eq text (codes "clean")) (sym compared ∙ not-other))
    ∙ ap (λ b. cond (not b) (Some (map string_bytes rest)) None) (sym told)
