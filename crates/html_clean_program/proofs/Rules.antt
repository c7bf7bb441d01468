-- What the word of an element says, by how it is split.
use Rattle.std.proofs.Common.{◌≡◌, ◌∙◌, ℕ, ◌<◌, List, [], ◌∷◌, Bor, ap, arith, length, map, refl}
use Rattle.std.proofs.lemmas.Bool.{le-ltb, lt-ltb}
use Rattle.std.specs.List.{after_first, before_first, position_or_len, slice_split}
use Rattle.std.specs.Str.{chars}
use Rattle.html_clean_program.specs.Policies.{is_colon, is_comma, rule_of}

names-of : (parts : List (Bor (List ℕ))) → map (λ name. chars name.now) parts ≡ map chars (map (λ name. name.now) parts)
names-of [] = refl
names-of (part ∷ parts) = ap (λ names. chars part.now ∷ names) (names-of parts)

-- an element and its attributes
pub rule-split : (word element list : List ℕ) (parts : List (Bor (List ℕ))) → position_or_len is_colon word < length word
    → element ≡ before_first is_colon word → list ≡ after_first is_colon word
    → map (λ name. name.now) parts ≡ slice_split is_comma list → (chars element, map (λ name. chars name.now) parts) ≡ rule_of word
rule-split word element list parts inside before after split =
    rw (lt-ltb _ _ inside) (
    let names = names-of parts ∙ ap (map chars) (split ∙ ap (slice_split is_comma) after) in
    λ i. (chars (before i), names i)
    )

-- an element alone
pub rule-alone : (word : List ℕ) → position_or_len is_colon word ≡ length word → (chars word, []) ≡ rule_of word
rule-alone word none = rw (le-ltb (position_or_len is_colon word) (length word) (omega (arith, none))) refl
