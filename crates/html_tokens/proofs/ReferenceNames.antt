-- The name of a reference stands at the front of the text.
use Rattle.std.proofs.Common.{◌≡◌, ◌∙◌, ℕ, Bool, true, false, nat_eq, List, [], ◌∷◌, ◌++◌, length, take, drop, Option, Some}
use Rattle.std.proofs.Common.{None, refl, sym, ap}
use Rattle.std.proofs.Math.Seq.{take-append_seam}
use Rattle.std.specs.Prelude.{◌&&◌, not, if◌then◌else◌, codes, IfSome}
use Rattle.std.specs.List.{list_any, ends_with}
use Rattle.std.proofs.lemmas.Bool.{and_parts, eqb-true}
use Rattle.html_tokens.specs.Characters
use Rattle.html_tokens.specs.Clean.{is_named, lacks_quote}
use Rattle.html_tokens.specs.Reference
use Rattle.html_tokens.specs.Table.{Row, longest, longer_of, fitting}
use Rattle.html_tokens.specs.Tags.{reference_len}

-- what is not so is false
pub none-true : (b : Bool) → not b ≡ true → b ≡ false
none-true true h = absurd cc
none-true false h = refl

-- WORDS

-- a first character that fits, and the rest of the word after it
begins-parts : (b : Bool) (go : Unit {0} → Bool) → Characters.begins_by b go ≡ true → (b ≡ true) × (go tt ≡ true)
begins-parts true go h = (refl, h)
begins-parts false go h = absurd cc

-- a text that begins with a word is the word and what stands after it
pub begins-front : (w t : List ℕ) → Characters.begins w t ≡ true → t ≡ w ++ drop (length w) t
begins-front [] t h = refl
begins-front (x ∷ w) [] h = absurd cc
begins-front (x ∷ w) (c ∷ t) h =
    let parts = begins-parts (nat_eq x c) (λ _. Characters.begins w t) h in
    ap (λ y. y ∷ t) (sym (eqb-true x c parts.0)) ∙ ap (λ u. x ∷ u) (begins-front w t parts.1)

-- as many characters as the word has are the word
begins-take : (w t : List ℕ) → Characters.begins w t ≡ true → take (length w) t ≡ w
begins-take w t h = ap (take (length w)) (begins-front w t h) ∙ take-append_seam w (drop (length w) t)

-- ROWS

-- a row whose name the text begins with, or none
abbrev Stands : Option Row → List ℕ → Type 0
Stands o t = IfSome o (λ row. Characters.begins row.name t ≡ true)

-- each choice of a row leaves a row whose name stands at the front
fitting-stands : (b : Bool) (row : Row) (t : List ℕ) → Characters.begins row.name t ≡ b → Stands (fitting b row) t
fitting-stands true row t h = h
fitting-stands false row t h = tt

if-stands : (b : Bool) (x y : Row) (t : List ℕ) → Stands (Some x) t → Stands (Some y) t → Stands (if b then Some x else Some y) t
if-stands true x y t h k = h
if-stands false x y t h k = k

longer_of-stands : (x y : Option Row) (t : List ℕ) → Stands x t → Stands y t → Stands (longer_of x y) t
longer_of-stands None y t h k = k
longer_of-stands (Some x) None t h k = h
longer_of-stands (Some x) (Some y) t h k = if-stands _ x y t h k

-- the longest name stands at the front of the text
longest-stands : (rows : List Row) (t : List ℕ) → Stands (longest rows t) t
longest-stands [] t = tt
longest-stands (row ∷ rows) t = longer_of-stands _ _ t (fitting-stands (Characters.begins row.name t) row t refl) (longest-stands rows t)

-- QUOTES

-- no quote stands in the characters of a name without one
named_by-quote : (text : Bool) (row : Row) (t : List ℕ) → Characters.begins row.name t ≡ true
    → list_any (nat_eq 34) row.name ≡ false → list_any (nat_eq 34) (take (reference_len (Reference.named_by text row)) t) ≡ false
named_by-quote true row t h k = refl
named_by-quote false row t h k = rw (begins-take row.name t h) k

-- the same of the row that was found
named_row-quote : (o : Option Row) (t : List ℕ) → Stands o t → lacks_quote o ≡ true → list_any (nat_eq 34)
    (take (reference_len (Reference.named_row true o t)) t) ≡ false
named_row-quote None t h k = refl
named_row-quote (Some row) t h k = named_by-quote _ row t h (none-true _ k)

-- no quote stands in what a named reference takes in a value
pub named-quote : (rows : List Row) (t : List ℕ) → is_named rows t ≡ true → list_any (nat_eq 34)
    (take (reference_len (Reference.reference_at true rows t)) t) ≡ false
named-quote rows [] h = absurd cc
named-quote rows (c ∷ t) h =
    let parts = and_parts (not (nat_eq c 35) && Reference.ends_in_semicolon (longest rows (c ∷ t)))
    (lacks_quote (longest rows (c ∷ t))) h in
    rw (none-true (nat_eq c 35) (and_parts (not (nat_eq c 35)) _ parts.0).0)
    (named_row-quote (longest rows (c ∷ t)) (c ∷ t) (longest-stands rows (c ∷ t)) parts.1)

-- FAULTS

-- nothing is wrong with a named reference
pub named-faultless : (rows : List Row) (t : List ℕ) → is_named rows t ≡ true → Reference.fault_of_reference rows t ≡ None
named-faultless rows [] h = absurd cc
named-faultless rows (c ∷ t) h =
    let parts = and_parts (not (nat_eq c 35)) (Reference.ends_in_semicolon (longest rows (c ∷ t))) (and_parts _ _ h).0 in
    rw (none-true (nat_eq c 35) parts.0, parts.1) refl

-- a name as long as the word at the front is that word, and ends in ";" and has no quote where the word does so
whole-row : (o : Option Row) (w u : List ℕ) (r : Reference.Reference) → Stands o (w ++ u)
    → Reference.named_row false o (w ++ u) ≡ Some r → r.len ≡ length w → ends_with nat_eq w (codes ";") ≡ true
    → list_any (nat_eq 34) w ≡ false
    → (Reference.ends_in_semicolon o && lacks_quote o) ≡ true
whole-row None w u r h e n k q = absurd cc
whole-row (Some row) w u r h e n k q =
    let long : length row.name ≡ length w = ap reference_len e ∙ n in
    let name : row.name ≡ w = sym (begins-take row.name (w ++ u) h) ∙ ap (λ m. take m (w ++ u)) long ∙ take-append_seam w u in
    rw (name, k, q) refl

-- a reference that is a word with ";" and without a quote is a named one
pub whole-named : (rows : List Row) (c : ℕ) (w u : List ℕ) (r : Reference.Reference) → nat_eq c 35 ≡ false
    → Reference.reference_at false rows ((c ∷ w) ++ u) ≡ Some r → r.len ≡ length (c ∷ w) → ends_with nat_eq (c ∷ w)
    (codes ";") ≡ true → list_any (nat_eq 34) (c ∷ w) ≡ false
    → is_named rows ((c ∷ w) ++ u) ≡ true
whole-named rows c w u r z e n k q =
    let e' : Reference.named_row false (longest rows ((c ∷ w) ++ u)) ((c ∷ w) ++ u) ≡ Some r = rw z at e in
    rw z (whole-row (longest rows ((c ∷ w) ++ u)) (c ∷ w) u r (longest-stands rows ((c ∷ w) ++ u)) e' n k q)
