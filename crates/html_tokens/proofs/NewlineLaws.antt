-- Line breaks of a text in pieces.
use Rattle.std.proofs.Common.{◌≡◌, ◌∙◌, ℕ, Bool, true, false, nat_eq, List, [], ◌∷◌, ◌++◌, refl, sym, ap}
use Rattle.std.specs.Prelude.{◌&&◌, not}
use Rattle.std.specs.List.{list_all}
use Rattle.std.proofs.lemmas.Bool.{and_parts}
use Rattle.html_tokens.specs.Laws.{ends_in_return, flatten, newlines_of_pieces}
use Rattle.html_tokens.specs.NormalText.{newline_by, newlines_after}

newline_by-append : (a b : Bool) (c : ℕ) (go long u : Bool → List ℕ) → ((r : Bool) → long r ≡ go r ++ u r)
    → newline_by a b c long ≡ newline_by a b c go ++ u a
newline_by-append true b c go long u h = ap (λ l. 10 ∷ l) (h true)
newline_by-append false true c go long u h = h false
newline_by-append false false c go long u h = ap (λ l. c ∷ l) (h false)

-- a text in two pieces
pub newlines-append : (cr : Bool) (a b : List ℕ) → newlines_after cr (a ++ b) ≡ newlines_after cr a
    ++ newlines_after (ends_in_return cr a) b
newlines-append cr [] b = refl
newlines-append cr (c ∷ a) b =
    newline_by-append (nat_eq c 13) (cr && nat_eq c 10) c (λ r. newlines_after r a) (λ r. newlines_after r (a ++ b))
    (λ r. newlines_after (ends_in_return r a) b) (λ r. newlines-append r a b)

-- a text in any pieces
pub newlines-pieces : (cr : Bool) (ps : List (List ℕ)) → newlines_of_pieces cr ps ≡ newlines_after cr (flatten ps)
newlines-pieces cr [] = refl
newlines-pieces cr (p ∷ ps) = ap (λ l. newlines_after cr p ++ l) (newlines-pieces (ends_in_return cr p) ps)
    ∙ sym (newlines-append cr p (flatten ps))

not-false : (b : Bool) → not b ≡ true → b ≡ false
not-false true h = cc
not-false false h = refl

newline_by-other : (a b : Bool) (c : ℕ) (go : Bool → List ℕ) → a ≡ false → b ≡ false → newline_by a b c go ≡ c ∷ go false
newline_by-other a b c go h k = rw (h, k) refl

-- text without a carriage return
pub newlines-own : (t : List ℕ) → list_all (λ c. not (nat_eq c 13)) t ≡ true → newlines_after false t ≡ t
newlines-own [] h = refl
newlines-own (c ∷ t) h =
    let parts = and_parts (not (nat_eq c 13)) (list_all (λ c. not (nat_eq c 13)) t) h in
    newline_by-other _ _ c (λ b. newlines_after b t) (not-false _ parts.0) refl ∙ ap (λ l. c ∷ l) (newlines-own t parts.1)
