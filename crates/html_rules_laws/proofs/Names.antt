-- Lists of names that have none in common, or have one.
use Rattle.std.proofs.Common.{◌≡◌, ℕ, Bool, true, false, ◌||◌, List, [], ◌∷◌, refl, sym, subst, true≢false, ◌∙◌}
use Rattle.std.specs.Str.{bytes_eq}
use Rattle.std.proofs.lemmas.Slice.Eq.{bytes_eq-Decides}
use Rattle.html_rules.specs.Sets.{is_among}

-- whether a name stands in both lists
abbrev pub shares_name : List (List ℕ) → List (List ℕ) → Bool
shares_name [] names = false
shares_name (x ∷ xs) names = is_among x names || shares_name xs names

or_parts : (a b : Bool) (P : Type 0) → (a || b) ≡ true → (a ≡ true → P) → (b ≡ true → P) → P
or_parts true b P h f g = f refl
or_parts false b P h f g = g h

or_left : (a b : Bool) → a ≡ true → (a || b) ≡ true
or_left a b h = rw h refl

or_right : (a b : Bool) → b ≡ true → (a || b) ≡ true
or_right true b h = refl
or_right false b h = h

-- a name that stands in both is shared
pub shares : (name : List ℕ) (xs names : List (List ℕ)) → is_among name xs ≡ true → is_among name names ≡ true → shares_name xs names ≡ true
shares name [] names h k = absurd (true≢false (sym h))
shares name (x ∷ xs) names h k =
    or_parts (bytes_eq name x) (is_among name xs) (shares_name (x ∷ xs) names ≡ true) h
    (λ e. or_left (is_among x names) (shares_name xs names) (subst (λ y. is_among y names ≡ true) ((bytes_eq-Decides name x).0 e) k))
    (λ e. or_right (is_among x names) (shares_name xs names) (shares name xs names e k))

-- a name of one list is none of a list that has none in common with it
pub disjoint : (name : List ℕ) (xs names : List (List ℕ)) → shares_name xs names ≡ false → is_among name xs ≡ true
    → is_among name names ≡ false
disjoint name xs names h k = by (is_among name names) refl where
  by : (b : Bool) → is_among name names ≡ b → is_among name names ≡ false
  by true e = absurd (true≢false (sym (shares name xs names k e) ∙ h))
  by false e = e
