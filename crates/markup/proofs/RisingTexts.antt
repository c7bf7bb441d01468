-- What a search finds among texts in order.
use Rattle.std.proofs.Common.{◌≡◌, ◌∙◌, ℕ, zero, suc, ◌+◌, ◌<◌, Bool, true, false, List, [], ◌∷◌, length, get_or, map, refl, ap}
use Rattle.std.proofs.Common.{arith, add-one, inl, inr}
use Rattle.std.specs.Prelude.{◌||◌}
use Rattle.std.specs.Cmp.Lexicographic.{slice_cmp, nat_list_cmp_total, nat_list_eq_equiv, texts_ties}
use Rattle.std.specs.List.{list_any}
use Rattle.std.specs.List.Sorted.{IsSortedBy, IsPartitionPoint}
use Rattle.std.specs.Ordering.{nat_cmp, is_lt, is_eq, ordering_reverse}
use Rattle.std.specs.declared.cmp.Ordering.{Ordering}
use Rattle.std.specs.declared.cmp.Ordering.TheVariants.{Less, Equal, Greater}
use Rattle.std.specs.Str.{bytes_eq}
use Rattle.std.proofs.lemmas.Bool.{and_parts, cases_lt}
use Rattle.std.proofs.lemmas.List.{get_or-map, length-map}
use Rattle.std.proofs.lemmas.List.Folds.{list_any_none}
use Rattle.std.proofs.lemmas.Slice.Eq.{bytes_eq-Decides}
use Rattle.markup.specs.KnownNames.{rises, rises_from}

reversed : (o : Ordering) → is_lt o ≡ true → is_lt (ordering_reverse o) ≡ false
reversed Less h = refl
reversed Equal h = refl
reversed Greater h = absurd cc

not_below : (x y : List ℕ) → is_lt (slice_cmp nat_cmp x y) ≡ true → is_lt (slice_cmp nat_cmp y x) ≡ false
not_below x y h = ap is_lt (nat_list_cmp_total.antisymm y x) ∙ reversed (slice_cmp nat_cmp x y) h

rises_from-below : (x : List ℕ) (xs : List (List ℕ)) → rises_from x xs ≡ true → (k : ℕ) → k + 1 < length (x ∷ xs)
    → (d : List ℕ) → is_lt (slice_cmp nat_cmp (get_or (x ∷ xs) (k + 1) d) (get_or (x ∷ xs) k d)) ≡ false
rises_from-below x [] h k l d = absurd (omega arith)
rises_from-below x (y ∷ ys) h zero l d = not_below x y (and_parts _ _ h).0
rises_from-below x (y ∷ ys) h (suc k) l d =
    let below = rises_from-below y ys (and_parts _ _ h).1 k (omega arith) d in
    rw add-one (rw add-one at below)

rises-below : (xs : List (List ℕ)) → rises xs ≡ true → (k : ℕ) → k + 1 < length xs → (d : List ℕ)
    → is_lt (slice_cmp nat_cmp (get_or xs (k + 1) d) (get_or xs k d)) ≡ false
rises-below [] h k l d = absurd (omega arith)
rises-below (x ∷ xs) h k l d = rises_from-below x xs h k l d

-- what rises is sorted
pub IsSortedBy-rises : {X : Type 0} (key : X → List ℕ) (xs : List X) → rises (map key xs) ≡ true
    → IsSortedBy (λ a b. is_lt (slice_cmp nat_cmp (key a) (key b))) xs
IsSortedBy-rises key xs h = λ k d z l.
    let under : k < length xs = omega arith in
    let high = get_or-map key xs (k + 1) d (key d) l in
    let low = get_or-map key xs k d (key d) under in
    rw (← high, ← low) (rises-below (map key xs) h k (rw length-map l) (key d))

apart : (x name : List ℕ) (o : Ordering) → slice_cmp nat_cmp x name ≡ o → is_eq o ≡ false → bytes_eq name x ≡ false
apart x name o e h = nat_list_eq_equiv.symm name x ∙ (texts_ties x name ∙ (ap is_eq e ∙ h))

list_any-map : {X Y : Type 0} (p : Y → Bool) (f : X → Y) (xs : List X) → list_any p (map f xs) ≡ list_any (λ x. p (f x)) xs
list_any-map p f [] = refl
list_any-map p f (x ∷ xs) = ap (λ b. p (f x) || b) (list_any-map p f xs)

-- a text is not among others of which each comes before it or after it
pub none_found : {X : Type 0} (key : X → List ℕ) (xs : List X) (name : List ℕ) (i : ℕ)
    → IsPartitionPoint (λ x. slice_cmp nat_cmp (key x) name ≡ Less) (λ x. slice_cmp nat_cmp (key x) name ≡ Greater)
    xs i → list_any (bytes_eq name) (map key xs) ≡ false
none_found key xs name i h =
    list_any-map (bytes_eq name) key xs
    ∙ list_any_none (λ x. bytes_eq name (key x)) xs (λ k d l.
    elim (cases_lt k i) [
      | inl below ↦ apart (key (get_or xs k d)) name Less (h.0 k d (omega arith) below) refl
      | inr above ↦ apart (key (get_or xs k d)) name Greater (h.1 k d above l) refl
    ])

pub same_from_Equal : (x y : List ℕ) → slice_cmp nat_cmp x y ≡ Equal → x ≡ y
same_from_Equal x y e = (bytes_eq-Decides x y).0 (texts_ties x y ∙ ap is_eq e)
