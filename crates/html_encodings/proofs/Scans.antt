-- Loops over words and rows.
use Rattle.std.proofs.Common.{◌≡◌, ◌∙◌, ℕ, suc, ◌+◌, ◌<◌, Bool, true, false, Option, Some, None, List, [], length, get_or, take, drop}
use Rattle.std.proofs.Common.{map, ◌++◌}
use Rattle.std.proofs.Common.{refl, sym, ap, drop-cons, add-one, rules}
use Rattle.std.specs.Prelude.{find, bytes_eq, IsTrue, ◌↔◌}
use Rattle.std.proofs.Math.Seq.{take-add}
use Rattle.std.proofs.lemmas.Slice.Eq.{bytes_eq-Decides}
use Rattle.html_encodings.specs.Scanning.{begins}
use Rattle.html_encodings.specs.Prescan.{Attribute, Attempt, Tag, attribute, attributes, heeding, Turn, turn, scan}
use Rattle.html_encodings.specs.declared.names.Encoding.{Encoding}

-- the first row that passes is here, or among the later ones
pub find_here : {A B : Type 0} (p : B → Bool) (v : A → B) (xs : List A) (i : ℕ) (d : A) → i < length xs → p (v (get_or xs i d)) ≡ true
    → find p (map v (drop i xs)) ≡ Some (v (get_or xs i d))
find_here p v xs i d less here = rw (drop-cons xs i d, here) refl

pub find_later : {A B : Type 0} (p : B → Bool) (v : A → B) (xs : List A) (i : ℕ) (d : A) → i < length xs → p (v (get_or xs i d)) ≡ false
    → find p (map v (drop i xs)) ≡ find p (map v (drop (i + 1) xs))
find_later p v xs i d less here = rw (add-one, drop-cons xs i d, here) refl

-- a word that is not over is no front of nothing
pub begins_short : (word rest : List ℕ) (i : ℕ) → i < length word → rest ≡ [] → begins (drop i word) rest ≡ false
begins_short word rest i less is = rw (drop-cons word i 0, is) refl

-- a test of two texts
pub same_test : (xs ys : List ℕ) (r : Bool) → (IsTrue r ↔ (xs ≡ ys)) → bytes_eq xs ys ≡ r
same_test xs ys r test = search (rules, bytes_eq-Decides)

-- a front is its first element, and then a front of the rest
pub take_one_more : (n : ℕ) (xs : List ℕ) → take (1 + n) xs ≡ take 1 xs ++ take n (drop 1 xs)
take_one_more n xs = take-add 1 n xs

-- one attribute more
pub attributes_step : (n m : ℕ) (tag : Tag) (got : Attempt) (a : Attribute) → n ≡ suc m → got ≡ attribute tag.rest → got.attribute ≡ Some a
    → attributes n tag ≡ attributes m (record { meta = heeding tag.meta a; rest = got.rest })
attributes_step n m tag got a more is some =
    let after : Attempt → Tag = λ got. elim got.attribute as (λ _. Tag) [
      | None ↦ record { meta = tag.meta; rest = got.rest }
      | Some a ↦ attributes m (record { meta = heeding tag.meta a; rest = got.rest })
    ] in
    rw more (ap after (sym is) ∙ rw some refl)

-- one turn of the loop
after_turn : ℕ → Turn → Option Encoding
after_turn n next = elim next.found as (λ _. Option Encoding) [ None ↦ scan n next.rest | Some encoding ↦ Some encoding ]

pub scan_goes : (n m : ℕ) (bytes : List ℕ) (next : Turn) → n ≡ suc m → next ≡ turn bytes → next.found ≡ None → scan n bytes
    ≡ scan m next.rest
unfolding after_turn
scan_goes n m bytes next more is none = rw more (ap (after_turn m) (sym is) ∙ rw none refl)

pub scan_found : (n m : ℕ) (bytes : List ℕ) (next : Turn) (e : Encoding) → n ≡ suc m → next ≡ turn bytes → next.found ≡ Some e
    → scan n bytes ≡ Some e
unfolding after_turn
scan_found n m bytes next e more is some = rw more (ap (after_turn m) (sym is) ∙ rw some refl)
