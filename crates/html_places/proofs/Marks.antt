-- Places that are added one after the other.
use Rattle.std.proofs.Common.{◌≡◌, ◌+◌, ◌++◌, ◌∷◌, ℕ, false, List, [], arith, subst, sym, take}
use Rattle.std.proofs.lemmas.Bool.Decides.{nat_tests}
use Rattle.std.proofs.lemmas.List.{get_or-take, length-take}
use Rattle.std.proofs.lemmas.List.Elements.{All-push}
use Rattle.std.proofs.lemmas.List.Kept.{IsSortedBy-push}
use Rattle.html_places.specs.Places.{ArePlaces, IsNotBefore, IsPlaceIn, is_before}
use Rattle.html_places.specs.declared.place.Place.{Place}

pub not-itself : (p : Place) → is_before p p ≡ false
not-itself p = grind (arith, nat_tests)

pub places-push : (text : List ℕ) (places : List Place) (p : Place) → ArePlaces text places → IsPlaceIn text p → IsNotBefore places p
    → ArePlaces text (places ++ p ∷ [])
places-push text places p are is last = record {
  each = All-push (IsPlaceIn text) places p are.each is;
  in_order = IsSortedBy-push is_before places p are.in_order last;
}

pub no-places : (text : List ℕ) → ArePlaces text []
no-places text = record {
  each = λ k d within. absurd (omega (arith, within));
  in_order = λ k d from within. absurd (omega (arith, within));
}

-- the first of some places
pub places-take : (text : List ℕ) (places : List Place) (n : ℕ) → ArePlaces text places → ArePlaces text (take n places)
places-take text places n are =
    let short = length-take n places in
    record {
      each = λ k d within. subst (IsPlaceIn text) (sym (get_or-take n places k d (omega arith))) (are.each k d (omega arith));
      in_order = λ k d from within. rw (get_or-take n places k d (omega arith), get_or-take n places (k + 1) d (omega arith))
          (are.in_order k d from (omega arith));
    }
