-- Indexes beside lists of attributes.
use Rattle.std.proofs.Common.{◌≡◌, ◌∙◌, ℕ, suc, ◌+◌, ◌<◌, Bool, true, false, cond, List, [], ◌∷◌, ◌++◌, length, take, get_or}
use Rattle.std.proofs.Common.{Option, Some, None, Result, Ok, Err, refl, sym, ap, subst, arith, true≢false, Bor, IfSome, IsSome}
use Rattle.std.specs.Prelude.{◌||◌, ◌&&◌, not, is_ok, is_some, OnOk}
use Rattle.std.specs.BTreeMap.{is_at}
use Rattle.std.specs.Cmp.Lexicographic.{slice_cmp, nat_list_eq_equiv, texts_ties}
use Rattle.std.specs.Global.{Box}
use Rattle.std.specs.List.{find, list_any, position_from, slice_get}
use Rattle.std.specs.Option.{option_copied}
use Rattle.std.specs.Ordering.{nat_cmp}
use Rattle.std.specs.Str.{bytes_eq}
use Rattle.std.proofs.Math.Bool.{and-true, or-false}
use Rattle.std.proofs.Math.Seq.{take-suc}
use Rattle.std.proofs.lemmas.List.{length-take-le}
use Rattle.std.proofs.lemmas.Option.{slice_get-get_or}
use Rattle.std.proofs.lemmas.List.Folds.{list_any-append}
use Rattle.markup.specs.declared.attribute_index.AttributeIndex.{AttributeIndex}
use Rattle.markup.specs.declared.attributes.Attribute.{Attribute}
use Rattle.markup.specs.AttributeIndex.{AddsPlace, FitsIndex, IsIndex, first_place, place_in}
use Rattle.markup.specs.Attributes.{are_distinct, has_local_name, place_of}
use Rattle.markup.specs.Equality.{texts_by_value}

first_place-none : (place : Option ℕ) → first_place place None ≡ place
first_place-none None = refl
first_place-none (Some n) = refl

-- a search among one more
more_by : (b : Bool) (place found : Option ℕ) (last : Option ℕ) → found ≡ first_place place last → (n : ℕ)
    → cond b (Some n) found ≡ first_place (cond b (Some n) place) last
more_by true place found last e n = refl
more_by false place found last e n = e

position-more : (t : Attribute → Bool) (i : ℕ) (l : List Attribute) (x : Attribute)
    → position_from t i (l ++ x ∷ []) ≡ first_place (position_from t i l) (cond (t x) (Some (i + length l)) None)
position-more t i [] x = ap (λ n. cond (t x) (Some n) None) (omega arith)
position-more t i (y ∷ l) x =
    more_by (t y) (position_from t (i + 1) l) (position_from t (i + 1) (l ++ x ∷ []))
    (cond (t x) (Some (i + length (y ∷ l))) None)
    (position-more t (i + 1) l x ∙ ap (λ n. first_place (position_from t (i + 1) l) (cond (t x) (Some n) None)) (omega arith)) i

-- a search finds something just where something passes
some_by : (b : Bool) (n : ℕ) (place : Option ℕ) (any : Bool) → is_some place ≡ any → is_some (cond b (Some n) place) ≡ (b || any)
some_by true n place any e = refl
some_by false n place any e = e

position-any : (t : Attribute → Bool) (i : ℕ) (l : List Attribute) → is_some (position_from t i l) ≡ list_any t l
position-any t i [] = refl
position-any t i (y ∷ l) = some_by (t y) i (position_from t (i + 1) l) (list_any t l) (position-any t (i + 1) l)

-- an element so far after the place where a search began is what is found
record IsFound (t : Attribute → Bool) (i : ℕ) (l : List Attribute) (place : ℕ) : Type 0 where
  behind : ℕ
  at : place ≡ i + behind
  inside : behind < length l
  is : slice_get l behind ≡ find t l

-- what stands at the place that a search finds
abbrev Found : (Attribute → Bool) → ℕ → List Attribute → Option ℕ → Type 0
Found t i l None = find t l ≡ None
Found t i l (Some place) = IsFound t i l place

found_next : (t : Attribute → Bool) (i : ℕ) (x : Attribute) (l : List Attribute) → t x ≡ false → (place : Option ℕ)
    → Found t (i + 1) l place → Found t i (x ∷ l) place
found_next t i x l e None h = rw e h
found_next t i x l e (Some place) h = record {
  behind = suc h.behind;
  at = omega (arith, h.at);
  inside = omega (arith, h.inside);
  is = rw e h.is;
}

found_by : (t : Attribute → Bool) (i : ℕ) (x : Attribute) (l : List Attribute) (b : Bool) → t x ≡ b
    → Found t (i + 1) l (position_from t (i + 1) l) → Found t i (x ∷ l) (cond b (Some i) (position_from t (i + 1) l))
found_by t i x l true e h = record { behind = 0; at = omega arith; inside = omega arith; is = rw e refl }
found_by t i x l false e h = found_next t i x l e (position_from t (i + 1) l) h

found : (t : Attribute → Bool) (i : ℕ) (l : List Attribute) → Found t i l (position_from t i l)
found t i [] = refl
found t i (x ∷ l) = found_by t i x l (t x) refl (found t (i + 1) l)

-- nothing is found where no place is
pub find-none : (name : List ℕ) (l : List Attribute) → place_of name l ≡ None → find (λ a. bytes_eq name a.name.local) l ≡ None
find-none name l e = let t : Attribute → Bool = λ a. bytes_eq name a.name.local in subst (λ place. Found t 0 l place) e (found t 0 l)

-- what is found stands at its place
pub find-at : (name : List ℕ) (l : List Attribute) (place : ℕ) → place_of name l ≡ Some place
    → slice_get l place ≡ find (λ a. bytes_eq name a.name.local) l
find-at name l place e =
    let t : Attribute → Bool = λ a. bytes_eq name a.name.local in
    let there : Found t 0 l (Some place) = subst (λ place. Found t 0 l place) e (found t 0 l) in
    ap (λ n. slice_get l n) (omega (arith, there.at)) ∙ there.is

-- what a slice lends at a place of it
pub lent : (l : List Attribute) (place : ℕ) (r : Option (Bor Attribute)) → place < length l
    → (place < length l → IsSome r) → IfSome r (λ x. x.now ≡ get_or l place x.now) → option_copied r ≡ slice_get l place
lent l place None inside some at = absurd (true≢false (sym (some inside)))
lent l place (Some x) inside some at = ap (λ a. Some a) at ∙ sym (slice_get-get_or l place x.now inside)

-- a place that was found is one of the list
pub place-inside : (name : List ℕ) (l : List Attribute) (place : ℕ) → place_of name l ≡ Some place → place < length l
place-inside name l place e =
    let t : Attribute → Bool = λ a. bytes_eq name a.name.local in
    let there : Found t 0 l (Some place) = subst (λ place. Found t 0 l place) e (found t 0 l) in
    omega (arith, there.at, there.inside)

has_local_name-more : (name : List ℕ) (attributes : List Attribute) (attribute : Attribute) → has_local_name name
    (attributes ++ attribute ∷ []) ≡ (has_local_name name attributes || bytes_eq name attribute.name.local)
has_local_name-more name attributes attribute =
    list_any-append (λ a. bytes_eq name a.name.local) attributes (attribute ∷ [])
    ∙ ap (λ b. has_local_name name attributes || b) (or-false (bytes_eq name attribute.name.local))

distinct_by : (h e d g : Bool) → (not (h || e) && (d && not g)) ≡ ((not h && d) && not (e || g))
distinct_by true e d g = refl
distinct_by false true true g = refl
distinct_by false true false g = refl
distinct_by false false true g = refl
distinct_by false false false g = refl

-- an attribute more keeps names distinct where its own is new
distinct-more : (attributes : List Attribute) (attribute : Attribute) → are_distinct (attributes ++ attribute ∷
    []) ≡ (are_distinct attributes && not (has_local_name attribute.name.local attributes))
distinct-more [] attribute = refl
distinct-more (first ∷ rest) attribute =
    ap (λ b. not b && are_distinct (rest ++ attribute ∷ [])) (has_local_name-more first.name.local rest attribute
    ∙ ap (λ b. has_local_name first.name.local rest || b) (nat_list_eq_equiv.symm first.name.local attribute.name.local))
    ∙ (ap (λ b. not (has_local_name first.name.local rest || bytes_eq attribute.name.local first.name.local) && b)
    (distinct-more rest attribute)
    ∙ distinct_by (has_local_name first.name.local rest) (bytes_eq attribute.name.local first.name.local)
    (are_distinct rest) (has_local_name attribute.name.local rest))

pub IsIndex-more : (old new : AttributeIndex) (attributes : List Attribute) (attribute : Attribute)
    → IsIndex old attributes → AddsPlace attribute.name.local (length attributes) old new → IsIndex new (attributes ++ attribute ∷ [])
IsIndex-more old new attributes attribute h more = record {
  places = λ name.
      more.places name
      ∙ (ap (λ place. first_place place (cond (bytes_eq name attribute.name.local) (Some (length attributes)) None)) (h.places name)
      ∙ sym (position-more (λ a. bytes_eq name a.name.local) 0 attributes attribute
      ∙ ap (λ n. first_place (place_of name attributes) (cond (bytes_eq name attribute.name.local) (Some n) None)) (omega arith)));
  are_distinct =
      more.are_distinct
      ∙ (ap (λ b. b && not (is_some (place_in old.places attribute.name.local))) h.are_distinct
      ∙ (ap (λ place. are_distinct attributes && not (is_some place)) (h.places attribute.name.local)
      ∙ (ap (λ b. are_distinct attributes && not b) (position-any (λ a. bytes_eq attribute.name.local a.name.local) 0 attributes)
      ∙ sym (distinct-more attributes attribute))));
}

-- the same, of an attribute with that local name
pub IsIndex-named : (old new : AttributeIndex) (attributes : List Attribute) (attribute : Attribute) (name : List ℕ)
    → attribute.name.local ≡ name → IsIndex old attributes → AddsPlace name (length attributes) old new
    → IsIndex new (attributes ++ attribute ∷ [])
IsIndex-named old new attributes attribute name is h more =
    IsIndex-more old new attributes attribute h (subst (λ n. AddsPlace n (length attributes) old new) (sym is) more)

-- the index says which local names there are
pub IsIndex-names : (index : AttributeIndex) (attributes : List Attribute) → IsIndex index attributes
    → (name : List ℕ) → is_some (place_in index.places name) ≡ has_local_name name attributes
IsIndex-names index attributes h name =
    ap (λ place. is_some place) (h.places name) ∙ position-any (λ a. bytes_eq name a.name.local) 0 attributes

put_by : (b : Bool) (old : Option ℕ) (place : ℕ) → (b ≡ true → old ≡ None) → cond b (Some place) old ≡ first_place
    old (cond b (Some place) None)
put_by true old place e = ap (λ o. first_place o (Some place)) (sym (e refl))
put_by false old place e = sym (first_place-none old)

no_place : (o : Option ℕ) → is_some o ≡ false → o ≡ None
no_place None e = refl
no_place (Some n) e = absurd (true≢false e)

-- a key that was put into the map has a place more
pub AddsPlace-put : (old new : AttributeIndex) (key name : List ℕ) (place : ℕ) → key ≡ name
    → is_some (place_in old.places name) ≡ false
    → ((other : List ℕ) → place_in new.places other ≡ cond (is_at (slice_cmp nat_cmp key) other) (Some place)
    (place_in old.places other)) → new.are_distinct ≡ old.are_distinct → AddsPlace name place old new
AddsPlace-put old new key name place e missing h d = record {
  places = λ other.
      let same : is_at (slice_cmp nat_cmp key) other ≡ bytes_eq other name = sym (texts_ties key other)
      ∙ (nat_list_eq_equiv.symm key other ∙ ap (bytes_eq other) e) in
      h other ∙ (ap (λ b. cond b (Some place) (place_in old.places other)) same
      ∙ put_by (bytes_eq other name) (place_in old.places other) place
      (λ is. ap (place_in old.places) ((texts_by_value other name).0 is) ∙ no_place _ missing));
  are_distinct = d ∙ sym (ap (λ b. old.are_distinct && not b) missing ∙ and-true old.are_distinct);
}

-- an index of a front says where one more is
pub IsIndex-next : (old new : AttributeIndex) (attributes : List Attribute) (place : ℕ) (attribute : Attribute)
    → place < length attributes → attribute ≡ get_or attributes place attribute
    → IsIndex old (take place attributes) → AddsPlace attribute.name.local place old new → IsIndex new (take (place + 1) attributes)
IsIndex-next old new attributes place attribute inside at h more =
    let next : place + 1 ≡ suc place = omega arith in
    subst (IsIndex new) (sym (ap (λ n. take n attributes) next
    ∙ (take-suc attributes place attribute inside ∙ ap (λ a. take place attributes ++ a ∷ []) (sym at))))
    (IsIndex-more old new (take place attributes) attribute h
    (subst (λ n. AddsPlace attribute.name.local n old new) (sym (length-take-le place attributes (omega (arith, inside)))) more))

pub FitsIndex-at : (o : Option (Box AttributeIndex)) (index : Box AttributeIndex) (attributes : List Attribute)
    → o ≡ Some index → FitsIndex o attributes → IsIndex index.value attributes
FitsIndex-at o index attributes e h = subst (λ o. FitsIndex o attributes) e h
