-- One turn of the adoption agency with a furthest block, by the places of the elements.
use Rattle.std.proofs.Common.{◌≡◌, ◌≢◌, ◌∙◌, ℕ, zero, suc, ◌+◌, ◌<◌, ◌≤◌, Bool, true, false, List, [], ◌∷◌, ◌++◌, length, take}
use Rattle.std.proofs.Common.{drop, get_or, Option, Some, None, refl, sym, ap, subst, arith, inl, inr, eq-eqb, ne_eqb, eqb-true}
use Rattle.std.proofs.Common.{add-one, length-append, length-take-le}
use Rattle.std.specs.Prelude.{nat_eq, slice_range}
use Rattle.std.specs.List.{list_any}
use Rattle.std.proofs.lemmas.List.{get_or_default, get_or-take}
use Rattle.std.proofs.lemmas.Slice.{between_is}
use Rattle.markup.specs.Forest.{Above, Forest, above_of, node_count}
use Rattle.markup.proofs.PutTexts.{element-IsNode}
use Rattle.markup.proofs.Walks.{Above-child}
use Rattle.html_tokens.specs.declared.tags.Tag.{Tag}
use Rattle.html_rules.specs.Adoption.{Walk, copy_if, is_number, listed_as, opened_after, opened_before, walk}
use Rattle.html_rules.specs.Choice.{choose}
use Rattle.html_rules.specs.Formatting.{Listed, with_in_place, without_entry}
use Rattle.html_rules.specs.Names.{Html, element_name_of}
use Rattle.html_rules.specs.State.{Entry, Element, Marker, Open}
use Rattle.html_rules_laws.specs.Soundness.{AreOpened, IsApart, IsClear, IsOpened, IsStanding}
use Rattle.html_rules_laws.proofs.TreePreserved.AdoptionOrder.{NoneAbove, apart-between, apart-right, named-opened}
use Rattle.html_rules_laws.proofs.TreePreserved.AdoptionStanding.{not_above_document}
use Rattle.html_rules_laws.proofs.TreePreserved.AdoptionTurn.{Placed}
use Rattle.html_rules_laws.proofs.TreePreserved.AdoptionWalk.{AreClear, Walked, walk-Walked}
use Rattle.html_stack.specs.Found.{IsNewest}
use Rattle.html_stack.specs.Stacks.{open_of, opens_of}
use Rattle.html_stack.specs.declared.entries.OpenElement.{OpenElement}
use Rattle.html_stack.proofs.Newest.{parts, split-at}
use Rattle.html_stack.proofs.StackEdits.{after-at, before-at}

-- in order, no two open elements are one node
clear-none : (f : Forest) (xs : List Open) (x : Open) (ys : List Open) → AreClear f xs (x ∷ ys) → list_any (is_number x.number) xs ≡ false
clear-none f [] x ys h = refl
clear-none f (y ∷ xs) x ys h =
    let differs : nat_eq y.number x.number ≡ false = ne_eqb y.number x.number
    (λ same. h.0.0 (subst (λ k. Above f y.number k) same Above.here)) in
    rw (differs) (clear-none f xs x ys h.1)

-- an element at a place is found there by its node
pub found-at : {H : Type 0} (f : Forest) (node : H → ℕ) (xs : List (OpenElement H)) (i : ℕ) (d : OpenElement H)
    → IsApart f (opens_of node xs) → i < length xs → IsNewest (open_of node) (is_number (node (get_or xs i d).handle)) xs i
found-at f node xs i d apart less =
    let split = split-at (open_of node) xs i d less in
    let newer : List Open = opens_of node (drop (suc i) xs) in
    let x : Open = open_of node (get_or xs i d) in
    let older : List Open = opens_of node (take i xs) in
    record {
      within = less;
      here = λ d'. ap (λ y. nat_eq (node y.handle) (node (get_or xs i d).handle)) (get_or_default xs i d' d less)
          ∙ eq-eqb (node (get_or xs i d).handle) (node (get_or xs i d).handle) refl;
      newer = clear-none f newer x older (apart-between f newer (x ∷ older) (subst (λ ys. IsApart f ys) split apart));
    }

-- those that were opened before and after it
pub before-place : {H : Type 0} (node : H → ℕ) (n : ℕ) (xs : List (OpenElement H)) (i : ℕ) (d : OpenElement H)
    → IsNewest (open_of node) (is_number n) xs i → opened_before n (opens_of node xs) ≡ opens_of node (take i xs)
before-place node n xs i d is =
    ap (opened_before n) (split-at (open_of node) xs i d is.within)
    ∙ before-at n (opens_of node (drop (suc i) xs)) (open_of node (get_or xs i d)) (opens_of node (take i xs)) is.newer (is.here d)

pub after-place : {H : Type 0} (node : H → ℕ) (n : ℕ) (xs : List (OpenElement H)) (i : ℕ) (d : OpenElement H)
    → IsNewest (open_of node) (is_number n) xs i → opened_after n (opens_of node xs) ≡ opens_of node (drop (suc i) xs)
after-place node n xs i d is =
    ap (opened_after n) (split-at (open_of node) xs i d is.within)
    ∙ after-at n (opens_of node (drop (suc i) xs)) (open_of node (get_or xs i d)) (opens_of node (take i xs)) is.newer (is.here d)

pub apart-take : {H : Type 0} (f : Forest) (node : H → ℕ) (xs : List (OpenElement H)) (i : ℕ)
    → IsApart f (opens_of node xs) → IsApart f (opens_of node (take i xs))
apart-take f node xs i apart = apart-right f (opens_of node (drop i xs)) (opens_of node (take i xs))
    (subst (λ ys. IsApart f ys) (parts (open_of node) xs i) apart)

-- those between two places
pub between-places : {H : Type 0} (f : Forest) (node : H → ℕ) (xs : List (OpenElement H)) (from to : ℕ)
    (d : OpenElement H) → IsApart f (opens_of node xs) → from < to → to < length xs
    → opened_after (node (get_or xs from d).handle)
    (opened_before (node (get_or xs to d).handle) (opens_of node xs)) ≡ opens_of node (slice_range xs (from + 1) to)
between-places f node xs from to d apart less within =
    let ys : List _ = take to xs in
    let size : length ys ≡ to = length-take-le to xs (omega arith) in
    let same : get_or ys from d ≡ get_or xs from d = get_or-take to xs from d less in
    let found = found-at f node ys from d (apart-take f node xs to apart) (omega arith) in
    ap (opened_after (node (get_or xs from d).handle)) (before-place node (node (get_or xs to d).handle) xs to d
    (found-at f node xs to d apart within))
    ∙ ap (λ x. opened_after (node x.handle) (opens_of node ys)) (sym same)
    ∙ after-place node (node (get_or ys from d).handle) ys from d found
    ∙ ap (λ k. opens_of node (drop k ys)) (sym (add-one from))
    ∙ ap (λ zs. opens_of node zs) (sym (between_is xs (from + 1) to))

-- the open elements stand where the last node of the walk was put outside

-- no later one comes above these
outer-clear : (f0 g : Forest) (b q n : ℕ) (copies : List Open) (entries : List Entry) (xs : List Open)
    → Placed f0 g b q copies entries → n < node_count f0 → (Above f0 n q → ⊥) → AreOpened f0 xs → IsClear f0 n xs → IsClear g n xs
outer-clear f0 g b q n copies entries [] is less out h c = tt
outer-clear f0 g b q n copies entries (x ∷ xs) is less out h c = (
  λ up. elim (is.inside n x.number (element-IsNode f0 x.number (element_name_of x.namespace x.name) h.0.named) up) [
    | inl old ↦ c.0 old
    | inr other ↦ elim other [ inl new ↦ absurd (omega arith) | inr above ↦ out above ]
  ],
  outer-clear f0 g b q n copies entries xs is less out h.1 c.1,
)

-- nothing comes above those that the block is not above
earlier-clear : (f0 g : Forest) (b q n : ℕ) (copies : List Open) (entries : List Entry) (xs : List Open)
    → Placed f0 g b q copies entries → AreOpened f0 xs → IsClear f0 b xs → IsClear f0 n xs → IsClear g n xs
earlier-clear f0 g b q n copies entries [] is h out c = tt
earlier-clear f0 g b q n copies entries (x ∷ xs) is h out c = (
  λ up. c.0 (is.outside n x.number (element-IsNode f0 x.number (element_name_of x.namespace x.name) h.0.named)
      out.0 up),
  earlier-clear f0 g b q n copies entries xs is h.1 out.1 c.1,
)

earlier-apart : (f0 g : Forest) (b q : ℕ) (copies : List Open) (entries : List Entry) (xs : List Open)
    → Placed f0 g b q copies entries → AreOpened f0 xs → IsClear f0 b xs → IsApart f0 xs → IsApart g xs
earlier-apart f0 g b q copies entries [] is h out a = tt
earlier-apart f0 g b q copies entries (x ∷ xs) is h out a =
    (earlier-clear f0 g b q x.number copies entries xs is h.1 out.1 a.0, earlier-apart f0 g b q copies entries xs is h.1 out.1 a.1)

placed-apart : (f0 g : Forest) (block : Open) (q : ℕ) (copies : List Open) (entries : List Entry)
    (later earlier : List Open) → Placed f0 g block.number q copies entries → (Above f0 block.number q → ⊥) → NoneAbove f0 later q
    → AreOpened f0 (later ++ block ∷ earlier) → IsApart f0 (later ++ block ∷ earlier) → IsApart g (later ++ block ∷ earlier)
placed-apart f0 g block q copies entries [] earlier is out none h a = (
  outer-clear f0 g block.number q block.number copies entries earlier is
      (element-IsNode f0 block.number (element_name_of block.namespace block.name) h.0.named) out h.1 a.0,
  earlier-apart f0 g block.number q copies entries earlier is h.1 a.0 a.1,
)
placed-apart f0 g block q copies entries (x ∷ later) earlier is out none h a = (
  outer-clear f0 g block.number q x.number copies entries (later ++ block ∷ earlier) is
      (element-IsNode f0 x.number (element_name_of x.namespace x.name) h.0.named) none.0 h.1 a.0,
  placed-apart f0 g block q copies entries later earlier is out none.1 h.1 a.1,
)

placed-top : (f0 g : Forest) (block : Open) (q : ℕ) (copies : List Open) (entries0 entries : List Entry)
    (xs : List Open) → IsOpened f0 block → Placed f0 g block.number q copies entries → IsStanding f0 xs entries0 → above_of g 0 ≡ None
placed-top f0 g block q copies entries0 entries xs named is h = by (above_of g 0) refl where
  only-top : (a : ℕ) → Above f0 a 0 → above_of f0 0 ≡ None → a ≡ 0
  only-top a Above.here e = refl
  only-top a (Above.further up rest) e = absurd cc

  by : (o : Option ℕ) → above_of g 0 ≡ o → above_of g 0 ≡ None
  by None e = e
  by (Some m) e =
      let old : Above f0 m 0 = is.outside m 0 h.tree.forest.document
      (not_above_document f0 block h.tree h.top named) (Above.further e Above.here) in
      let itself : above_of g 0 ≡ Some 0 = e ∙ ap Some (only-top m old h.top) in
      absurd (Above-child g is.tree.forest 0 0 itself Above.here)

pub placed-Standing : (f0 g : Forest) (block : Open) (q : ℕ) (copies : List Open) (entries0 entries : List Entry)
    (later earlier : List Open) → Placed f0 g block.number q copies entries → (Above f0 block.number q → ⊥) → NoneAbove f0 later q
    → IsOpened f0 block → IsStanding f0 (later ++ block ∷ earlier) entries0 → IsStanding g (later ++ block ∷ earlier) entries
placed-Standing f0 g block q copies entries0 entries later earlier is out none named h = record {
  tree = is.tree;
  opened = named-opened f0 g (later ++ block ∷ earlier) is.names h.opened;
  apart = placed-apart f0 g block q copies entries later earlier is out none h.opened h.apart;
  listed = is.listed;
  top = placed-top f0 g block q copies entries0 entries (later ++ block ∷ earlier) named is h;
}

-- what the walk leaves of the entry of an element that is not gone through

in_place-other : (n m new : ℕ) (tag : Tag) (entries : List Entry) → m ≢ n → new ≢ n
    → listed_as n (with_in_place m (Element new tag) entries) ≡ listed_as n entries
in_place-other n m new tag [] ne ne' = refl
in_place-other n m new tag (Marker ∷ entries) ne ne' = in_place-other n m new tag entries ne ne'
in_place-other n m new tag (Element k other ∷ entries) ne ne' = by (nat_eq k m) refl (in_place-other n m new tag entries ne ne') where
  by : (b : Bool) → nat_eq k m ≡ b → listed_as n (with_in_place m (Element new tag) entries) ≡ listed_as n entries
      → listed_as n (choose b (λ _. Element new tag ∷ entries)
      (λ _. Element k other ∷ with_in_place m (Element new tag) entries)) ≡ listed_as n (Element k other ∷ entries)
  by true e rest =
      let differs : nat_eq k n ≡ false = ne_eqb k n (λ same. ne (sym (eqb-true k m e) ∙ same)) in
      rw (ne_eqb new n ne', differs) refl
  by false e rest = ap (λ o. choose (nat_eq k n) (λ _. Some (record { number = k; tag = other })) (λ _. o)) rest

without-other : (n m : ℕ) (entries : List Entry) → m ≢ n → listed_as n (without_entry m entries) ≡ listed_as n entries
without-other n m [] ne = refl
without-other n m (Marker ∷ entries) ne = without-other n m entries ne
without-other n m (Element k other ∷ entries) ne = by (nat_eq k m) refl (without-other n m entries ne) where
  by : (b : Bool) → nat_eq k m ≡ b → listed_as n (without_entry m entries) ≡ listed_as n entries
      → listed_as n (choose b (λ _. entries) (λ _. Element k other ∷ without_entry m entries)) ≡ listed_as n (Element k other ∷ entries)
  by true e rest =
      let differs : nat_eq k n ≡ false = ne_eqb k n (λ same. ne (sym (eqb-true k m e) ∙ same)) in
      rw differs refl
  by false e rest = ap (λ o. choose (nat_eq k n) (λ _. Some (record { number = k; tag = other })) (λ _. o)) rest

-- an element is listed under its own number
listed-number : (n : ℕ) (entries : List Entry) (l : Listed) → listed_as n entries ≡ Some l → l.number ≡ n
listed-number n [] l e = absurd cc
listed-number n (Marker ∷ entries) l e = listed-number n entries l e
listed-number n (Element m tag ∷ entries) l e = by (nat_eq m n) refl e (listed-number n entries l) where
  some-same : (a b : Listed) → Some a ≡ Some b → a ≡ b
  some-same a b e = cc

  by : (b : Bool) → nat_eq m n ≡ b → choose b (λ _. Some (record { number = m; tag = tag }))
      (λ _. listed_as n entries) ≡ Some l → (listed_as n entries ≡ Some l → l.number ≡ n) → l.number ≡ n
  by true same e go = sym (ap (λ (v : Listed). v.number) (some-same (record { number = m; tag = tag }) l e)) ∙ eqb-true m n same
  by false same e go = go e

-- none of these is that element
abbrev pub NoneIs : ℕ → List Open → Type 0
NoneIs n [] = Unit {0}
NoneIs n (x ∷ xs) = (x.number ≢ n) × NoneIs n xs

copy-keeps : (f0 : Forest) (b n : ℕ) (x : Open) (w : Walk) (o : Option Listed) → Walked f0 b w → n < node_count f0
    → x.number ≢ n → listed_as x.number w.active_formatting ≡ o
    → listed_as n (copy_if o w).active_formatting ≡ listed_as n w.active_formatting
copy-keeps f0 b n x w None is less ne e = refl
copy-keeps f0 b n x w (Some l) is less ne e =
    let count : node_count f0 ≤ node_count w.forest = is.count in
    in_place-other n l.number (node_count w.forest) l.tag w.active_formatting
    (λ same. ne (sym (listed-number x.number w.active_formatting l e) ∙ same)) (λ same. absurd (omega arith))

pub walk-keeps : (f0 : Forest) (b n left : ℕ) (xs : List Open) (w : Walk) → Walked f0 b w → n < node_count f0
    → NoneIs n xs → listed_as n (walk left xs w).active_formatting ≡ listed_as n w.active_formatting
walk-keeps f0 b n left [] w is less ne = refl
walk-keeps f0 b n zero (x ∷ xs) w is less ne =
    walk-keeps f0 b n zero xs (record w { active_formatting = without_entry x.number w.active_formatting })
    (walk-Walked f0 b 0 (x ∷ []) w is) less ne.1
    ∙ without-other n x.number w.active_formatting ne.0
walk-keeps f0 b n (suc left) (x ∷ xs) w is less ne =
    walk-keeps f0 b n left xs (copy_if (listed_as x.number w.active_formatting) w) (walk-Walked f0 b 1 (x ∷ []) w is) less ne.1
    ∙ copy-keeps f0 b n x w (listed_as x.number w.active_formatting) is less ne.0 refl

-- no more copies than elements
copy-count : (o : Option Listed) (w : Walk) → length (copy_if o w).copies ≤ length w.copies + 1
copy-count None w = omega arith
copy-count (Some l) w = omega
    (arith, length-append w.copies (record { number = node_count w.forest; namespace = Html; name = l.tag.name; rules = w.rules } ∷ []))

pub walk-count : (left : ℕ) (xs : List Open) (w : Walk) → length (walk left xs w).copies ≤ length w.copies + length xs
walk-count left [] w = omega arith
walk-count zero (x ∷ xs) w = let rest = walk-count zero xs
    (record w { active_formatting = without_entry x.number w.active_formatting }) in omega arith
walk-count (suc left) (x ∷ xs) w =
    let rest = walk-count left xs (copy_if (listed_as x.number w.active_formatting) w) in
    let one = copy-count (listed_as x.number w.active_formatting) w in
    omega arith

-- a tree grows by one step after another
pub grown : (a b b' c d : ℕ) → a ≤ b → b' ≡ b → b' ≤ c → c ≤ d → a ≤ d
grown a b b' c d ab same bc cd = omega arith

pub no-less : (n : ℕ) → n ≤ n
no-less n = omega arith
