-- What stands above and below nodes, step by step.
use Rattle.std.proofs.Common.{◌≡◌, ◌∙◌, ◌+◌, ◌-◌, ◌<◌, ◌≤◌, ℕ, zero, suc, Bool, true, false, List, [], ◌∷◌, ◌++◌, length}
use Rattle.std.proofs.Common.{Option, Some, None}
use Rattle.std.proofs.Common.{inl, inr, refl, ap, arith, drop, subst, sym, take}
use Rattle.std.proofs.Math.ListN.{get_or, set}
use Rattle.std.specs.Prelude.{◌&&◌, ◌||◌, is_some}
use Rattle.std.specs.List.{list_any}
use Rattle.std.proofs.lemmas.Bool.{cases_Bool, cases_eq, cases_lt, eq-eqb, ne_eqb}
use Rattle.std.proofs.lemmas.List.{get_or-set_other, get_or-set_same, get_or_past, take_all}
use Rattle.markup.specs.Forest.{Forest, IsForest, children_of, element_name, is_among, no_node, node_count, parent_of}
use Rattle.markup.proofs.Children.{is_among-push_other}
use Rattle.markup.proofs.Forests.{IsParent-from_child}
use Rattle.markup.proofs.Parents.{is_among-parent}
use Rattle.markup.proofs.WholeTrees.{among-first}
use Rattle.html_nodes.specs.Below.{IsBelow, below, is_on}
use Rattle.html_nodes.specs.Below.IsBelow.{child, deeper}
use Rattle.html_nodes.proofs.Distinct.{listed}
use Rattle.html_nodes.proofs.Levels.{below-children}
use Rattle.html_selector_matching.specs.Around.{above, is_element, line, line_within, one_of}
use Rattle.html_selector_matching.proofs.Lines.{line-none, line-some}
use Rattle.html_selectors.specs.Columns.{at}
use Rattle.html_forest.specs.Links.{first_of}
use Rattle.html_selectors.specs.Order.{in_tree_order, is_inner}
use Rattle.html_selectors.proofs.Lists.{any-alike, any-each}
use Rattle.html_selectors.proofs.Marks.{and-false, mark-pass, mark-push, none-from}
use Rattle.html_selectors.proofs.Listing.{all-listed, children-after, drop-next, in-range, parent-before, parent-inner, take-next}

or-false : (b : Bool) → (b || false) ≡ b
or-false true = refl
or-false false = refl

-- past the end stands nothing
pub no-element : (f : Forest) (n : ℕ) → node_count f ≤ n → is_element f n ≡ false
no-element f n past = ap (λ node. is_some (element_name node.about)) (get_or_past f.nodes n no_node past)

no-children : (f : Forest) (n : ℕ) → node_count f ≤ n → children_of f n ≡ []
no-children f n past = ap (λ node. node.children) (get_or_past f.nodes n no_node past)

-- ELEMENTS AND NODES THAT HAVE CHILDREN

pub element-inner : (f : Forest) (n : ℕ) → is_element f n ≡ true → is_inner f n ≡ true
element-inner f n e = ap (λ b. b || is_some (first_of (children_of f n))) e

pub element-there : (f : Forest) (n : ℕ) → is_element f n ≡ true → n < node_count f
element-there f n e =
    elim (cases_lt n (node_count f)) [
      | inl less ↦ less
      | inr past ↦ absurd (let none = no-element f n past in cc)
    ]

-- an element is listed
pub element-listed : (f : Forest) → IsForest f → (order : List ℕ) → order ≡ in_tree_order f → (n : ℕ) → is_element f n ≡ true
    → is_among n order ≡ true
element-listed f is order e n h =
    subst (λ (l : List ℕ). is_among n l ≡ true) (sym e) (all-listed f is n (element-there f n h) (element-inner f n h))

-- ABOVE

pub above-none : (f : Forest) (t : ℕ → Bool) (n : ℕ) → parent_of f n ≡ None → list_any t (above f n) ≡ false
above-none f t n e = ap (λ (o : Option ℕ). list_any t (line f o)) e ∙ ap (list_any t) (line-none f)

pub above-some : (f : Forest) → IsForest f → (t : ℕ → Bool) (n p : ℕ) → parent_of f n ≡ Some p
    → list_any t (above f n) ≡ (t p || list_any t (above f p))
above-some f is t n p e = ap (λ (o : Option ℕ). list_any t (line f o)) e ∙ ap (list_any t) (line-some f is p)

-- one that has a parent is listed
above-listed : (f : Forest) → IsForest f → (t : ℕ → Bool) (n : ℕ) → is_inner f n ≡ true
    → (is_among n (in_tree_order f) && list_any t (above f n)) ≡ list_any t (above f n)
above-listed f is t n inner = by (parent_of f n) refl
  where
    by : (o : Option ℕ) → parent_of f n ≡ o → (is_among n (in_tree_order f) && list_any t (above f n)) ≡ list_any t (above f n)
    by None e = rw (above-none f t n e) (and-false (is_among n (in_tree_order f)))
    by (Some p) e = rw (all-listed f is n (is.in_range p n (is_among-parent f n p e)) inner) refl

-- what is known of a candidate whose parent is done
under-value : (f : Forest) → IsForest f → (t w : ℕ → Bool) (c : List Bool) (done : List ℕ) (n : ℕ)
    → ((n p : ℕ) → w n ≡ true → parent_of f n ≡ Some p → w p ≡ true)
    → ((m : ℕ) → at c m ≡ (is_among m done && (w m && list_any t (above f m)))) → is_on (parent_of f n) done ≡ true → w n ≡ true
    → list_any (λ m. t m || at c m) (one_of (parent_of f n)) ≡ list_any t (above f n)
under-value f is t w c done n up marked on is_wanted = by (parent_of f n) refl on
  where
    by : (o : Option ℕ) → parent_of f n ≡ o → is_on o done ≡ true
        → list_any (λ m. t m || at c m) (one_of o) ≡ list_any t (above f n)
    by None e h = sym (above-none f t n e)
    by (Some p) e h =
        or-false (t p || at c p)
        ∙ (ap (λ b. t p || b) (marked p ∙ (ap (λ b. b && (w p && list_any t (above f p))) h
        ∙ ap (λ b. b && list_any t (above f p)) (up n p is_wanted e))) ∙ sym (above-some f is t n p e))

-- the next node in tree order is done
pub under-step : (f : Forest) → IsForest f → (order : List ℕ) → order ≡ in_tree_order f → (t w : ℕ → Bool) (c : List Bool)
    (i n : ℕ) (v : Bool) → ((n p : ℕ) → w n ≡ true → parent_of f n ≡ Some p → w p ≡ true) → w n ≡ true
    → i < length order → n ≡ get_or order i n → length c ≡ node_count f
    → ((m : ℕ) → at c m ≡ (is_among m (take i order) && (w m && list_any t (above f m))))
    → v ≡ list_any (λ m. t m || at c m) (one_of (parent_of f n))
    → (m : ℕ) → at (set c n v) m ≡ (is_among m (take (i + 1) order) && (w m && list_any t (above f m)))
under-step f is order e t w c i n v up is_wanted there at-n count marked told m =
    let low = in-range f is order e i n there at-n in
    mark-push (λ k. w k && list_any t (above f k)) (take i order) n c v (omega (arith, low, count)) marked
    (told ∙ (under-value f is t w c (take i order) n up marked (parent-before f is order e i n there at-n) is_wanted
    ∙ sym (ap (λ b. b && list_any t (above f n)) is_wanted))) m
    ∙ ap (λ (l : List ℕ). is_among m l && (w m && list_any t (above f m))) (sym (take-next order i n there at-n))

-- or passed by
pub under-pass : (f : Forest) (order : List ℕ) (t w : ℕ → Bool) (c : List Bool) (i n : ℕ) → w n ≡ false
    → i < length order → n ≡ get_or order i n
    → ((m : ℕ) → at c m ≡ (is_among m (take i order) && (w m && list_any t (above f m))))
    → (m : ℕ) → at c m ≡ (is_among m (take (i + 1) order) && (w m && list_any t (above f m)))
under-pass f order t w c i n unwanted there at-n marked m =
    mark-pass (λ k. w k && list_any t (above f k)) (take i order) n c marked (ap (λ b. b && list_any t (above f n)) unwanted) m
    ∙ ap (λ (l : List ℕ). is_among m l && (w m && list_any t (above f m))) (sym (take-next order i n there at-n))

and-past : (a w b : Bool) → (a && b) ≡ b → (a && (w && b)) ≡ (w && b)
and-past a true b h = h
and-past a false b h = and-false a

pub under-all : (f : Forest) → IsForest f → (order : List ℕ) → order ≡ in_tree_order f → (t w : ℕ → Bool) (c : List Bool) (i : ℕ)
    → length order ≤ i → ((m : ℕ) → at c m ≡ (is_among m (take i order) && (w m && list_any t (above f m))))
    → (m : ℕ) → is_inner f m ≡ true → at c m ≡ (w m && list_any t (above f m))
under-all f is order e t w c i all marked m inner =
    marked m ∙ (ap (λ (l : List ℕ). is_among m l && (w m && list_any t (above f m))) (take_all i order all ∙ e)
    ∙ and-past (is_among m (in_tree_order f)) (w m) (list_any t (above f m)) (above-listed f is t m inner))

-- what is known of a node whose ancestors are all candidates
pub under-left : (f : Forest) → IsForest f → (t w u : ℕ → Bool) (n : ℕ)
    → ((m : ℕ) → is_inner f m ≡ true → u m ≡ (w m && list_any t (above f m)))
    → ((m : ℕ) → is_among m (above f n) ≡ true → w m ≡ true)
    → list_any (λ m. t m || u m) (one_of (parent_of f n)) ≡ list_any t (above f n)
under-left f is t w u n told all = by (parent_of f n) refl
  where
    by : (o : Option ℕ) → parent_of f n ≡ o → list_any (λ m. t m || u m) (one_of o) ≡ list_any t (above f n)
    by None e = sym (above-none f t n e)
    by (Some p) e =
        let first : is_among p (above f n) ≡ true = subst (λ (l : List ℕ). is_among p l ≡ true)
        (sym (ap (λ (o : Option ℕ). line f o) e ∙ line-some f is p)) (among-first p (above f p)) in
        or-false (t p || u p)
        ∙ (ap (λ b. t p || b) (told p (parent-inner f n p e) ∙ ap (λ b. b && list_any t (above f p)) (all p first))
        ∙ sym (above-some f is t n p e))

-- BELOW

below-any : (f : Forest) → IsForest f → (t : ℕ → Bool) (n : ℕ)
    → list_any t (below f n) ≡ list_any (λ c. t c || list_any t (below f c)) (children_of f n)
below-any f is t n = ap (list_any t) (below-children f is n) ∙ any-each t (below f) (children_of f n)

-- the parent of a node is marked
pub parent-marked : (f : Forest) → IsForest f → (c : List Bool) (id p : ℕ) → parent_of f id ≡ Some p → p < length c
    → (n : ℕ) → at (set c p true) n ≡ (is_among id (children_of f n) || at c n)
parent-marked f is c id p e there n =
    elim (cases_eq n p) [
      | inl same ↦ get_or-set_at c p n true there same
          ∙ sym (ap (λ b. b || at c n) (is_among-parent f id n (e ∙ ap (λ k. Some k) (sym same))))
      | inr other ↦ get_or-set_other c p n true false other ∙ sym (ap (λ b. b || at c n)
          (none-from (is_among id (children_of f n)) (λ h. other (some-is (sym (is.one_parent n id h) ∙ e)))))
    ]
  where
    get_or-set_at : (c : List Bool) (p n : ℕ) (v : Bool) → p < length c → n ≡ p → at (set c p v) n ≡ v
    get_or-set_at c p n v there same = rw same (get_or-set_same c p v false there)

    some-is : {a b : ℕ} → Some a ≡ Some b → a ≡ b
    some-is h = cc

-- the parents of those that are done are marked
pub parents-step : (f : Forest) → IsForest f → (t : ℕ → Bool) (done : List ℕ) (m : ℕ) (old new : List Bool)
    → ((n p : ℕ) → is_among n done ≡ true → t n ≡ true → parent_of f n ≡ Some p → at old p ≡ true)
    → ((k : ℕ) → at new k ≡ (is_among m (children_of f k) || at old k))
    → (n p : ℕ) → is_among n (done ++ m ∷ []) ≡ true → t n ≡ true → parent_of f n ≡ Some p → at new p ≡ true
parents-step f is t done m old new marked more n p among h e =
    elim (cases_eq n m) [
      | inl same ↦ more p ∙ ap (λ b. b || at old p) (is_among-parent f m p (ap (parent_of f) (sym same) ∙ e))
      | inr other ↦ more p ∙ (ap (λ b. is_among m (children_of f p) || b)
          (marked n p (sym (is_among-push_other n m done other) ∙ among) h e) ∙ or-true (is_among m (children_of f p)))
    ]
  where
    or-true : (b : Bool) → (b || true) ≡ true
    or-true true = refl
    or-true false = refl

pub parents-pass : (f : Forest) (t : ℕ → Bool) (done : List ℕ) (m : ℕ) (old : List Bool) → t m ≡ false
    → ((n p : ℕ) → is_among n done ≡ true → t n ≡ true → parent_of f n ≡ Some p → at old p ≡ true)
    → (n p : ℕ) → is_among n (done ++ m ∷ []) ≡ true → t n ≡ true → parent_of f n ≡ Some p → at old p ≡ true
parents-pass f t done m old fails marked n p among h e =
    elim (cases_eq n m) [
      | inl same ↦ absurd (let no : t n ≡ false = ap t same ∙ fails in cc)
      | inr other ↦ marked n p (sym (is_among-push_other n m done other) ∙ among) h e
    ]

pub parent-none : (f : Forest) → IsForest f → (id n : ℕ) (b : Bool) → parent_of f id ≡ None → b ≡ (is_among id (children_of f n) || b)
parent-none f is id n b e =
    sym (ap (λ x. x || b) (none-from (is_among id (children_of f n)) (λ h. some-none (sym e ∙ is.one_parent n id h))))
  where
    some-none : {a : ℕ} → None ≡ Some a → ⊥
    some-none h = cc

-- whether a child that is done is in a column, or over one that is
abbrev pub over_done : (ℕ → Bool) → Forest → List ℕ → ℕ → Bool
over_done t f done m = list_any (λ c. is_among c done && (t c || list_any t (below f c))) (children_of f m)

or-swap : (a b c : Bool) → (a || (b || c)) ≡ (b || (a || c))
or-swap true true c = refl
or-swap true false c = refl
or-swap false b c = refl

-- one more is done
pub done-more : (r : ℕ → Bool) (n : ℕ) (done cs : List ℕ)
    → list_any (λ c. is_among c (n ∷ done) && r c) cs ≡ ((is_among n cs && r n) || list_any (λ c. is_among c done && r c) cs)
done-more r n done [] = refl
done-more r n done (c ∷ cs) =
    elim (cases_eq c n) [
      | inl same ↦ rw (same, eq-eqb n n refl, done-more r n done cs)
          (fold (r n) (is_among n cs) (is_among n done) (list_any (λ c. is_among c done && r c) cs))
      | inr other ↦ rw (ne_eqb c n other, ne_eqb n c (λ e. other (sym e)), done-more r n done cs)
          (or-swap (is_among c done && r c) (is_among n cs && r n) (list_any (λ c. is_among c done && r c) cs))
    ]
  where
    fold : (x a d y : Bool) → (x || ((a && x) || y)) ≡ (x || ((d && x) || y))
    fold true a d y = refl
    fold false a d y = ap (λ b. b || y) (and-false a ∙ sym (and-false d))

-- one of a column of elements, or what is over one, is listed
over-inner : (f : Forest) → IsForest f → (t : ℕ → Bool) → ((n : ℕ) → t n ≡ true → is_element f n ≡ true) → (n : ℕ)
    → (t n || list_any t (below f n)) ≡ true → is_inner f n ≡ true
over-inner f is t elements n h =
    elim (cases_Bool (t n)) [
      | inl own ↦ element-inner f n (elements n own)
      | inr out ↦ by (children_of f n) refl (sym (below-any f is t n) ∙ (ap (λ b. b || list_any t (below f n)) (sym out) ∙ h))
    ]
  where
    or-true : (b : Bool) → (b || true) ≡ true
    or-true true = refl
    or-true false = refl

    by : (cs : List ℕ) → children_of f n ≡ cs → list_any (λ c. t c || list_any t (below f c)) (children_of f n) ≡ true → is_inner f n ≡ true
    by [] e any = absurd (let none = ap (list_any (λ c. t c || list_any t (below f c))) e in cc)
    by (c ∷ cs) e any = ap (λ (l : List ℕ). is_element f n || is_some (first_of l)) e ∙ or-true (is_element f n)

-- what is known of a node whose children are done, if they are listed
over-value : (f : Forest) → IsForest f → (t : ℕ → Bool) → ((n : ℕ) → t n ≡ true → is_element f n ≡ true) → (c : List Bool)
    (done : List ℕ) (n : ℕ) → ((m : ℕ) → at c m ≡ over_done t f done m)
    → ((m : ℕ) → is_among m (children_of f n) ≡ true → is_inner f m ≡ true → is_among m done ≡ true) → at c n ≡ list_any t (below f n)
over-value f is t elements c done n marked all =
    marked n ∙ (any-alike (λ m. is_among m done && (t m || list_any t (below f m))) (λ m. t m || list_any t (below f m)) (children_of f n)
    (λ m h. given (is_among m done) (t m || list_any t (below f m)) (λ some. all m h (over-inner f is t elements m some)))
    ∙ sym (below-any f is t n))
  where
    given : (a b : Bool) → (b ≡ true → a ≡ true) → (a && b) ≡ b
    given a true h = ap (λ x. x && true) (h refl)
    given a false h = and-false a

-- the next node back in tree order is done
pub over-step : (f : Forest) → IsForest f → (order : List ℕ) → order ≡ in_tree_order f → (t : ℕ → Bool)
    → ((n : ℕ) → t n ≡ true → is_element f n ≡ true) → (c : List Bool) (left n : ℕ) (v : Bool) (new : List Bool)
    → 0 < left → left ≤ length order → n ≡ get_or order (left - 1) n
    → ((m : ℕ) → at c m ≡ over_done t f (drop left order) m)
    → v ≡ (t n || at c n) → ((m : ℕ) → at new m ≡ ((is_among n (children_of f m) && v) || at c m))
    → (m : ℕ) → at new m ≡ over_done t f (drop (left - 1) order) m
over-step f is order e t elements c left n v new some within at-n marked told more m =
    let there : left - 1 < length order = omega (arith, some, within) in
    let back : suc (left - 1) ≡ left = omega (arith, some) in
    let value = told ∙ ap (λ b. t n || b) (over-value f is t elements c (drop left order) n marked
    (λ k h w. subst (λ j. is_among k (drop j order) ≡ true) back (children-after f is order e (left - 1) n there at-n k h w))) in
    more m ∙ (ap (λ b. (is_among n (children_of f m) && b) || at c m) value
    ∙ (ap (λ b. (is_among n (children_of f m) && (t n || list_any t (below f n))) || b) (marked m)
    ∙ (sym (done-more (λ k. t k || list_any t (below f k)) n (drop left order) (children_of f m))
    ∙ ap (λ (l : List ℕ). over_done t f l m) (ap (λ j. n ∷ drop j order) (sym back) ∙ sym (drop-next order (left - 1) n there at-n)))))

pub over-none : (t : ℕ → Bool) (f : Forest) (done : List ℕ) (m : ℕ) → done ≡ [] → false ≡ over_done t f done m
over-none t f done m e = sym (ap (λ (l : List ℕ). over_done t f l m) e ∙ none (children_of f m))
  where
    none : (cs : List ℕ) → list_any (λ c. is_among c [] && (t c || list_any t (below f c))) cs ≡ false
    none [] = refl
    none (c ∷ cs) = none cs

pub over-all : (f : Forest) → IsForest f → (order : List ℕ) → order ≡ in_tree_order f → (t : ℕ → Bool)
    → ((n : ℕ) → t n ≡ true → is_element f n ≡ true) → (c : List Bool)
    → ((m : ℕ) → at c m ≡ over_done t f order m) → (m : ℕ) → at c m ≡ list_any t (below f m)
over-all f is order e t elements c marked m =
    over-value f is t elements c order m marked
    (λ k h w. subst (λ (l : List ℕ). is_among k l ≡ true) (sym e) (all-listed f is k (is.in_range m k h) w))

pub and-true : (b : Bool) → (b && true) ≡ b
and-true true = refl
and-true false = refl

pub neither : {a b : Bool} → false ≡ a → false ≡ b → false ≡ (a || b)
neither h k = cc

-- a node in a column is one of those there are
pub at-within : (c : List Bool) (n : ℕ) → at c n ≡ true → n < length c
at-within c n h =
    elim (cases_lt n (length c)) [
      | inl less ↦ less
      | inr past ↦ absurd (let none : at c n ≡ false = get_or_past c n false past in cc)
    ]

-- WHO IS OVER WHOM

pub any-among : (t : ℕ → Bool) (n : ℕ) (ns : List ℕ) → is_among n ns ≡ true → t n ≡ true → list_any t ns ≡ true
any-among t n [] h k = absurd (cc)
any-among t n (m ∷ ms) h k =
    elim (cases_eq n m) [
      | inl same ↦ rw (sym same, k) refl
      | inr other ↦ ap (λ b. t m || b) (any-among t n ms (rw (ne_eqb n m other) at h) k) ∙ or-true (t m)
    ]
  where
    or-true : (b : Bool) → (b || true) ≡ true
    or-true true = refl
    or-true false = refl

-- what is over a node is over those above it
pub over-up : (f : Forest) → IsForest f → (t : ℕ → Bool) (n p : ℕ) → list_any t (below f n) ≡ true → parent_of f n ≡ Some p
    → list_any t (below f p) ≡ true
over-up f is t n p h e =
    below-any f is t p ∙ any-among (λ c. t c || list_any t (below f c)) n (children_of f p) (is_among-parent f n p e)
    (ap (λ b. t n || b) h ∙ or-true (t n))
  where
    or-true : (b : Bool) → (b || true) ≡ true
    or-true true = refl
    or-true false = refl

line-below : (k : ℕ) (f : Forest) (o : Option ℕ) (m n : ℕ) → parent_of f n ≡ o → is_among m (line_within k f o) ≡ true → IsBelow f m n
unfolding line_within
line-below zero f o m n e h = absurd (cc)
line-below (suc k) f None m n e h = absurd (cc)
line-below (suc k) f (Some p) m n e h =
    elim (cases_eq m p) [
      | inl same ↦ child (e ∙ ap (λ j. Some j) (sym same))
      | inr other ↦ deeper e (line-below k f (parent_of f p) m p refl (rw (ne_eqb m p other) at h))
    ]

-- one that stands in a column is below those above it
pub over-above : (f : Forest) → IsForest f → (t : ℕ → Bool) (n m : ℕ) → t n ≡ true → is_among m (above f n) ≡ true
    → list_any t (below f m) ≡ true
over-above f is t n m h among =
    any-among t n (below f m) (listed f is m n (line-below (node_count f) f (parent_of f n) m n refl among)) h

-- in a column of all nodes each is under what stands above it
pub under-any : (f : Forest) → IsForest f → (t w u : ℕ → Bool) (o : Bool) (n : ℕ) → ((m : ℕ) → m < node_count f → w m ≡ true)
    → (o ≡ true → is_element f n ≡ true) → (is_inner f n ≡ true → u n ≡ (w n && list_any t (above f n)))
    → (o && u n) ≡ (o && list_any t (above f n))
under-any f is t w u false n all element told = refl
under-any f is t w u true n all element told = told (element-inner f n (element refl)) ∙ by (parent_of f n) refl
  where
    by : (p : Option ℕ) → parent_of f n ≡ p → (w n && list_any t (above f n)) ≡ list_any t (above f n)
    by None e = ap (λ b. w n && b) (above-none f t n e) ∙ (and-false (w n) ∙ sym (above-none f t n e))
    by (Some p) e = ap (λ b. b && list_any t (above f n)) (all n (is.in_range p n (is_among-parent f n p e)))

pub all-up : (f : Forest) → IsForest f → (w : ℕ → Bool) → ((m : ℕ) → m < node_count f → w m ≡ true) → (n p : ℕ)
    → parent_of f n ≡ Some p → w p ≡ true
all-up f is w all n p e = all p (IsParent-from_child f n p is e).there

pub over-parent : (f : Forest) → IsForest f → (t : ℕ → Bool) (n m : ℕ) → t n ≡ true → is_among m (one_of (parent_of f n)) ≡ true
    → list_any t (below f m) ≡ true
over-parent f is t n m h = by (parent_of f n) refl
  where
    by : (o : Option ℕ) → parent_of f n ≡ o → is_among m (one_of o) ≡ true → list_any t (below f m) ≡ true
    by None e among = absurd (cc)
    by (Some p) e among =
        elim (cases_eq m p) [
          | inl same ↦ any-among t n (below f m) (listed f is m n (child (e ∙ ap (λ j. Some j) (sym same)))) h
          | inr other ↦ absurd (let no = rw (ne_eqb m p other) at among in cc)
        ]
