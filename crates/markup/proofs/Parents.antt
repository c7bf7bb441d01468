-- The parent of a node, and what single changes leave of lists, data and parents.
use Rattle.std.proofs.Common.{◌≡◌, ◌≢◌, ◌+◌, ◌-◌, ◌<◌, ◌≤◌, ℕ, suc, zero, true, false, List, [], ◌∷◌, ◌++◌, Option, Some, None}
use Rattle.std.proofs.Common.{length, sym, ap, ◌∙◌, refl, subst, inl, inr, ◌⊎◌, arith, get_or}
use Rattle.std.proofs.lemmas.List.{get_or-set_same, get_or-set_other, length-set, length_push, get_or_append_left, get_or_push}
use Rattle.std.proofs.lemmas.List.{get_or_past, set_past}
use Rattle.std.proofs.lemmas.Bool.{cases_eq, cases_Bool, cases_lt}
use Rattle.markup.specs.Forest.NodeData.{Document}
use Rattle.markup.specs.Forest.{Forest, Node, NodeData, no_node, node_count, node_at, data_of, children_of, is_among}
use Rattle.markup.specs.Forest.{parent_from, parent_of, is_contents, above_of, IsForest, with_node, with_children, with_data}

-- the child list at a place
abbrev pub list_at : List Node → ℕ → List ℕ
list_at nodes k = (get_or nodes k no_node).children

-- where n is in the list at k and in none before, its parent is k
pub parent_from-first : (i : ℕ) (nodes : List Node) (n k : ℕ) → is_among n (list_at nodes k) ≡ true
    → ((j : ℕ) → j < k → is_among n (list_at nodes j) ≡ false) → parent_from i nodes n ≡ Some (i + k)
parent_from-first i [] n k h before = absurd (cc)
parent_from-first i (node ∷ nodes) n zero h before = rw h (ap Some (omega arith))
parent_from-first i (node ∷ nodes) n (suc k) h before =
    let first : is_among n node.children ≡ false = before 0 (omega arith) in
    let rest = parent_from-first (suc i) nodes n k h (λ j below. before (suc j) (omega arith)) in
    rw first (rest ∙ ap Some (omega arith))

-- where n is in no list, it has no parent
pub parent_from-none : (i : ℕ) (nodes : List Node) (n : ℕ) → ((j : ℕ) → is_among n (list_at nodes j) ≡ false) → parent_from i nodes n ≡ None
parent_from-none i [] n h = refl
parent_from-none i (node ∷ nodes) n h =
    let first : is_among n node.children ≡ false = h 0 in
    rw first (parent_from-none (suc i) nodes n (λ j. h (suc j)))

-- what a search tells
abbrev pub Tells : ℕ → List Node → ℕ → Option ℕ → Type 0
Tells i nodes n None = (j : ℕ) → is_among n (list_at nodes j) ≡ false
Tells i nodes n (Some p) = (k : ℕ) × (p ≡ i + k) × (is_among n (list_at nodes k) ≡ true)
    × ((j : ℕ) → j < k → is_among n (list_at nodes j) ≡ false)

pub parent_from-tells : (i : ℕ) (nodes : List Node) (n : ℕ) → Tells i nodes n (parent_from i nodes n)
parent_from-tells i [] n = λ j. refl
parent_from-tells i (node ∷ nodes) n =
    elim (cases_Bool (is_among n node.children)) [
      | inl found ↦ rw found (0, omega arith, found, λ j less. absurd (omega arith))
      | inr absent ↦ rw absent (later i node nodes n (parent_from (suc i) nodes n) absent (parent_from-tells (suc i) nodes n))
    ]
  where
    later : (i : ℕ) (node : Node) (nodes : List Node) (n : ℕ) (o : Option ℕ) → is_among n node.children ≡ false
        → Tells (suc i) nodes n o → Tells i (node ∷ nodes) n o
    later i node nodes n None absent t = λ j. at_each j where
      at_each : (j : ℕ) → is_among n (list_at (node ∷ nodes) j) ≡ false
      at_each zero = absent
      at_each (suc j) = t j
    later i node nodes n (Some p) absent t = (suc t.0, omega (arith, t.1), t.2, at_each) where
      at_each : (j : ℕ) → j < suc t.0 → is_among n (list_at (node ∷ nodes) j) ≡ false
      at_each zero less = absent
      at_each (suc j) less = t.3 j (omega arith)

-- an only place is the parent
pub parent_of-only : (f : Forest) (n p : ℕ) → is_among n (children_of f p) ≡ true
    → ((q : ℕ) → is_among n (children_of f q) ≡ true → q ≡ p) → parent_of f n ≡ Some p
parent_of-only f n p h only =
    parent_from-first 0 f.nodes n p h before ∙ ap Some (omega arith)
  where
    before : (j : ℕ) → j < p → is_among n (list_at f.nodes j) ≡ false
    before j less =
        elim (cases_Bool (is_among n (children_of f j)))
        [ inl found ↦ absurd (let e : j ≡ p = only j found in omega arith) | inr absent ↦ absent ]

pub parent_of-none : (f : Forest) (n : ℕ) → ((q : ℕ) → is_among n (children_of f q) ≡ false) → parent_of f n ≡ None
parent_of-none f n h = parent_from-none 0 f.nodes n h

-- the parent has it among its children
pub is_among-parent : (f : Forest) (n p : ℕ) → parent_of f n ≡ Some p → is_among n (children_of f p) ≡ true
is_among-parent f n p e = from_tells (parent_of f n) e (parent_from-tells 0 f.nodes n) where
  from_tells : (o : Option ℕ) → o ≡ Some p → Tells 0 f.nodes n o → is_among n (children_of f p) ≡ true
  from_tells None e t = absurd (cc)
  from_tells (Some q) e t = let same : t.0 ≡ p = grind (arith, t.1) in subst (λ k. is_among n (list_at f.nodes k) ≡ true) same t.2

pub is_among-no_parent : (f : Forest) (n : ℕ) → parent_of f n ≡ None → (q : ℕ) → is_among n (children_of f q) ≡ false
is_among-no_parent f n e = from_tells (parent_of f n) e (parent_from-tells 0 f.nodes n) where
  from_tells : (o : Option ℕ) → o ≡ None → Tells 0 f.nodes n o → (q : ℕ) → is_among n (children_of f q) ≡ false
  from_tells None e t = t
  from_tells (Some q) e t = absurd (cc)

-- the parent of n depends on which lists n is in, alone
pub parent_of-same : (f g : Forest) (n : ℕ)
    → ((q : ℕ) → is_among n (children_of g q) ≡ is_among n (children_of f q)) → parent_of g n ≡ parent_of f n
parent_of-same f g n same = from_tells (parent_of f n) refl (parent_from-tells 0 f.nodes n) where
  from_tells : (o : Option ℕ) → parent_of f n ≡ o → Tells 0 f.nodes n o → parent_of g n ≡ parent_of f n
  from_tells None e t = parent_of-none g n (λ q. same q ∙ t q) ∙ sym e
  from_tells (Some p) e t =
      parent_from-first 0 g.nodes n t.0 (same t.0 ∙ t.2) (λ j less. same j ∙ t.3 j less) ∙ (ap Some (sym t.1) ∙ sym e)

pub parent_of-same_lists : (f g : Forest) (n : ℕ) → ((q : ℕ) → children_of g q ≡ children_of f q) → parent_of g n ≡ parent_of f n
parent_of-same_lists f g n same = parent_of-same f g n (λ q. ap (is_among n) (same q))

-- what one change leaves of lists and data
pub children_of-with_children : (f : Forest) (n : ℕ) (cs : List ℕ) → n < node_count f → children_of (with_children f n cs) n ≡ cs
children_of-with_children f n cs h = ap (λ (x : Node). x.children) (get_or-set_same f.nodes n _ no_node h)

pub children_of-with_children_other : (f : Forest) (n m : ℕ) (cs : List ℕ) → m ≢ n → children_of (with_children f n cs) m ≡ children_of f m
children_of-with_children_other f n m cs h = ap (λ (x : Node). x.children) (get_or-set_other f.nodes n m _ no_node h)

pub data_of-with_children : (f : Forest) (n m : ℕ) (cs : List ℕ) → data_of (with_children f n cs) m ≡ data_of f m
data_of-with_children f n m cs =
    elim (cases_eq m n) [
      | inl same ↦ elim (cases_lt n (node_count f)) [
        | inl less ↦ rw same (ap (λ (x : Node). x.about) (get_or-set_same f.nodes n _ no_node less))
        | inr past ↦ rw set_past refl
      ]
      | inr other ↦ ap (λ (x : Node). x.about) (get_or-set_other f.nodes n m _ no_node other)
    ]

pub node_count-with_children : (f : Forest) (n : ℕ) (cs : List ℕ) → node_count (with_children f n cs) ≡ node_count f
node_count-with_children f n cs = length-set f.nodes n _

pub node_count-with_node : (f : Forest) (about : NodeData) → node_count (with_node f about) ≡ node_count f + 1
node_count-with_node f about = length_push f.nodes _

pub node_at-with_node_old : (f : Forest) (about : NodeData) (n : ℕ) → n < node_count f → node_at (with_node f about) n ≡ node_at f n
node_at-with_node_old f about n h = get_or_append_left f.nodes _ no_node n h

pub node_at-with_node_new : (f : Forest) (about : NodeData) → node_at (with_node f about)
    (node_count f) ≡ record { about = about; children = [] }
node_at-with_node_new f about = get_or_push f.nodes _ no_node (node_count f) refl

pub children_of-with_node : (f : Forest) (about : NodeData) (n : ℕ) → children_of (with_node f about) n ≡ children_of f n
children_of-with_node f about n =
    elim (cases_lt n (node_count f)) [
      | inl old ↦ ap (λ (x : Node). x.children) (node_at-with_node_old f about n old)
      | inr past ↦ elim (cases_eq n (node_count f)) [
        | inl same ↦ rw same (ap (λ (x : Node). x.children) (node_at-with_node_new f about)
            ∙ ap (λ (x : Node). x.children) (sym (get_or_past f.nodes (node_count f) no_node (omega arith))))
        | inr other ↦
            let beyond : length (f.nodes ++ record { about = about; children = [] } ∷ []) ≤ n =
            omega (arith, node_count-with_node f about) in
            ap (λ (x : Node). x.children) (get_or_past _ n no_node beyond) ∙ ap (λ (x : Node). x.children)
            (sym (get_or_past f.nodes n no_node past))
      ]
    ]

pub parent_of-with_node : (f : Forest) (about : NodeData) (n : ℕ) → parent_of (with_node f about) n ≡ parent_of f n
parent_of-with_node f about n = parent_of-same_lists f (with_node f about) n (children_of-with_node f about)

-- a number past the end has no parent
pub parent_of-past : (f : Forest) → IsForest f → (n : ℕ) → node_count f ≤ n → parent_of f n ≡ None
parent_of-past f is n past =
    parent_of-none f n
    (λ q. elim (cases_Bool (is_among n (children_of f q)))
    [ inl found ↦ absurd (let h : n < node_count f = is.in_range q n found in omega arith) | inr absent ↦ absent ])

-- what stands right under a node
pub above_of-same : (f g : Forest) (n : ℕ) → data_of g n ≡ data_of f n → parent_of g n ≡ parent_of f n → above_of g n ≡ above_of f n
above_of-same f g n same_data same_parent = rw (same_data, same_parent) refl

-- lists after a change to one of them
pub among_with_children : (f : Forest) (p : ℕ) (cs : List ℕ) (n q : ℕ) → p < node_count f
    → is_among n (children_of (with_children f p cs) q) ≡ true → ((q ≡ p) × (is_among n cs ≡ true))
    ⊎ ((q ≢ p) × (is_among n (children_of f q) ≡ true))
among_with_children f p cs n q there h =
    elim (cases_eq q p) [
      | inl same ↦ inl (
        same,
        ap (is_among n) (sym (children_of-with_children f p cs there))
            ∙ (ap (λ (k : ℕ). is_among n (children_of (with_children f p cs) k)) (sym same) ∙ h),
      )
      | inr other ↦ inr (other, ap (is_among n) (sym (children_of-with_children_other f p q cs other)) ∙ h)
    ]

-- the parent of a node that no change of lists concerns
pub parent_of-with_children : (f : Forest) (p : ℕ) (cs : List ℕ) (n : ℕ) → p < node_count f
    → is_among n cs ≡ is_among n (children_of f p) → parent_of (with_children f p cs) n ≡ parent_of f n
parent_of-with_children f p cs n there same =
    parent_of-same f (with_children f p cs) n
    (λ q. elim (cases_eq q p) [
      | inl e ↦ rw e (ap (is_among n) (children_of-with_children f p cs there) ∙ same)
      | inr other ↦ ap (is_among n) (children_of-with_children_other f p q cs other)
    ])

pub no_parent-from_loose : (f : Forest) (c : ℕ) → above_of f c ≡ None → (parent_of f c ≡ None) × (is_contents (data_of f c) ≡ false)
no_parent-from_loose f c e =
    elim (cases_Bool (is_contents (data_of f c))) [
      | inl contents ↦ absurd (let above : above_of f c ≡ Some (c - 1) = rw contents refl in cc)
      | inr plain ↦ let above : above_of f c ≡ parent_of f c = rw plain refl in (sym above ∙ e, plain)
    ]

-- the change of a node's data, where neither is the contents of a template
pub children_of-with_data : (f : Forest) (n : ℕ) (about : NodeData) (q : ℕ) → children_of (with_data f n about) q ≡ children_of f q
children_of-with_data f n about q =
    elim (cases_eq q n) [
      | inl same ↦ elim (cases_lt n (node_count f)) [
        | inl less ↦ rw same (ap (λ (x : Node). x.children) (get_or-set_same f.nodes n _ no_node less))
        | inr past ↦ rw set_past refl
      ]
      | inr other ↦ ap (λ (x : Node). x.children) (get_or-set_other f.nodes n q _ no_node other)
    ]

pub data_of-with_data_other : (f : Forest) (n : ℕ) (about : NodeData) (q : ℕ) → q ≢ n → data_of (with_data f n about) q ≡ data_of f q
data_of-with_data_other f n about q other = ap (λ (x : Node). x.about) (get_or-set_other f.nodes n q _ no_node other)

pub data_of-with_data : (f : Forest) (n : ℕ) (about : NodeData) → n < node_count f → data_of (with_data f n about) n ≡ about
data_of-with_data f n about there = ap (λ (x : Node). x.about) (get_or-set_same f.nodes n _ no_node there)

pub parent_of-with_data : (f : Forest) (n : ℕ) (about : NodeData) (q : ℕ) → parent_of (with_data f n about) q ≡ parent_of f q
parent_of-with_data f n about q = parent_of-same_lists f (with_data f n about) q (children_of-with_data f n about)

pub parent-IsNode : (f : Forest) (n p : ℕ) → parent_of f n ≡ Some p → p < node_count f
parent-IsNode f n p e =
    elim (cases_lt p (node_count f)) [
      | inl less ↦ less
      | inr past ↦
          let none : is_among n (children_of f p) ≡ false = ap (λ (x : Node). is_among n x.children) (get_or_past f.nodes p no_node past) in
          absurd (let some = is_among-parent f n p e in cc)
    ]

pub above-IsNode : (f : Forest) (n m : ℕ) → n < node_count f → above_of f n ≡ Some m → m < node_count f
above-IsNode f n m there e =
    elim (cases_Bool (is_contents (data_of f n))) [
      | inl contents ↦
          let above : above_of f n ≡ Some (n - 1) = rw contents refl in
          let same : n - 1 ≡ m = cc in
          omega arith
      | inr plain ↦ let above : above_of f n ≡ parent_of f n = rw plain refl in parent-IsNode f n m (sym above ∙ e)
    ]

pub above_of-with_node_old : (f : Forest) (about : NodeData) (n : ℕ) → n < node_count f → above_of (with_node f about) n ≡ above_of f n
above_of-with_node_old f about n there =
    above_of-same f (with_node f about) n (ap (λ (x : Node). x.about) (node_at-with_node_old f about n there))
    (parent_of-with_node f about n)

-- past the end there is nothing
pub data_of-past : (f : Forest) (n : ℕ) → node_count f ≤ n → data_of f n ≡ Document
data_of-past f n past = ap (λ (x : Node). x.about) (get_or_past f.nodes n no_node past)

pub children_of-past : (f : Forest) (n : ℕ) → node_count f ≤ n → children_of f n ≡ []
children_of-past f n past = ap (λ (x : Node). x.children) (get_or_past f.nodes n no_node past)

pub data_of-with_node_old : (f : Forest) (about : NodeData) (n : ℕ) → n < node_count f → data_of (with_node f about) n ≡ data_of f n
data_of-with_node_old f about n there = ap (λ (x : Node). x.about) (node_at-with_node_old f about n there)

pub data_of-with_node_new : (f : Forest) (about : NodeData) → data_of (with_node f about) (node_count f) ≡ about
data_of-with_node_new f about = ap (λ (x : Node). x.about) (node_at-with_node_new f about)
