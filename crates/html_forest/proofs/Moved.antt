-- What nodes keep of their neighbours, when the children of one node move after those of another one.
use Rattle.std.proofs.Common.{◌≡◌, ◌≢◌, ◌==◌, ◌&&◌, ◌<◌, ℕ, List, [], ◌∷◌, ◌++◌, Option, Some, None, true, false, cond, is_none}
use Rattle.std.proofs.Common.{length, sym, ap, ◌∙◌, refl, inl, inr, append-nil}
use Rattle.std.proofs.lemmas.Bool.{cases_eq, cases_Bool, eq-eqb, ne_eqb}
use Rattle.markup.specs.Forest.{Above, Forest, IsForest, IsParent, NodeData, children_of, is_among, last_of, node_count}
use Rattle.markup.specs.Forest.{parent_of, reparent_children}
use Rattle.markup.proofs.Parents.{is_among-parent}
use Rattle.markup.proofs.Reparented.{IsReparented, IsReparented-reparent_children}
use Rattle.markup.proofs.TemplateContents.{HasContents-same_data}
use Rattle.html_forest.specs.Links.{Links, after_in, before_in, first_of, is_it, link_at, links_at, moved_after, next_under, previous_under}
use Rattle.html_forest.specs.Views.{IsKept}
use Rattle.html_forest.proofs.Kept.{links_at-same}
use Rattle.html_forest.proofs.Linked.{first-behind, last_of-behind, same-links}
use Rattle.html_forest.proofs.Neighbours.{absent-not_first, absent-not_last, after-left, after-right, before-first, before-left}
use Rattle.html_forest.proofs.Neighbours.{before-right, last_from, last_from-none}

module _ (f g : Forest) (from to : ℕ) (is : IsForest f) (moved : IsReparented f g from to) (apart : from ≢ to) where
  -- a node with another parent is not among the children of that one
  not_among : (n p : ℕ) (o : Option ℕ) → parent_of f n ≡ o → o ≢ Some p → is_among n (children_of f p) ≡ false
  not_among n p o e other = elim (cases_Bool (is_among n (children_of f p))) [
    | inl found ↦ absurd (other (sym e ∙ is.one_parent p n found))
    | inr absent ↦ absent
  ]

  list_to : children_of g to ≡ children_of f to ++ children_of f from
  list_to = moved.list_to apart

  some-apart : (a b : ℕ) → a ≢ b → Some a ≢ Some b
  some-apart a b other e = other (let same : a ≡ b = cc in same)

  -- with no children nothing moves
  pub nothing-moved : children_of f from ≡ [] → (n : ℕ) → links_at f n ≡ links_at g n
  nothing-moved none n = sym (links_at-same f g n (moved.parents n (rw none refl)) lists)
    where
      lists : (q : ℕ) → children_of g q ≡ children_of f q
      lists q =
          elim (cases_eq q from) [
            | inl same ↦ rw same (moved.list_from apart ∙ sym none)
            | inr a ↦ elim (cases_eq q to) [
              | inl same ↦ rw same (list_to ∙ (ap (λ (l : List ℕ). children_of f to ++ l) none ∙ append-nil (children_of f to)))
              | inr b ↦ moved.lists q a b
            ]
          ]

  module _ (head : ℕ) (rest : List ℕ) (some : children_of f from ≡ head ∷ rest) where
    abbrev tail : Option ℕ
    tail = last_of (children_of f to)

    first-is : first_of (children_of f from) ≡ Some head
    first-is = ap first_of some

    -- whether a node is the first of those that move
    it-head : (n : ℕ) → is_it (first_of (children_of f from)) n ≡ (n == head)
    it-head n = ap (λ (o : Option ℕ). is_it o n) first-is

    previous-of : (n : ℕ) (o : Option ℕ) → parent_of f n ≡ o → cond (n == head) tail
        (previous_under f n o) ≡ previous_under g n (parent_of g n)
    previous-of n None e =
        let absent = not_among n from None e (λ h. absurd (cc)) in
        let stays : parent_of g n ≡ None = moved.parents n absent ∙ e in
        rw (sym (it-head n) ∙ absent-not_first n (children_of f from) absent, stays) refl
    previous-of n (Some r) e =
        elim (cases_eq r from) [
          | inl same ↦
              let found : is_among n (children_of f from) ≡ true = is_among-parent f n from (e ∙ ap Some same) in
              let absent = not_among n to (Some r) e (some-apart r to (λ h. apart (sym same ∙ h))) in
              rw (same, moved.parent n found, list_to, sym (it-head n))
              (sym (before-right None n (children_of f to) (children_of f from) absent
              ∙ (before-first (last_from None (children_of f to)) None n (children_of f from) found
              ∙ ap (λ (o : Option ℕ). cond (is_it (first_of (children_of f from)) n) o
              (before_in None n (children_of f from))) (last_from-none (children_of f to)))))
          | inr other ↦
              let absent = not_among n from (Some r) e (some-apart r from other) in
              let stays : parent_of g n ≡ Some r = moved.parents n absent ∙ e in
              rw (sym (it-head n) ∙ absent-not_first n (children_of f from) absent, stays)
              (elim (cases_eq r to) [
                | inl same ↦
                    let found : is_among n (children_of f to) ≡ true = is_among-parent f n to (e ∙ ap Some same) in
                    rw (same, list_to) (sym (before-left None n (children_of f to) (children_of f from) found))
                | inr else' ↦ rw (moved.lists r other else') refl
              ])
        ]

    next-of : (n : ℕ) (o : Option ℕ) → parent_of f n ≡ o → cond (is_it tail n) (Some head)
        (next_under f n o) ≡ next_under g n (parent_of g n)
    next-of n None e =
        let absent = not_among n from None e (λ h. absurd (cc)) in
        let stays : parent_of g n ≡ None = moved.parents n absent ∙ e in
        rw (absent-not_last n (children_of f to) (not_among n to None e (λ h. absurd (cc))), stays) refl
    next-of n (Some r) e =
        elim (cases_eq r from) [
          | inl same ↦
              let found : is_among n (children_of f from) ≡ true = is_among-parent f n from (e ∙ ap Some same) in
              let absent = not_among n to (Some r) e (some-apart r to (λ h. apart (sym same ∙ h))) in
              rw (absent-not_last n (children_of f to) absent, same, moved.parent n found, list_to)
              (sym (after-right n (children_of f to) (children_of f from) absent))
          | inr other ↦
              let absent = not_among n from (Some r) e (some-apart r from other) in
              let stays : parent_of g n ≡ Some r = moved.parents n absent ∙ e in
              rw stays
              (elim (cases_eq r to) [
                | inl same ↦
                    let found : is_among n (children_of f to) ≡ true = is_among-parent f n to (e ∙ ap Some same) in
                    rw (same, list_to) (sym (after-left n (children_of f to) (children_of f from) (is.once to) found
                    ∙ ap (λ (o : Option ℕ). cond (is_it tail n) o (after_in n (children_of f to))) first-is))
                | inr else' ↦ rw (
                  absent-not_last n (children_of f to)
                      (not_among n to (Some r) e (some-apart r to else')),
                  moved.lists r other else',
                ) refl
              ])
        ]

    parent-of : (n : ℕ) → cond (is_among n (children_of f from)) (Some to) (parent_of f n) ≡ parent_of g n
    parent-of n =
        elim (cases_Bool (is_among n (children_of f from))) [
          | inl found ↦ rw found (sym (moved.parent n found))
          | inr absent ↦ rw absent (sym (moved.parents n absent))
        ]

    first-of : (n : ℕ) → cond (n == from) None
        (cond (n == to && is_none tail) (Some head) (first_of (children_of f n))) ≡ first_of (children_of g n)
    first-of n =
        elim (cases_eq n from) [
          | inl same ↦ rw (same, eq-eqb from from refl, moved.list_from apart) refl
          | inr a ↦ rw (ne_eqb n from a) (elim (cases_eq n to) [
            | inl same ↦ rw (same, eq-eqb to to refl, list_to, some) (first-behind head (children_of f to) rest)
            | inr b ↦ rw (ne_eqb n to b, moved.lists n a b) refl
          ])
        ]

    last-of : (n : ℕ) → cond (n == from) None
        (cond (n == to) (last_of (children_of f from)) (last_of (children_of f n))) ≡ last_of (children_of g n)
    last-of n =
        elim (cases_eq n from) [
          | inl same ↦ rw (same, eq-eqb from from refl, moved.list_from apart) refl
          | inr a ↦ rw (ne_eqb n from a) (elim (cases_eq n to) [
            | inl same ↦ rw (same, eq-eqb to to refl, list_to, some) (sym (last_of-behind (children_of f to) head rest))
            | inr b ↦ rw (ne_eqb n to b, moved.lists n a b) refl
          ])
        ]

    pub some-moved : (n : ℕ) → moved_after from to tail (Some head) (last_of (children_of f from))
        (children_of f from) n (links_at f n) ≡ links_at g n
    some-moved n = same-links _ _ (parent-of n) (previous-of n (parent_of f n) refl)
        (next-of n (parent_of f n) refl) (first-of n) (last-of n)

-- all nodes keep what they have, once the children moved
pub moved-links : (f g : Forest) (from to : ℕ) → IsForest f → IsReparented f g from to → from ≢ to → (n : ℕ)
    → moved_after from to (last_of (children_of f to)) (first_of (children_of f from))
    (last_of (children_of f from)) (children_of f from) n (links_at f n) ≡ links_at g n
moved-links f g from to is moved apart n = by (children_of f from) refl where
  by : (cs : List ℕ) → children_of f from ≡ cs → moved_after from to (last_of (children_of f to)) (first_of cs)
      (last_of (children_of f from)) (children_of f from) n (links_at f n) ≡ links_at g n
  by [] e = nothing-moved f g from to is moved apart e n
  by (head ∷ rest) e = some-moved f g from to is moved apart head rest e n

pub IsKept-reparented : (f : Forest) (ss : List NodeData) (ls new : List Links) (from to : ℕ) → IsKept f ss ls
    → from < node_count f → IsParent f to → ((c : ℕ) → is_among c (children_of f from) ≡ true → Above f c to → ⊥)
    → from ≢ to → length new ≡ length ls
    → ((n : ℕ) → link_at new n ≡ moved_after from to (link_at ls to).last (link_at ls from).first
    (link_at ls from).last (children_of f from) n (link_at ls n)) → IsKept (reparent_children f from to) ss new
IsKept-reparented f ss ls new from to k there at loose apart long links = record {
  is_forest = moved.is;
  has_contents = HasContents-same_data f (reparent_children f from to) k.has_contents moved.same_data;
  count_abouts = k.count_abouts ∙ sym moved.count;
  count_links = long ∙ (k.count_links ∙ sym moved.count);
  is_about = λ n. k.is_about n ∙ sym (moved.same_data n);
  is_linked = λ n. links n ∙ (rw (k.is_linked n, k.is_linked to, k.is_linked from)
      (moved-links f (reparent_children f from to) from to k.is_forest moved apart n));
}
  where
    moved : IsReparented f (reparent_children f from to) from to
    moved = IsReparented-reparent_children f from to k.is_forest there at loose
