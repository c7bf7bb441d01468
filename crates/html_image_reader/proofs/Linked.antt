-- Forests of which each node has the same neighbours have the same children.
use Rattle.std.proofs.Common.{◌≡◌, ◌∙◌, ◌<◌, ◌^◌, ℕ, true, false, List, [], ◌∷◌, ◌++◌, Option, Some, None, IfSome}
use Rattle.std.proofs.Common.{ap, sym, refl, arith, subst, inl, inr, append_assoc}
use Rattle.std.proofs.lemmas.Bool.{cases_eq, eq-eqb, ne_eqb}
use Rattle.markup.specs.Forest.{Forest, IsDistinct, IsForest, children_of, is_among, node_count, parent_of}
use Rattle.markup.proofs.Children.{is_among-append_right}
use Rattle.html_forest.specs.Links.{after_in, first_of, next_under}
use Rattle.html_forest.proofs.Neighbours.{after-here, after-there, first-there}
use Rattle.html_tree_image.specs.Image.{link}

pub link-small : (bound : ℕ) (o : Option ℕ) → bound < 4294967295 → IfSome o (λ k. k < bound) → link o < 2 ^ 32
link-small bound None few there = omega arith
link-small bound (Some n) few there = omega (arith, there)

-- numbers of nodes differ from that of no node
pub link-same : (bound : ℕ) (o p : Option ℕ) → bound < 4294967295 → IfSome o (λ k. k < bound) → IfSome p (λ k. k < bound)
    → link o ≡ link p → o ≡ p
link-same bound None None few there there' e = refl
link-same bound None (Some m) few there there' e = absurd (omega (arith, there', e))
link-same bound (Some n) None few there there' e = absurd (omega (arith, there, e))
link-same bound (Some n) (Some m) few there there' e = ap Some e

pub first-in : (f : Forest) → IsForest f → (n : ℕ) → IfSome (first_of (children_of f n)) (λ k. k < node_count f)
first-in f is n = first-there (children_of f n) (node_count f) (λ k among. is.in_range n k among)

next-of : (f : Forest) → IsForest f → (n : ℕ) (parent : Option ℕ) → IfSome (next_under f n parent) (λ k. k < node_count f)
next-of f is n None = tt
next-of f is n (Some p) = after-there n (children_of f p) (node_count f) (λ k among. is.in_range p k among)

pub next-in : (f : Forest) → IsForest f → (n : ℕ) → IfSome (next_under f n (parent_of f n)) (λ k. k < node_count f)
next-in f is n = next-of f is n (parent_of f n)

apart : (n : ℕ) (before after : List ℕ) → IsDistinct (before ++ n ∷ after) → is_among n before ≡ false
apart n [] after d = refl
apart n (x ∷ xs) after d =
    elim (cases_eq n x) [
      | inl same ↦ absurd (let twice : is_among x (xs ++ n ∷ after) ≡ true = is_among-append_right x xs
          (n ∷ after) (rw (eq-eqb x n (sym same)) refl) in let once = d.0 in cc)
      | inr other ↦ rw (ne_eqb n x other) (apart n xs after d.1)
    ]

-- the next node after one among children
next-is : (f : Forest) → IsForest f → (p n : ℕ) (before after : List ℕ) → children_of f p ≡ before ++ n ∷ after
    → next_under f n (parent_of f n) ≡ first_of after
next-is f is p n before after e =
    let found : is_among n (children_of f p) ≡ true =
    subst (λ (l : List ℕ). is_among n l ≡ true) (sym e) (is_among-append_right n before (n ∷ after) (rw (eq-eqb n n refl) refl)) in
    let distinct = subst (λ (l : List ℕ). IsDistinct l) e (is.once p) in
    ap (next_under f n) (is.one_parent p n found) ∙ (ap (after_in n) e ∙ after-here n before after (apart n before after distinct))

module _ (f g : Forest) (is : IsForest f) (is' : IsForest g)
    (next : (n : ℕ) → n < node_count f → next_under f n (parent_of f n) ≡ next_under g n (parent_of g n)) (p : ℕ) where
  rest-same : (before before' after after' : List ℕ) → children_of f p ≡ before ++ after → children_of g p ≡ before' ++ after'
      → first_of after ≡ first_of after' → after ≡ after'
  rest-same before before' [] [] e e' same = refl
  rest-same before before' [] (m ∷ after') e e' same = absurd (cc)
  rest-same before before' (n ∷ after) [] e e' same = absurd (cc)
  rest-same before before' (n ∷ after) (m ∷ after') e e' same =
      let one : m ≡ n = cc in
      let e'' : children_of g p ≡ before' ++ n ∷ after' = e' ∙ ap (λ (k : ℕ). before' ++ k ∷ after') one in
      let found : is_among n (children_of f p) ≡ true =
      subst (λ (l : List ℕ). is_among n l ≡ true) (sym e) (is_among-append_right n before (n ∷ after) (rw (eq-eqb n n refl) refl)) in
      let follow : first_of after ≡ first_of after' =
      sym (next-is f is p n before after e) ∙ next n (is.in_range p n found) ∙ next-is g is' p n before' after' e'' in
      let others : after ≡ after' =
      rest-same (before ++ n ∷ []) (before' ++ n ∷ []) after after' (e ∙ sym (append_assoc before (n ∷ []) after))
      (e'' ∙ sym (append_assoc before' (n ∷ []) after')) follow in
      ap (λ (k : ℕ). k ∷ after) (sym one) ∙ ap (λ (ks : List ℕ). m ∷ ks) others

  pub children-same : first_of (children_of f p) ≡ first_of (children_of g p) → children_of f p ≡ children_of g p
  children-same same = rest-same [] [] (children_of f p) (children_of g p) refl refl same
