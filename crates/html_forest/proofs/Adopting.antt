-- The loop that gives nodes another parent, one after the other.
use Rattle.std.proofs.Common.{◌≡◌, ◌==◌, ◌<◌, ℕ, List, [], ◌∷◌, ◌++◌, Option, Some, None, cond, length, subst, sym, ap, ◌∙◌}
use Rattle.std.proofs.Common.{refl, arith, append_assoc, append-nil, inl, inr}
use Rattle.std.proofs.lemmas.Bool.{cases_eq, cases_Bool, eq-eqb, ne_eqb}
use Rattle.html_forest.specs.declared.node.Node.{Node}
use Rattle.html_forest.specs.Links.{Links, adopted, link_at}
use Rattle.html_forest.specs.Views.{IsWalk, entries_of, links_of, walk_from}
use Rattle.html_forest.proofs.Walks.{IsStep, IsStep-walk, step-IsNode, walk-none}

-- some of the nodes from the first on have the parent, and those from `at` on are left
pub record IsAdopting (old : List Node) (first : Option ℕ) (parent : ℕ) (now : List Node) (at : Option ℕ) : Type 0 where
  pub done : List ℕ
  pub all : walk_from old first ≡ done ++ walk_from old at
  pub walk : IsWalk old at
  pub links : (n : ℕ) → link_at (links_of now) n ≡ adopted parent done n (link_at (links_of old) n)
  pub entries : entries_of now ≡ entries_of old
  pub len : length now ≡ length old

adopted-more : (parent c : ℕ) (done : List ℕ) (n : ℕ) (l : Links) → adopted parent (done ++ c ∷ []) n l ≡ cond
    (n == c) (record l { parent = Some parent }) (adopted parent done n l)
adopted-more parent c [] n l = elim (cases_Bool (n == c)) [ inl same ↦ rw same refl | inr other ↦ rw other refl ]
adopted-more parent c (d ∷ done) n l =
    elim (cases_Bool (n == d)) [
      | inl same ↦ rw same (elim (cases_Bool (n == c)) [ inl it ↦ rw it refl | inr other ↦ rw other refl ])
      | inr other ↦ rw other (adopted-more parent c done n l)
    ]

-- what the node that comes next is linked to did not change
pub next-same : (old : List Node) (first : Option ℕ) (parent : ℕ) (now : List Node) (at : Option ℕ)
    → IsAdopting old first parent now at → (c : ℕ) → (link_at (links_of now) c).next ≡ (link_at (links_of old) c).next
next-same old first parent now at h c = ap (λ (l : Links). l.next) (h.links c)

pub at-IsNode : (old : List Node) (first : Option ℕ) (parent : ℕ) (now : List Node) (c : ℕ)
    → IsAdopting old first parent now (Some c) → c < length now
at-IsNode old first parent now c h = let there = step-IsNode old c h.walk in omega (arith, h.len)

-- one node more
pub IsAdopting-next : (old : List Node) (first : Option ℕ) (parent : ℕ) (now new : List Node) (c : ℕ)
    (at : Option ℕ) → IsAdopting old first parent now (Some c)
    → at ≡ (link_at (links_of now) c).next
    → ((n : ℕ) → link_at (links_of new) n ≡ cond (n == c)
    (record (link_at (links_of now) c) { parent = Some parent }) (link_at (links_of now) n))
    → entries_of new ≡ entries_of now → length new ≡ length now → IsAdopting old first parent new at
IsAdopting-next old first parent now new c at h next links entries len = record {
  done = h.done ++ c ∷ [];
  all = h.all ∙ (ap (λ (ns : List ℕ). h.done ++ ns)
      (step.goes ∙ ap (λ (o : Option ℕ). c ∷ walk_from old o) (sym here)) ∙ sym (append_assoc h.done (c ∷ []) (walk_from old at)));
  walk = subst (λ (o : Option ℕ). IsWalk old o) (sym here) step.rest;
  links = λ n. links n ∙ (same n ∙ sym (adopted-more parent c h.done n (link_at (links_of old) n)));
  entries = entries ∙ h.entries;
  len = len ∙ h.len;
}
  where
    here : at ≡ (link_at (links_of old) c).next
    here = next ∙ next-same old first parent now (Some c) h c

    step : IsStep (links_of old) (length (links_of old)) c
    step = IsStep-walk old c h.walk

    same : (n : ℕ) → cond (n == c) (record (link_at (links_of now) c) { parent = Some parent })
        (link_at (links_of now) n) ≡ cond (n == c) (record (link_at (links_of old) n) { parent = Some parent })
        (adopted parent h.done n (link_at (links_of old) n))
    same n =
        elim (cases_eq n c) [
          | inl it ↦ rw (it, eq-eqb c c refl) (ap (λ (l : Links). record l { parent = Some parent }) (h.links c))
          | inr other ↦ rw (ne_eqb n c other) (h.links n)
        ]

-- after the last one all have it
pub IsAdopting-end : (old : List Node) (first : Option ℕ) (parent : ℕ) (now : List Node)
    → IsAdopting old first parent now None → (n : ℕ) → link_at (links_of now) n ≡ adopted parent
    (walk_from old first) n (link_at (links_of old) n)
IsAdopting-end old first parent now h n =
    h.links n ∙ ap (λ (ns : List ℕ). adopted parent ns n (link_at (links_of old) n))
    (sym (h.all ∙ (ap (λ (ns : List ℕ). h.done ++ ns) (walk-none old) ∙ append-nil h.done)))

-- an optional number that is no number
pub is-none : (o : Option ℕ) → ((n : ℕ) → o ≡ Some n → ⊥) → None ≡ o
is-none None h = refl
is-none (Some n) h = absurd (h n refl)
