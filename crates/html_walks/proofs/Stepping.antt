-- How a walk goes on.
use Rattle.std.proofs.Common.{◌≡◌, ◌∙◌, ◌-◌, ◌<◌, ◌≤◌, ℕ, zero, suc, true, List, [], ◌∷◌}
use Rattle.std.proofs.Common.{◌++◌, Option, Some, None, length, arith, refl, sym, ap, inl, inr, subst, append_assoc}
use Rattle.std.proofs.lemmas.Bool.{cases_eq, eq-eqb, ne_eqb}
use Rattle.markup.specs.Forest.{Forest, IsDistinct, IsForest, children_of, is_among, node_count, parent_of}
use Rattle.markup.proofs.WholeTrees.{among-first, among-later}
use Rattle.html_forest.specs.Links.{first_of, next_under}
use Rattle.html_forest.specs.Walk.{after_under, behind, those_after}
use Rattle.html_forest.proofs.Walked.{next-behind}
use Rattle.html_nodes.specs.Below.{below}
use Rattle.html_walks.specs.Walk.{is_deep, of_parent, steps_after, steps_each, steps_of, steps_within, up}
use Rattle.html_walks.specs.declared.steps.Step.{Step}
use Rattle.html_walks.specs.declared.steps.Step.TheVariants.{Enter, Leave}
use Rattle.html_walks.proofs.Fitting.{fits, parent-more}

-- LEVELS

each-same : (f : Forest) (g h : List ℕ → List Step) (ns : List ℕ)
    → ((n : ℕ) → is_among n ns ≡ true → g (children_of f n) ≡ h (children_of f n)) → steps_each g f ns ≡ steps_each h f ns
each-same f g h [] same = refl
each-same f g h (n ∷ ns) same =
    ap (λ (inner : List Step). Enter n ∷ (inner ++ Leave n ∷ steps_each g f ns)) (same n (among-first n ns))
    ∙ ap (λ (later : List Step). Enter n ∷ (h (children_of f n) ++ Leave n ∷ later))
    (each-same f g h ns (λ m among. same m (among-later m n ns among)))

-- as many levels as there are nodes below each, or more, have the same steps
within-same : (f : Forest) → IsForest f → (l k : ℕ) (ns : List ℕ) → ((n : ℕ) → is_among n ns ≡ true → length (below f n) < l) → l ≤ k
    → steps_within l f ns ≡ steps_within k f ns
unfolding steps_within
within-same f is zero zero ns h le = refl
within-same f is zero (suc k) [] h le = refl
within-same f is zero (suc k) (n ∷ ns) h le = absurd (let none = h n (among-first n ns) in omega (arith, none))
within-same f is (suc l) zero ns h le = absurd (omega (arith, le))
within-same f is (suc l) (suc k) ns h le = each-same f (steps_within l f) (steps_within k f) ns
    (λ n among. within-same f is l k (children_of f n)
    (λ m child. let less = parent-more f is m n (is.one_parent n m child) in let few = h n among in omega (arith, less, few))
    (omega (arith, le)))

first-by : (f : Forest) → IsForest f → (count : ℕ) → node_count f ≡ count → (n : ℕ) (ns : List ℕ) → length (below f n) < count
    → steps_within count f (n ∷ ns) ≡ Enter n ∷ (steps_within count f (children_of f n) ++ Leave n ∷ steps_within count f ns)
unfolding steps_within
first-by f is zero e n ns few = absurd (omega (arith, few))
first-by f is (suc l) e n ns few =
    ap (λ (inner : List Step). Enter n ∷ (inner ++ Leave n ∷ steps_each (steps_within l f) f ns))
    (within-same f is l (suc l) (children_of f n)
    (λ m child. let less = parent-more f is m n (is.one_parent n m child) in omega (arith, less, few)) (omega arith))

-- the steps of children begin with those of the first
steps-first : (f : Forest) → IsForest f → (p n : ℕ) (ns : List ℕ) → parent_of f n ≡ Some p
    → steps_of f (n ∷ ns) ≡ Enter n ∷ (steps_of f (children_of f n) ++ Leave n ∷ steps_of f ns)
steps-first f is p n ns e =
    first-by f is (node_count f) refl n ns (let less = parent-more f is n p e in let all = fits f is p in omega (arith, less, all))

none-by : (f : Forest) (count : ℕ) → steps_within count f [] ≡ []
unfolding steps_within
none-by f zero = refl
none-by f (suc count) = refl

steps-none : (f : Forest) → steps_of f [] ≡ []
steps-none f = none-by f (node_count f)

-- NEIGHBOURS

some-same : {a b : ℕ} → Some a ≡ Some b → a ≡ b
some-same h = cc

-- what is in a distinct list is not its first one
apart : (v m : ℕ) (ms : List ℕ) → IsDistinct (m ∷ ms) → is_among v ms ≡ true → v ≡ m → ⊥
apart v m ms once there same = let h : is_among m ms ≡ true = subst (λ k. is_among k ms ≡ true) same there in let no = once.0 in absurd cc

first-is : (xs : List ℕ) (m : ℕ) → first_of xs ≡ Some m → (ys : List ℕ) × (xs ≡ m ∷ ys)
first-is [] m h = absurd cc
first-is (x ∷ xs) m h = (xs, ap (λ (k : ℕ). k ∷ xs) (some-same h))

first-none : (xs : List ℕ) → first_of xs ≡ None → xs ≡ []
first-none [] h = refl
first-none (x ∷ xs) h = absurd cc

-- after the next one of a distinct list come those after that
those-step : (n m : ℕ) (xs ys : List ℕ) → IsDistinct xs → those_after n xs ≡ m ∷ ys → (is_among m xs ≡ true) × (those_after m xs ≡ ys)
those-step n m [] ys once h = absurd cc
those-step n m (x ∷ xs) ys once h =
    elim (cases_eq n x) [
      | inl same ↦
          let tail : xs ≡ m ∷ ys = rw (eq-eqb n x same) at h in
          let there : is_among m xs ≡ true = subst (λ (l : List ℕ). is_among m l ≡ true) (sym tail) (among-first m ys) in
          let all : those_after m xs ≡ ys = ap (those_after m) tail ∙ rw (eq-eqb m m refl) refl in
          (among-later m x xs there, rw (ne_eqb m x (apart m x xs once there)) all)
      | inr other ↦
          let rest = those-step n m xs ys once.1 (rw (ne_eqb n x other) at h) in
          (among-later m x xs rest.0, rw (ne_eqb m x (apart m x xs once rest.0)) rest.1)
    ]

-- the next sibling, and those behind it, are behind a node
pub record IsNext (f : Forest) (n m : ℕ) : Type 0 where
  pub is : behind f n ≡ m ∷ behind f m
  pub parent : parent_of f m ≡ parent_of f n

next-under : (f : Forest) → IsForest f → (n m : ℕ) (o : Option ℕ) → parent_of f n ≡ o → (ys : List ℕ) → after_under f n o ≡ m ∷ ys
    → (ys ≡ behind f m) × (parent_of f m ≡ parent_of f n)
next-under f is n m None e ys h = absurd cc
next-under f is n m (Some p) e ys h =
    let step = those-step n m (children_of f p) ys (is.once p) h in
    let has : parent_of f m ≡ Some p = is.one_parent p m step.0 in
    (rw has (sym step.1), has ∙ sym e)

pub next-some : (f : Forest) → IsForest f → (n m : ℕ) → next_under f n (parent_of f n) ≡ Some m → IsNext f n m
next-some f is n m h =
    let first = first-is (behind f n) m (sym (next-behind f n) ∙ h) in
    let rest = next-under f is n m (parent_of f n) refl first.0 first.1 in
    record { is = first.1 ∙ ap (λ (l : List ℕ). m ∷ l) rest.0; parent = rest.1 }

pub next-none : (f : Forest) (n : ℕ) → next_under f n (parent_of f n) ≡ None → behind f n ≡ []
next-none f n h = first-none (behind f n) (sym (next-behind f n) ∙ h)

-- behind the first child are the others
first-behind : (f : Forest) → IsForest f → (n m : ℕ) (ms : List ℕ) → children_of f n ≡ m ∷ ms → behind f m ≡ ms
first-behind f is n m ms e =
    let there : is_among m (children_of f n) ≡ true = subst (λ (l : List ℕ). is_among m l ≡ true) (sym e) (among-first m ms) in
    let parent : parent_of f m ≡ Some n = is.one_parent n m there in
    rw (parent, e) (rw (eq-eqb m m refl) refl)

-- TURNS

pub inside : (f : Forest) → IsForest f → (top depth n m : ℕ) → is_deep f top depth n ≡ true → first_of (children_of f n) ≡ Some m
    → is_deep f top (suc depth) m ≡ true
unfolding is_deep
inside f is top depth n m h e =
    let first = first-is (children_of f n) m e in
    let there : is_among m (children_of f n) ≡ true = subst (λ (l : List ℕ). is_among m l ≡ true) (sym first.1) (among-first m first.0) in
    let parent : parent_of f m ≡ Some n = is.one_parent n m there in
    rw parent h

pub inside-steps : (f : Forest) → IsForest f → (depth n m : ℕ) → first_of (children_of f n) ≡ Some m
    → steps_of f (children_of f n) ++ Leave n ∷ steps_after depth f n
    ≡ Enter m ∷ (steps_of f (children_of f m) ++ Leave m ∷ steps_after (suc depth) f m)
unfolding steps_after
inside-steps f is depth n m e =
    let first = first-is (children_of f n) m e in
    let there : is_among m (children_of f n) ≡ true = subst (λ (l : List ℕ). is_among m l ≡ true) (sym first.1) (among-first m first.0) in
    let parent : parent_of f m ≡ Some n = is.one_parent n m there in
    let others : behind f m ≡ first.0 = first-behind f is n m first.0 first.1 in
    let above : up f m ≡ n = rw parent refl in
    ap (λ (l : List ℕ). steps_of f l ++ Leave n ∷ steps_after depth f n) first.1
    ∙ (ap (λ (l : List Step). l ++ Leave n ∷ steps_after depth f n) (steps-first f is n m first.0 parent)
    ∙ (ap (λ (l : List Step). Enter m ∷ l) (append_assoc (steps_of f (children_of f m)) (Leave m ∷ steps_of f first.0)
    (Leave n ∷ steps_after depth f n))
    ∙ (λ i. Enter m ∷ (steps_of f (children_of f m) ++ Leave m ∷ (steps_of f (sym others i) ++ Leave (sym above i)
    ∷ steps_after depth f (sym above i))))))

pub childless-steps : (f : Forest) → (depth n : ℕ) → first_of (children_of f n) ≡ None
    → steps_of f (children_of f n) ++ Leave n ∷ steps_after depth f n ≡ Leave n ∷ steps_after depth f n
childless-steps f depth n e =
    ap (λ (l : List Step). l ++ Leave n ∷ steps_after depth f n)
    (ap (steps_of f) (first-none (children_of f n) e) ∙ steps-none f)

-- a node that stands below the top has a parent
pub record HasParent (f : Forest) (top depth n : ℕ) : Type 0 where
  pub parent : ℕ
  pub has : parent_of f n ≡ Some parent
  pub deep : is_deep f top depth parent ≡ true

pub has-parent : (f : Forest) (top depth n : ℕ) → is_deep f top (suc depth) n ≡ true → HasParent f top depth n
unfolding is_deep
has-parent f top depth n h = by (parent_of f n) refl h
  where
    by : (o : Option ℕ) → parent_of f n ≡ o → of_parent (is_deep f top depth) o ≡ true → HasParent f top depth n
    by None e g = absurd cc
    by (Some p) e g = record { parent = p; has = e; deep = g }

pub beside : (f : Forest) (top depth n m : ℕ) → is_deep f top (suc depth) n ≡ true → IsNext f n m → is_deep f top (suc depth) m ≡ true
unfolding is_deep
beside f top depth n m h next = ap (of_parent (is_deep f top depth)) next.parent ∙ h

pub beside-steps : (f : Forest) → IsForest f → (top depth n m : ℕ) → is_deep f top (suc depth) n ≡ true → IsNext f n m
    → steps_after (suc depth) f n ≡ Enter m ∷ (steps_of f (children_of f m) ++ Leave m ∷ steps_after (suc depth) f m)
unfolding steps_after
beside-steps f is top depth n m h next =
    let p = has-parent f top depth n h in
    let above : up f m ≡ up f n = rw (next.parent, p.has) refl in
    let tail : List Step = Leave (up f n) ∷ steps_after depth f (up f n) in
    ap (λ (l : List ℕ). steps_of f l ++ tail) next.is
    ∙ (ap (λ (l : List Step). l ++ tail) (steps-first f is p.parent m (behind f m) (next.parent ∙ p.has))
    ∙ (ap (λ (l : List Step). Enter m ∷ l) (append_assoc (steps_of f (children_of f m)) (Leave m ∷ steps_of f (behind f m)) tail)
    ∙ (λ i. Enter m ∷ (steps_of f (children_of f m) ++ Leave m ∷ (steps_of f (behind f m) ++ Leave (sym above i)
    ∷ steps_after depth f (sym above i))))))

pub upward-steps : (f : Forest) (depth n p : ℕ) → behind f n ≡ [] → parent_of f n ≡ Some p
    → steps_after (suc depth) f n ≡ Leave p ∷ steps_after depth f p
unfolding steps_after
upward-steps f depth n p none e =
    let above : up f n ≡ p = rw e refl in
    (λ i. steps_of f (none i) ++ Leave (above i) ∷ steps_after depth f (above i))
    ∙ ap (λ (l : List Step). l ++ Leave p ∷ steps_after depth f p) (steps-none f)

-- AT ANY DEPTH BUT THE TOP'S

pub beside-any : (f : Forest) (top depth n m : ℕ) → (depth ≡ 0 → ⊥) → is_deep f top depth n ≡ true → IsNext f n m
    → is_deep f top depth m ≡ true
beside-any f top zero n m some h next = absurd (some refl)
beside-any f top (suc depth) n m some h next = beside f top depth n m h next

pub beside-steps-any : (f : Forest) → IsForest f → (top depth n m : ℕ) → (depth ≡ 0 → ⊥) → is_deep f top depth n ≡ true → IsNext f n m
    → steps_after depth f n ≡ Enter m ∷ (steps_of f (children_of f m) ++ Leave m ∷ steps_after depth f m)
beside-steps-any f is top zero n m some h next = absurd (some refl)
beside-steps-any f is top (suc depth) n m some h next = beside-steps f is top depth n m h next

pub upward-any : (f : Forest) (top depth n p : ℕ) → (depth ≡ 0 → ⊥) → is_deep f top depth n ≡ true → parent_of f n ≡ Some p
    → is_deep f top (depth - 1) p ≡ true
upward-any f top zero n p some h e = absurd (some refl)
upward-any f top (suc depth) n p some h e =
    let up = has-parent f top depth n h in
    let same : up.parent ≡ p = some-same (sym up.has ∙ e) in
    let less : suc depth - 1 ≡ depth = omega arith in
    rw (less, ← same) up.deep

pub upward-steps-any : (f : Forest) (depth n p : ℕ) → (depth ≡ 0 → ⊥) → behind f n ≡ [] → parent_of f n ≡ Some p
    → steps_after depth f n ≡ Leave p ∷ steps_after (depth - 1) f p
upward-steps-any f zero n p some none e = absurd (some refl)
upward-steps-any f (suc depth) n p some none e =
    let less : suc depth - 1 ≡ depth = omega arith in rw less (upward-steps f depth n p none e)

pub parentless : (f : Forest) (top depth n : ℕ) → (depth ≡ 0 → ⊥) → is_deep f top depth n ≡ true → parent_of f n ≡ None → ⊥
parentless f top zero n some h e = some refl
parentless f top (suc depth) n some h e = let up = has-parent f top depth n h in let has = up.has in absurd cc
