-- The trees of nodes of a forest have all levels.
use Rattle.std.proofs.Common.{◌≡◌, ◌∙◌, ◌==◌, ◌+◌, ◌-◌, ◌<◌, ◌≤◌, ℕ, zero, suc, Bool, true, false, cond, List, [], ◌∷◌, length}
use Rattle.std.proofs.Common.{Some, None, inl, inr, refl, ap, arith, eqb}
use Rattle.std.specs.Prelude.{◌||◌}
use Rattle.std.specs.List.{AllByRecursion, IsDistinct, list_any}
use Rattle.std.proofs.lemmas.Bool.{cases_Bool, eq-eqb, eqb-true, or_parts}
use Rattle.std.proofs.lemmas.Map.Steps.{length-le_from_distinct_below}
use Rattle.markup.specs.Forest as forest
use Rattle.markup.specs.Forest.{Above, Forest, IsForest, NodeData, above_of, children_of, data_of, is_among, is_contents}
use Rattle.markup.specs.Forest.{node_count, parent_of, template_of}
use Rattle.markup.specs.Forest.Above.{here, further}
use Rattle.markup.specs.Named.{HasContents}
use Rattle.markup.specs.NodeCounts.{count_each, count_within, nodes_in}
use Rattle.markup.specs.Trees.{Trees, Nothing, Text, Comment, ProcessingInstruction, Doctype, Element, inner_of, node_before}
use Rattle.markup.specs.Trees.{nodes_before, trees_before, trees_within}
use Rattle.markup.proofs.Parents.{above-IsNode}
use Rattle.markup.proofs.Walks.{Above-child}

-- LINES UPWARD

-- nodes above a node, the one that it stands under first
data Line (f : Forest) : List ℕ → ℕ → Type 0 where
  start : {n : ℕ} → Line f [] n
  step : {ns : List ℕ} {n m : ℕ} → above_of f n ≡ Some m → Line f ns m → Line f (m ∷ ns) n

-- what is in a line stands strictly above
record IsStrictly (f : Forest) (q n : ℕ) : Type 0 where
  under : ℕ
  edge : above_of f n ≡ Some under
  up : Above f q under

or-cases : (b c : Bool) (A : Type 0) → (b ≡ true → A) → (c ≡ true → A) → (b || c) ≡ true → A
or-cases true c A f g h = f refl
or-cases false c A f g h = g h

up-strictly : (f : Forest) (q n m : ℕ) → above_of f n ≡ Some m → IsStrictly f q m → IsStrictly f q n
up-strictly f q n m e s = record { under = m; edge = e; up = further s.edge s.up }

line-strictly : (f : Forest) (ns : List ℕ) (n : ℕ) → Line f ns n → (q : ℕ) → list_any (eqb q) ns ≡ true → IsStrictly f q n
line-strictly f [] n start q h = absurd cc
line-strictly f (k ∷ ns) n (step {m = m} e line) q h =
    or-cases (eqb q m) (list_any (eqb q) ns) (IsStrictly f q n)
    (λ same. let is : q ≡ m = eqb-true q m same in record { under = m; edge = e; up = rw is here })
    (λ among. up-strictly f q n m e (line-strictly f ns m line q among)) h

strictly-other : (f : Forest) → IsForest f → (n : ℕ) → IsStrictly f n n → ⊥
strictly-other f is n s = Above-child f is n s.under s.edge s.up

false-from : (b : Bool) → (b ≡ true → ⊥) → b ≡ false
false-from true h = absurd (h refl)
false-from false h = refl

apart-all : (n : ℕ) (ns : List ℕ) → list_any (eqb n) ns ≡ false → AllByRecursion (λ y. eqb n y ≡ false) ns
apart-all n [] h = tt
apart-all n (y ∷ ys) h = let p = or_parts (eqb n y) (list_any (eqb n) ys) h in (p.0, apart-all n ys p.1)

line-distinct : (f : Forest) → IsForest f → (ns : List ℕ) (n : ℕ) → Line f ns n → IsDistinct eqb (n ∷ ns)
unfolding IsDistinct
line-distinct f is [] n start = (tt, tt)
line-distinct f is (k ∷ ns) n (step {m = m} e line) = (
  apart-all n (m ∷ ns) (false-from (list_any (eqb n) (m ∷ ns))
      (λ among. strictly-other f is n (line-strictly f (m ∷ ns) n (step e line) n among))),
  line-distinct f is ns m line,
)

line-nodes : (f : Forest) (ns : List ℕ) (n : ℕ) → Line f ns n → n < node_count f → (q : ℕ)
    → list_any (eqb q) (n ∷ ns) ≡ true → q < node_count f
line-nodes f [] n start there q h = or-cases (eqb q n) false (q < node_count f)
    (λ same. let is : q ≡ n = eqb-true q n same in rw is there) (λ no. absurd cc) h
line-nodes f (k ∷ ns) n (step {m = m} e line) there q h =
    or-cases (eqb q n) (list_any (eqb q) (m ∷ ns)) (q < node_count f)
    (λ same. let is : q ≡ n = eqb-true q n same in rw is there)
    (λ among. line-nodes f ns m line (above-IsNode f n m there e) q among) h

-- no node has as many above it as there are nodes
line-short : (f : Forest) → IsForest f → (ns : List ℕ) (n : ℕ) → Line f ns n → n < node_count f → length ns < node_count f
line-short f is ns n line there =
    let short : length (n ∷ ns) ≤ node_count f = length-le_from_distinct_below (n ∷ ns) (node_count f)
    (line-distinct f is ns n line) (line-nodes f ns n line there) in
    omega (arith, short)

-- LEVELS

-- what stands in a node has no more than so many levels
abbrev pub Within : Forest → ℕ → ℕ → Type 0
Within f zero n = ⊥
Within f (suc l) n = (m : ℕ) → is_among m (inner_of f n) ≡ true → Within f l m

-- a child stands under its parent
child-above : (f : Forest) → IsForest f → (n m : ℕ) → is_among m (children_of f n) ≡ true → above_of f m ≡ Some n
child-above f is n m among =
    let parent = is.one_parent n m among in
    elim (cases_Bool (is_contents (data_of f m))) [
      | inl contents ↦ absurd (let none : parent_of f m ≡ None = is.contents_stay m contents in cc)
      | inr other ↦ rw other parent
    ]

-- the nodes in a node, where those so far down have so few levels
inner-deep : (f : Forest) → IsForest f → HasContents f → (l n : ℕ) (ns : List ℕ) → Line f ns n
    → node_count f ≤ suc l + length ns → ((m : ℕ) (ms : List ℕ) → Line f ms m → m < node_count f
    → node_count f ≤ l + length ms → Within f l m)
    → (b : Bool) → template_of (data_of f n) ≡ b → (m : ℕ) → is_among m (children_of f (cond b (n + 1) n)) ≡ true → Within f l m
inner-deep f is contents l n ns line fits rec false e m among =
    rec m (n ∷ ns) (step (child-above f is n m among) line) (is.in_range n m among) (omega (arith, fits))
inner-deep f is contents l n ns line fits rec true e m among =
    let follows : data_of f (n + 1) ≡ forest.NodeData.Contents = contents.follow n e in
    let one : (n + 1) - 1 ≡ n = omega arith in
    let up : above_of f (n + 1) ≡ Some n = rw follows (ap (λ k. Some k) one) in
    rec m ((n + 1) ∷ n ∷ ns) (step (child-above f is (n + 1) m among) (step up line)) (is.in_range (n + 1) m among) (omega (arith, fits))

deep : (f : Forest) → IsForest f → HasContents f → (l n : ℕ) (ns : List ℕ) → Line f ns n → n < node_count f
    → node_count f ≤ l + length ns → Within f l n
deep f is contents zero n ns line there fits = absurd (let short = line-short f is ns n line there in omega (arith, short, fits))
deep f is contents (suc l) n ns line there fits =
    (inner-deep f is contents l n ns line fits (λ m ms line' there' fits'. deep f is contents l m ms line' there' fits') _ refl)

-- so have the nodes in any node, where there is one node more than levels
pub inner-within : (f : Forest) → IsForest f → HasContents f → (l : ℕ) → node_count f ≡ suc l → (n m : ℕ)
    → is_among m (inner_of f n) ≡ true → Within f l m
inner-within f is contents l e n =
    let fits : node_count f ≤ suc l + length {A = ℕ} [] = omega (arith, e) in
    inner-deep f is contents l n [] start fits (λ m ms line there fits'. deep f is contents l m ms line there fits') _ refl

-- THE SAME TREES

pub among-first : (n : ℕ) (ns : List ℕ) → is_among n (n ∷ ns) ≡ true
among-first n ns = rw (eq-eqb n n refl) refl

cond-later : (b x : Bool) → x ≡ true → cond b true x ≡ true
cond-later true x h = refl
cond-later false x h = h

pub among-later : (m n : ℕ) (ns : List ℕ) → is_among m ns ≡ true → is_among m (n ∷ ns) ≡ true
among-later m n ns h = cond-later (m == n) (is_among m ns) h

node-same : (about : NodeData) (g h : Trees → Trees) → ((r : Trees) → g r ≡ h r) → (rest other : Trees)
    → rest ≡ other → node_before about g rest ≡ node_before about h other
node-same forest.NodeData.Document g h same rest other e = same rest ∙ ap h e
node-same forest.NodeData.Contents g h same rest other e = same rest ∙ ap h e
node-same (forest.NodeData.Doctype name public_id system_id) g h same rest other e = ap (λ r. Doctype name public_id system_id r) e
node-same (forest.NodeData.Text text) g h same rest other e = ap (λ r. Text text r) e
node-same (forest.NodeData.Comment text) g h same rest other e = ap (λ r. Comment text r) e
node-same (forest.NodeData.ProcessingInstruction target text) g h same rest other e = ap (λ r. ProcessingInstruction target text r) e
node-same (forest.NodeData.Element name attributes template integration_point) g h same rest other e =
    ap (λ kids. Element name attributes template kids rest) (same Nothing) ∙ ap (λ r. Element name attributes template (h Nothing) r) e

nodes-same : (f : Forest) (g h : List ℕ → Trees → Trees) (ns : List ℕ) (rest : Trees)
    → ((n : ℕ) → is_among n ns ≡ true → (r : Trees) → g (inner_of f n) r ≡ h (inner_of f n) r)
    → nodes_before g f ns rest ≡ nodes_before h f ns rest
nodes-same f g h [] rest same = refl
nodes-same f g h (n ∷ ns) rest same =
    node-same (data_of f n) (g (inner_of f n)) (h (inner_of f n)) (same n (among-first n ns)) _ _
    (nodes-same f g h ns rest (λ m among r. same m (among-later m n ns among) r))

-- as many levels as there are, or more, show the same trees
within-same : (f : Forest) (l k : ℕ) (ns : List ℕ) → ((n : ℕ) → is_among n ns ≡ true → Within f l n) → l ≤ k
    → (rest : Trees) → trees_within l f ns rest ≡ trees_within k f ns rest
unfolding trees_within
within-same f zero zero ns h le rest = refl
within-same f zero (suc k) [] h le rest = refl
within-same f zero (suc k) (n ∷ ns) h le rest = absurd (h n (among-first n ns))
within-same f (suc l) zero ns h le rest = absurd (omega (arith, le))
within-same f (suc l) (suc k) ns h le rest =
    nodes-same f (trees_within l f) (trees_within k f) ns rest
    (λ n among r. within-same f l k (inner_of f n) (h n among) (omega (arith, le)) r)

first-by : (f : Forest) → IsForest f → HasContents f → (count : ℕ) → node_count f ≡ count → (n : ℕ) (ns : List ℕ) (rest : Trees)
    → trees_within count f (n ∷ ns) rest ≡ node_before (data_of f n) (trees_within count f (inner_of f n)) (trees_within count f ns rest)
unfolding trees_within
first-by f is contents zero e n ns rest = absurd (let some = is.document in omega (arith, some, e))
first-by f is contents (suc l) e n ns rest =
    let all : (m : ℕ) → is_among m (inner_of f n) ≡ true → Within f l m = inner-within f is contents l e n in
    node-same (data_of f n) (trees_within l f (inner_of f n)) (trees_within (suc l) f (inner_of f n))
    (λ r. within-same f l (suc l) (inner_of f n) all (omega arith) r) _ _ refl

-- the trees of nodes begin with that of the first, with all that stands in it
pub trees-first : (f : Forest) → IsForest f → HasContents f → (n : ℕ) (ns : List ℕ) (rest : Trees)
    → trees_before f (n ∷ ns) rest ≡ node_before (data_of f n) (trees_before f (inner_of f n)) (trees_before f ns rest)
trees-first f is contents n ns rest = first-by f is contents (node_count f) refl n ns rest

none-by : (f : Forest) (count : ℕ) (rest : Trees) → trees_within count f [] rest ≡ rest
unfolding trees_within
none-by f zero rest = refl
none-by f (suc count) rest = refl

-- and end with what stands after the last
pub trees-none : (f : Forest) (rest : Trees) → trees_before f [] rest ≡ rest
trees-none f rest = none-by f (node_count f) rest

-- HOW MANY

each-same : (f : Forest) (g h : List ℕ → ℕ) (ns : List ℕ)
    → ((n : ℕ) → is_among n ns ≡ true → g (inner_of f n) ≡ h (inner_of f n)) → count_each g f ns ≡ count_each h f ns
each-same f g h [] same = refl
each-same f g h (n ∷ ns) same =
    ap (λ k. suc (k + count_each g f ns)) (same n (among-first n ns)) ∙ ap (λ k. suc (h (inner_of f n) + k))
    (each-same f g h ns (λ m among. same m (among-later m n ns among)))

count-same : (f : Forest) (l k : ℕ) (ns : List ℕ) → ((n : ℕ) → is_among n ns ≡ true → Within f l n) → l ≤ k
    → count_within l f ns ≡ count_within k f ns
unfolding count_within
count-same f zero zero ns h le = refl
count-same f zero (suc k) [] h le = refl
count-same f zero (suc k) (n ∷ ns) h le = absurd (h n (among-first n ns))
count-same f (suc l) zero ns h le = absurd (omega (arith, le))
count-same f (suc l) (suc k) ns h le = each-same f (count_within l f) (count_within k f) ns
    (λ n among. count-same f l k (inner_of f n) (h n among) (omega (arith, le)))

count-by : (f : Forest) → IsForest f → HasContents f → (count : ℕ) → node_count f ≡ count → (n : ℕ) (ns : List ℕ)
    → count_within count f (n ∷ ns) ≡ suc (count_within count f (inner_of f n) + count_within count f ns)
unfolding count_within
count-by f is contents zero e n ns = absurd (let some = is.document in omega (arith, some, e))
count-by f is contents (suc l) e n ns =
    let fits : node_count f ≤ suc l + length {A = ℕ} [] = omega (arith, e) in
    let all : (m : ℕ) → is_among m (inner_of f n) ≡ true → Within f l m = inner-deep f is contents l n [] start fits
    (λ m ms line there fits'. deep f is contents l m ms line there fits') _ refl in
    ap (λ k. suc (k + count_each (count_within l f) f ns)) (count-same f l (suc l) (inner_of f n) all (omega arith))

-- a node more is itself and those in it
pub nodes-first : (f : Forest) → IsForest f → HasContents f → (n : ℕ) (ns : List ℕ) → nodes_in f (n ∷ ns) ≡ suc
    (nodes_in f (inner_of f n) + nodes_in f ns)
nodes-first f is contents n ns = count-by f is contents (node_count f) refl n ns

no-count : (f : Forest) (count : ℕ) → count_within count f [] ≡ 0
unfolding count_within
no-count f zero = refl
no-count f (suc count) = refl

pub nodes-none : (f : Forest) → nodes_in f [] ≡ 0
nodes-none f = no-count f (node_count f)
