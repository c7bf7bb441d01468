-- The calls of a walk of a forest, node by node, and how far such a walk has to go.
use Rattle.std.proofs.Common.{◌≡◌, ◌∙◌, ℕ, zero, suc, ◌+◌, ◌≤◌, true, false, List, [], ◌∷◌, ◌++◌, refl, ap, ap₂, sym, arith}
use Rattle.markup.specs.Calls.{Call, calls_before, ended, first_calls}
use Rattle.markup.specs.Calls.Call.{StartElem, EndElem, WriteText, WriteComment, WriteDoctype, WriteProcessingInstruction}
use Rattle.markup.specs.Forest as forest
use Rattle.markup.specs.Forest.{Forest, IsForest, NodeData, data_of, element_name, holds_children, is_among, node_count}
use Rattle.markup.specs.Named.{HasContents}
use Rattle.markup.specs.Trees.{Trees, Nothing, inner_of, node_before, nodes_before, trees_before, trees_of, trees_within}
use Rattle.markup.specs.Trees.{weight, weight_within, weights}
use Rattle.markup.proofs.WholeTrees.{Within, among-first, among-later, inner-within}

-- HOW FAR A WALK HAS TO GO

weights-same : (f : Forest) (g h : List ℕ → ℕ) (ns : List ℕ)
    → ((n : ℕ) → is_among n ns ≡ true → g (inner_of f n) ≡ h (inner_of f n)) → weights g f ns ≡ weights h f ns
weights-same f g h [] same = refl
weights-same f g h (n ∷ ns) same =
    ap₂ (λ (a b : ℕ). suc (suc a) + b) (same n (among-first n ns)) (weights-same f g h ns (λ m among. same m (among-later m n ns among)))

weight-same : (f : Forest) (l k : ℕ) (ns : List ℕ) → ((n : ℕ) → is_among n ns ≡ true → Within f l n) → l ≤ k
    → weight_within l f ns ≡ weight_within k f ns
unfolding weight_within
weight-same f zero zero ns h le = refl
weight-same f zero (suc k) [] h le = refl
weight-same f zero (suc k) (n ∷ ns) h le = absurd (h n (among-first n ns))
weight-same f (suc l) zero ns h le = absurd (omega (arith, le))
weight-same f (suc l) (suc k) ns h le = weights-same f (weight_within l f) (weight_within k f) ns
    (λ n among. weight-same f l k (inner_of f n) (h n among) (omega (arith, le)))

weight-by : (f : Forest) → IsForest f → HasContents f → (count : ℕ) → node_count f ≡ count → (n : ℕ) (ns : List ℕ)
    → weight_within count f (n ∷ ns) ≡ suc (suc (weight_within count f (inner_of f n))) + weight_within count f ns
unfolding weight_within
weight-by f is contents zero e n ns = absurd (let some = is.document in omega (arith, some, e))
weight-by f is contents (suc l) e n ns =
    ap (λ (a : ℕ). suc (suc a) + weights (weight_within l f) f ns)
    (weight-same f l (suc l) (inner_of f n) (inner-within f is contents l e n) (omega arith))

pub weight-first : (f : Forest) → IsForest f → HasContents f → (n : ℕ) (ns : List ℕ) → weight f (n ∷ ns) ≡ suc
    (suc (weight f (inner_of f n))) + weight f ns
unfolding weight
weight-first f is contents n ns = weight-by f is contents (node_count f) refl n ns

-- THE CALLS

-- the calls of trees that stand before others
calls-nodes : (f : Forest) (inner : List ℕ → Trees → Trees) (ns : List ℕ) (rest : Trees) (calls : List Call)
    → ((n : ℕ) (r : Trees) (cs : List Call) → calls_before (inner (inner_of f n) r) cs ≡ calls_before
    (inner (inner_of f n) Nothing) (calls_before r cs))
    → calls_before (nodes_before inner f ns rest) calls ≡ calls_before (nodes_before inner f ns Nothing) (calls_before rest calls)
calls-nodes f inner [] rest calls h = refl
calls-nodes f inner (n ∷ ns) rest calls h = by_data (data_of f n) (calls-nodes f inner ns rest calls h)
  where
    by_data : (about : NodeData) → calls_before (nodes_before inner f ns rest) calls ≡ calls_before
        (nodes_before inner f ns Nothing) (calls_before rest calls)
        → calls_before (node_before about (inner (inner_of f n)) (nodes_before inner f ns rest))
        calls ≡ calls_before (node_before about (inner (inner_of f n)) (nodes_before inner f ns Nothing)) (calls_before rest calls)
    by_data forest.NodeData.Document e = h n _ calls ∙ ap (calls_before (inner (inner_of f n) Nothing)) e
        ∙ sym (h n _ (calls_before rest calls))
    by_data forest.NodeData.Contents e = h n _ calls ∙ ap (calls_before (inner (inner_of f n) Nothing)) e
        ∙ sym (h n _ (calls_before rest calls))
    by_data (forest.NodeData.Doctype name public_id system_id) e = ap (λ (cs : List Call). WriteDoctype name ∷ cs) e
    by_data (forest.NodeData.Text text) e = ap (λ (cs : List Call). WriteText text ∷ cs) e
    by_data (forest.NodeData.Comment text) e = ap (λ (cs : List Call). WriteComment text ∷ cs) e
    by_data (forest.NodeData.ProcessingInstruction target text) e = ap (λ (cs : List Call). WriteProcessingInstruction target text ∷ cs) e
    by_data (forest.NodeData.Element name attributes template integration_point) e =
        ap (λ (cs : List Call). StartElem name attributes ∷ calls_before (inner (inner_of f n) Nothing) (EndElem name ∷ cs)) e

calls-within : (f : Forest) (levels : ℕ) (ns : List ℕ) (rest : Trees) (calls : List Call)
    → calls_before (trees_within levels f ns rest) calls ≡ calls_before (trees_within levels f ns Nothing) (calls_before rest calls)
unfolding trees_within
calls-within f zero ns rest calls = refl
calls-within f (suc levels) ns rest calls = calls-nodes f (trees_within levels f) ns rest calls
    (λ n r cs. calls-within f levels (inner_of f n) r cs)

-- the calls of a node's tree: those once it is met; then, if others stand in it, theirs and its end
pub node-calls : (f : Forest) (about : NodeData) (n : ℕ) (rest : Trees) (calls : List Call) → holds_children about ≡ true
    → calls_before (node_before about (trees_before f (inner_of f n)) rest) calls ≡ first_calls about
    ++ calls_before (trees_of f (inner_of f n)) (ended (element_name about) (calls_before rest calls))
node-calls f forest.NodeData.Document n rest calls h = calls-within f (node_count f) (inner_of f n) rest calls
node-calls f forest.NodeData.Contents n rest calls h = calls-within f (node_count f) (inner_of f n) rest calls
node-calls f (forest.NodeData.Element name attributes template integration_point) n rest calls h = refl
node-calls f (forest.NodeData.Doctype name public_id system_id) n rest calls h = absurd cc
node-calls f (forest.NodeData.Text text) n rest calls h = absurd cc
node-calls f (forest.NodeData.Comment text) n rest calls h = absurd cc
node-calls f (forest.NodeData.ProcessingInstruction target text) n rest calls h = absurd cc

pub leaf-calls : (f : Forest) (about : NodeData) (n : ℕ) (rest : Trees) (calls : List Call) → holds_children about ≡ false
    → calls_before (node_before about (trees_before f (inner_of f n)) rest) calls ≡ first_calls about ++ calls_before rest calls
leaf-calls f forest.NodeData.Document n rest calls h = absurd cc
leaf-calls f forest.NodeData.Contents n rest calls h = absurd cc
leaf-calls f (forest.NodeData.Element name attributes template integration_point) n rest calls h = absurd cc
leaf-calls f (forest.NodeData.Doctype name public_id system_id) n rest calls h = refl
leaf-calls f (forest.NodeData.Text text) n rest calls h = refl
leaf-calls f (forest.NodeData.Comment text) n rest calls h = refl
leaf-calls f (forest.NodeData.ProcessingInstruction target text) n rest calls h = refl
