-- The number of errors of a forest is none of its trees.
use Rattle.std.proofs.Common.{◌≡◌, ℕ, zero, suc, List, [], ◌∷◌, refl, ap, ◌∙◌}
use Rattle.std.specs.Prelude.{true, encode_utf8_all}
use Rattle.markup.specs.Forest as forest
use Rattle.markup.specs.Forest.{Forest, NodeData, children_of, data_of, node_count}
use Rattle.markup.specs.TreeLaws.{with_errors}
use Rattle.markup.specs.Trees.{Trees, Nothing, Text, Comment, ProcessingInstruction, Doctype, Element, default_entry, inner_of}
use Rattle.markup.specs.Trees.{node_before, nodes_before, trees_of, trees_within, written}
use Rattle.html_plain.specs.Grammar.{is_plain_document, is_plain_forest}
use Rattle.html_normal.specs.Document.{document_bytes}

node_before-same : (about : NodeData) (a b : Trees → Trees) (x y : Trees) → ((t : Trees) → a t ≡ b t) → x ≡ y
    → node_before about a x ≡ node_before about b y
node_before-same forest.NodeData.Document a b x y inner rest = inner x ∙ ap b rest
node_before-same forest.NodeData.Contents a b x y inner rest = inner x ∙ ap b rest
node_before-same (forest.NodeData.Doctype name public_id system_id) a b x y inner rest = ap (Doctype name public_id system_id) rest
node_before-same (forest.NodeData.Text text) a b x y inner rest = ap (Text text) rest
node_before-same (forest.NodeData.Comment text) a b x y inner rest = ap (Comment text) rest
node_before-same (forest.NodeData.ProcessingInstruction target text) a b x y inner rest = ap (ProcessingInstruction target text) rest
node_before-same (forest.NodeData.Element name attrs template integration_point) a b x y inner rest =
    ap (λ kids. Element name attrs template kids x) (inner Nothing) ∙ ap (Element name attrs template (b Nothing)) rest

nodes_before-same : (n : ℕ) (f : Forest) (a b : List ℕ → Trees → Trees)
    → ((ms : List ℕ) (t : Trees) → a ms t ≡ b ms t) → (ms : List ℕ) (rest : Trees)
    → nodes_before a (with_errors n f) ms rest ≡ nodes_before b f ms rest
nodes_before-same n f a b inner [] rest = refl
nodes_before-same n f a b inner (m ∷ ms) rest = node_before-same (data_of f m) (a (inner_of f m)) (b (inner_of f m))
    _ _ (inner (inner_of f m)) (nodes_before-same n f a b inner ms rest)

trees_within-same : (levels n : ℕ) (f : Forest) (ms : List ℕ) (rest : Trees) → trees_within levels (with_errors n f)
    ms rest ≡ trees_within levels f ms rest
unfolding trees_within
trees_within-same zero n f ms rest = refl
trees_within-same (suc levels) n f ms rest = nodes_before-same n f (trees_within levels (with_errors n f))
    (trees_within levels f) (trees_within-same levels n f) ms rest

pub trees_of-same : (n : ℕ) (f : Forest) (ms : List ℕ) → trees_of (with_errors n f) ms ≡ trees_of f ms
trees_of-same n f ms = trees_within-same (node_count f) n f ms Nothing

pub plain-same : (n : ℕ) (f : Forest) → is_plain_forest (with_errors n f) ≡ is_plain_forest f
plain-same n f = ap is_plain_document (trees_of-same n f (children_of f 0))

pub bytes-same : (n : ℕ) (f : Forest) → document_bytes (with_errors n f) ≡ document_bytes f
bytes-same n f = ap (λ trees. encode_utf8_all (written true default_entry trees)) (trees_of-same n f (children_of f 0))
