-- Changes of a tree leave elements that were allowed, and those that come.
use Rattle.std.proofs.Common.{ℕ, ◌≤◌, zero, suc, Bool, true, false, List, [], ◌∷◌, ◌++◌, Option, Some, None, sym, subst, arith}
use Rattle.std.proofs.lemmas.List.{length-set}
use Rattle.std.specs.Prelude.{slice_index_or, slice_set, cond, length, ◌==◌}
use Rattle.markup.specs.Forest.{Forest, Node, NodeData, Place, add_attributes, create_element, data_if, data_of, joined_text, no_node}
use Rattle.markup.specs.Forest.{node_count, parent_of, previous_at, put, put_text, remove, remove_under, reparent_children, text_of}
use Rattle.markup.specs.Forest.{with_attributes, with_children, with_data, with_missing, with_node, children_of}
use Rattle.markup.specs.Forest.NodeData.{Document, Contents, Doctype, Text, Comment, ProcessingInstruction, Element}
use Rattle.markup.specs.declared.attributes.Attribute.{Attribute}
use Rattle.markup.specs.declared.flags.ElementFlags.{ElementFlags}
use Rattle.markup.specs.declared.names.QualName.{QualName}
use Rattle.markup.proofs.Parents.{data_of-with_children, node_count-with_children, node_count-with_node}
use Rattle.html_origins.specs.Allowed.{Allowed, AreNodesAllowed, IsAllowed}

-- of each node of a list by its place, and of what stands at no place
abbrev EachOf : (ℕ → NodeData → Type 0) → List Node → Type 0
EachOf P xs = (n : ℕ) → P n (slice_index_or xs n no_node).about

abbrev AreAll : (ℕ → NodeData → Type 0) → List Node → Type 0
AreAll P [] = Unit {0}
AreAll P (x ∷ xs) = P zero x.about × AreAll (λ n. P (suc n)) xs

each-of : (P : ℕ → NodeData → Type 0) (xs : List Node) → ((n : ℕ) → P n no_node.about) → AreAll P xs → EachOf P xs
each-of P [] none h n = none n
each-of P (x ∷ xs) none h zero = h.0
each-of P (x ∷ xs) none h (suc n) = each-of (λ n. P (suc n)) xs (λ n. none (suc n)) h.1 n

all-of : (P : ℕ → NodeData → Type 0) (xs : List Node) → EachOf P xs → AreAll P xs
all-of P [] h = tt
all-of P (x ∷ xs) h = (h zero, all-of (λ n. P (suc n)) xs (λ n. h (suc n)))

all-more : (P : ℕ → NodeData → Type 0) (xs : List Node) (x : Node) → AreAll P xs → P (length xs) x.about → AreAll P (xs ++ x ∷ [])
all-more P [] x h k = (k, tt)
all-more P (y ∷ xs) x h k = (h.0, all-more (λ n. P (suc n)) xs x h.1 k)

all-set : (P : ℕ → NodeData → Type 0) (xs : List Node) (n : ℕ) (x : Node) → AreAll P xs → P n x.about → AreAll P (slice_set xs n x)
all-set P [] n x h k = tt
all-set P (y ∷ xs) zero x h k = (k, h.1)
all-set P (y ∷ xs) (suc n) x h k = (h.0, all-set (λ n. P (suc n)) xs n x h.1 k)

module _ (a : Allowed) where
  pub with_node-from : (f : Forest) (about : NodeData) → AreNodesAllowed a f → IsAllowed a (node_count f) about
      → AreNodesAllowed a (with_node f about)
  with_node-from f about h k = record {
    each = each-of (IsAllowed a) _ (λ n. tt)
        (all-more (IsAllowed a) f.nodes (record { about = about; children = [] }) (all-of (IsAllowed a) f.nodes h.each) k);
    count = omega (arith, h.count, node_count-with_node f about);
  }

  pub with_data-from : (f : Forest) (n : ℕ) (about : NodeData) → AreNodesAllowed a f → IsAllowed a n about
      → AreNodesAllowed a (with_data f n about)
  with_data-from f n about h k = record {
    each = each-of (IsAllowed a) _ (λ n. tt)
        (all-set (IsAllowed a) f.nodes n (record { about = about; children = children_of f n }) (all-of (IsAllowed a) f.nodes h.each) k);
    count = rw (length-set f.nodes n (record { about = about; children = children_of f n })) h.count;
  }

  pub with_children-from : (f : Forest) (n : ℕ) (children : List ℕ) → AreNodesAllowed a f → AreNodesAllowed a (with_children f n children)
  with_children-from f n children h = record {
    each = λ m. subst (IsAllowed a m) (sym (data_of-with_children f n m children)) (h.each m);
    count = rw (node_count-with_children f n children) h.count;
  }

  pub put-from : (f : Forest) (place : Place) (child : ℕ) → AreNodesAllowed a f → AreNodesAllowed a (put f place child)
  put-from f place child h = with_children-from f _ _ h

  pub remove-from : (f : Forest) (n : ℕ) → AreNodesAllowed a f → AreNodesAllowed a (remove f n)
  remove-from f n h = by (parent_of f n) where
    by : (o : Option ℕ) → AreNodesAllowed a (remove_under f n o)
    by None = h
    by (Some parent) = with_children-from f _ _ h

  pub reparented-from : (f : Forest) (from to : ℕ) → AreNodesAllowed a f → AreNodesAllowed a (reparent_children f from to)
  reparented-from f from to h = with_children-from (with_children f from []) _ _ (with_children-from f from [] h)

  joined-from : (f : Forest) (place : Place) (text : List ℕ) (o : Option ℕ) (e : Option (List ℕ)) → AreNodesAllowed a f
      → AreNodesAllowed a (joined_text f place text o e)
  joined-from f place text (Some n) (Some earlier) h = with_data-from f n (Text (earlier ++ text)) h tt
  joined-from f place text (Some n) None h = put-from (with_node f (Text text)) place _ (with_node-from f (Text text) h tt)
  joined-from f place text None e h = put-from (with_node f (Text text)) place _ (with_node-from f (Text text) h tt)

  either : (b : Bool) (f g : Forest) → AreNodesAllowed a f → AreNodesAllowed a g → AreNodesAllowed a (cond b f g)
  either true f g h k = h
  either false f g h k = k

  pub text-from : (f : Forest) (place : Place) (text : List ℕ) → AreNodesAllowed a f → AreNodesAllowed a (put_text f place text)
  text-from f place text h = either (length text == 0) f _ h (joined-from f place text (previous_at f place)
      (text_of (data_if f (previous_at f place))) h)

  pub created-from : (f : Forest) (name : QualName) (attributes : List Attribute) (flags : ElementFlags) → AreNodesAllowed a f
      → ((n : ℕ) → a.first ≤ n → a.element n name attributes) → AreNodesAllowed a (create_element f name attributes flags)
  created-from f name attributes flags h k =
      let made = with_node-from f (Element name attributes flags.template flags.mathml_annotation_xml_integration_point) h
      (k (node_count f) h.count) in
      let f' : Forest = with_node f (Element name attributes flags.template flags.mathml_annotation_xml_integration_point) in
      either flags.template (with_node f' Contents) f' (with_node-from f' Contents made tt) made

  -- if a node is an element, it may take the attributes of a tag of that name
  abbrev pub IsAdding : List ℕ → NodeData → Type 0
  IsAdding tag (Element name attributes template integration_point) = a.adds name tag
  IsAdding tag about = Unit {0}

  -- attributes of a tag of that name may be added to any allowed element that may take them
  abbrev pub MayAdd : List ℕ → List Attribute → Type 0
  MayAdd tag others = (n : ℕ) (name : QualName) (attributes : List Attribute) → a.adds name tag → a.element n name attributes
      → a.element n name (with_missing attributes others)

  more-from : (n : ℕ) (about : NodeData) (tag : List ℕ) (others : List Attribute) → MayAdd tag others → IsAdding tag about
      → IsAllowed a n about
      → IsAllowed a n (with_attributes about others)
  more-from n (Element name attributes template integration_point) tag others more fits h = more n name attributes fits h
  more-from n Document tag others more fits h = tt
  more-from n Contents tag others more fits h = tt
  more-from n (Doctype name public_id system_id) tag others more fits h = tt
  more-from n (Text text) tag others more fits h = tt
  more-from n (Comment text) tag others more fits h = tt
  more-from n (ProcessingInstruction target text) tag others more fits h = tt

  pub added-from : (f : Forest) (n : ℕ) (tag : List ℕ) (others : List Attribute) → MayAdd tag others → IsAdding tag (data_of f n)
      → AreNodesAllowed a f → AreNodesAllowed a (add_attributes f n others)
  added-from f n tag others more fits h = with_data-from f n _ h (more-from n (data_of f n) tag others more fits (h.each n))
