-- Each call leaves what a sink has built a tree.
use Rattle.std.proofs.Common.{◌≡◌, ◌<◌, ℕ, true, List, Option, Some, None, Result, Ok, Err, codes, refl}
use Rattle.std.specs.Option.{IsSome}
use Rattle.std.specs.Result.{OnErr, OnOk}
use Rattle.markup.specs.Names.{is_html_name}
use Rattle.markup.specs.Named.{IsOrdinary, IsTree}
use Rattle.markup.specs.Forest.{Above, Forest, IsForest, IsParent, IsPlace, MayPut, NodeData, Place, add_attributes}
use Rattle.markup.specs.Forest.{children_of, create_element, is_among, node_count, parent_of, place_before, place_near, put}
use Rattle.markup.specs.Forest.{put_child, put_new, remove, reparent_children, with_node}
use Rattle.markup.specs.Forest.Place.{Last}
use Rattle.markup.specs.declared.names.QualName.{QualName}
use Rattle.markup.specs.declared.attributes.Attribute.{Attribute}
use Rattle.markup.specs.declared.flags.ElementFlags.{ElementFlags}
use Rattle.markup.specs.declared.quirks.QuirksMode.{QuirksMode}
use Rattle.markup.specs.declared.node_or_text.NodeOrText.{NodeOrText}
use Rattle.markup.specs.declared.node_or_text.NodeOrText.TheVariants.{AppendNode, AppendText}
use Rattle.markup.proofs.Forests.{IsForest-same_nodes, IsMade-create_element, IsMade-with_node, IsPutAt-put, IsRemoved-remove}
use Rattle.markup.proofs.Reparented.{IsReparented-reparent_children}
use Rattle.markup.proofs.PutTexts.{IsInPlace-add_attributes, IsParent-document, IsTexted-put_new, IsTexted-put_text}
use Rattle.markup.proofs.TemplateContents.{HasContents-add_attributes, HasContents-create_element, HasContents-put_new}
use Rattle.markup.proofs.TemplateContents.{HasContents-put_text, HasContents-same_data, HasContents-with_node}

-- whether a call went well or not
pub IsTree-either : {T E : Type 0} (r : Result T E) (f after before : Forest) → OnOk r (f ≡ after)
    → OnErr r (f ≡ before) → IsTree after → IsTree before → IsTree f
IsTree-either (Ok x) f after before ok err tree old = rw ok tree
IsTree-either (Err e) f after before ok err tree old = rw err old

pub IsTree-same_nodes : (f : Forest) (mode : QuirksMode) (errors : ℕ) → IsTree f
    → IsTree (record { nodes = f.nodes; quirks = mode; errors = errors })
IsTree-same_nodes f mode errors tree = record {
  forest = IsForest-same_nodes f mode errors tree.forest;
  contents = HasContents-same_data f (record { nodes = f.nodes; quirks = mode; errors = errors }) tree.contents (λ n. refl);
}

pub IsTree-with_node : (f : Forest) (about : NodeData) → IsTree f → IsOrdinary about → IsTree (with_node f about)
IsTree-with_node f about tree plain = record {
  forest = (IsMade-with_node f about tree.forest plain.contents).is;
  contents = HasContents-with_node f about tree.contents plain;
}

pub IsTree-create_element : (f : Forest) (name : QualName) (attributes : List Attribute) (flags : ElementFlags)
    → IsTree f → flags.template ≡ is_html_name (Some name) (codes "template") → IsTree (create_element f name attributes flags)
IsTree-create_element f name attributes flags tree flagged = record {
  forest = (IsMade-create_element f name attributes flags tree.forest).is;
  contents = HasContents-create_element f name attributes flags tree.contents flagged;
}

pub IsTree-put_new : (f : Forest) (place : Place) (about : NodeData) → IsTree f → IsOrdinary about → IsPlace f place
    → IsTree (put_new f place about)
IsTree-put_new f place about tree plain at = record {
  forest = (IsTexted-put_new f place about tree.forest plain.contents at).is;
  contents = HasContents-put_new f place about tree.contents plain;
}

-- a node or text at a place
pub IsTree-put_child : {H : Type 0} (node : H → ℕ) (f : Forest) (place : Place) (child : NodeOrText H) → IsTree f
    → IsPlace f place → MayPut node f place child → IsTree (put_child node f place child)
IsTree-put_child node f place (AppendNode child) tree at loose = record {
  forest = (IsPutAt-put f place (node child) tree.forest at loose).is;
  contents = HasContents-same_data f (put f place (node child)) tree.contents
      (IsPutAt-put f place (node child) tree.forest at loose).same_data;
}
IsTree-put_child node f place (AppendText characters) tree at loose = record {
  forest = (IsTexted-put_text f place characters tree.forest at).is;
  contents = HasContents-put_text f place characters tree.contents;
}

-- just before a node that has a parent is a place
pub IsPlace-before : (f : Forest) (sibling : ℕ) → IsSome (parent_of f sibling) → IsPlace f (place_before sibling (parent_of f sibling))
IsPlace-before f sibling some = by_parent (parent_of f sibling) refl some where
  by_parent : (o : Option ℕ) → parent_of f sibling ≡ o → IsSome o → IsPlace f (place_before sibling o)
  by_parent None e some = absurd (cc)
  by_parent (Some parent) e some = e

-- so is the place near an element
pub IsPlace-near : (f : Forest) (element previous : ℕ) → IsParent f previous → IsPlace f (place_near element previous (parent_of f element))
IsPlace-near f element previous at = by_parent (parent_of f element) refl where
  by_parent : (o : Option ℕ) → parent_of f element ≡ o → IsPlace f (place_near element previous o)
  by_parent None e = at
  by_parent (Some parent) e = e

pub IsTree-put_doctype : (f : Forest) (about : NodeData) → IsTree f → IsOrdinary about → IsTree (put_new f (Last 0) about)
IsTree-put_doctype f about tree plain = IsTree-put_new f (Last 0) about tree plain (IsParent-document f tree.forest)

pub IsTree-add_attributes : (f : Forest) (n : ℕ) (others : List Attribute) → IsTree f → n < node_count f
    → IsTree (add_attributes f n others)
IsTree-add_attributes f n others tree there = record {
  forest = (IsInPlace-add_attributes f n others tree.forest there).is;
  contents = HasContents-add_attributes f n others there tree.contents;
}

pub IsTree-remove : (f : Forest) (n : ℕ) → IsTree f → IsTree (remove f n)
IsTree-remove f n tree = record {
  forest = (IsRemoved-remove f n tree.forest).is;
  contents = HasContents-same_data f (remove f n) tree.contents (IsRemoved-remove f n tree.forest).same_data;
}

pub IsTree-reparent_children : (f : Forest) (from to : ℕ) → IsTree f → from < node_count f → IsParent f to
    → ((c : ℕ) → is_among c (children_of f from) ≡ true → Above f c to → ⊥) → IsTree (reparent_children f from to)
IsTree-reparent_children f from to tree there at apart = record {
  forest = (IsReparented-reparent_children f from to tree.forest there at apart).is;
  contents = HasContents-same_data f (reparent_children f from to) tree.contents
      (IsReparented-reparent_children f from to tree.forest there at apart).same_data;
}

-- a node is in one list at most
pub parent_of-unique : (f : Forest) → IsForest f → (p q n : ℕ) → is_among n (children_of f p) ≡ true
    → is_among n (children_of f q) ≡ true → p ≡ q
parent_of-unique f is p q n at_p at_q = let one = is.one_parent p n at_p in let two = is.one_parent q n at_q in cc
