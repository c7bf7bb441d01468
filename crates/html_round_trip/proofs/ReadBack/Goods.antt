-- Forests that stay good while plain trees are put into them.
use Rattle.std.proofs.Common.{◌∙◌, ℕ, ◌≤◌, ◌<◌, Bool, List, codes, refl}
use Rattle.std.specs.Str.{bytes_eq}
use Rattle.markup.specs.Forest.{Forest, IsParent, NodeData, node_count, put_new, put_text}
use Rattle.markup.specs.Forest.Place.{Last}
use Rattle.markup.specs.Names.{html_namespace}
use Rattle.markup.specs.Named.{IsOrdinary}
use Rattle.markup.specs.Trees.{Trees}
use Rattle.markup.specs.declared.attributes.Attribute.{Attribute}
use Rattle.markup.proofs.ErrorsApart.{errors-apart}
use Rattle.html_plain.specs.Elements.{html_name, spelled}
use Rattle.html_plain.specs.declared.elements.PlainElement.{PlainElement}
use Rattle.html_round_trip.specs.Planting.Planted.{ArePlantable, planted}
use Rattle.html_round_trip.proofs.Planting.PlainTrees.{and-false, no-template}
use Rattle.html_round_trip.proofs.Planting.Planting.{new-keeps, new-parent, planted-errors, planted-keeps, text-keeps}
use Rattle.html_round_trip.specs.ReadBack.Places.{IsGood}
use Rattle.html_round_trip.specs.ReadBack.States.{comment_node, element_node}

pub ordinary-element : (k : PlainElement) (attrs : List Attribute) → IsOrdinary (element_node k attrs)
ordinary-element k attrs = record {
  contents = refl;
  template = refl;
  name = and-false (bytes_eq (html_name (spelled k)).ns html_namespace) (bytes_eq (spelled k) (codes "template")) (no-template k);
}

pub good-text : (f : Forest) (n : ℕ) (t : List ℕ) → IsGood f n → IsGood (put_text f (Last n) t) n
good-text f n t good =
    let kept = text-keeps f n t good.tree good.parent in
    record { tree = kept.tree; parent = kept.parents n good.parent; silent = (errors-apart.texted (Last n) t f).0 ∙ good.silent }

pub text-more : (f : Forest) (n : ℕ) (t : List ℕ) → IsGood f n → node_count f ≤ node_count (put_text f (Last n) t)
text-more f n t good = (text-keeps f n t good.tree good.parent).more

-- a node that is put into a good one leaves that good
pub good-new : (f : Forest) (n : ℕ) (about : NodeData) → IsOrdinary about → IsGood f n → IsGood (put_new f (Last n) about) n
good-new f n about ordinary good =
    let kept = new-keeps f n about good.tree good.parent ordinary in
    record { tree = kept.tree; parent = kept.parents n good.parent; silent = good.silent }

ordinary-comment : (text : List ℕ) → IsOrdinary (comment_node text)
ordinary-comment text = record { contents = refl; template = refl; name = refl }

pub good-comment : (f : Forest) (n : ℕ) (text : List ℕ) → IsGood f n → IsGood (put_new f (Last n) (comment_node text)) n
good-comment f n text good = good-new f n (comment_node text) (ordinary-comment text) good

pub comment-more : (f : Forest) (n : ℕ) (text : List ℕ) → IsGood f n → node_count f ≤ node_count (put_new f (Last n) (comment_node text))
comment-more f n text good = (new-keeps f n (comment_node text) good.tree good.parent (ordinary-comment text)).more

-- a new element, and the node that it is put into
pub good-element : (f : Forest) (n : ℕ) (k : PlainElement) (attrs : List Attribute) → IsGood f n
    → IsGood (put_new f (Last n) (element_node k attrs)) (node_count f)
good-element f n k attrs good = record {
  tree = (new-keeps f n (element_node k attrs) good.tree good.parent (ordinary-element k attrs)).tree;
  parent = new-parent f n (element_node k attrs) good.parent refl;
  silent = good.silent;
}

pub good-around : (f : Forest) (n : ℕ) (k : PlainElement) (attrs : List Attribute) → IsGood f n
    → IsGood (put_new f (Last n) (element_node k attrs)) n
good-around f n k attrs good = good-new f n (element_node k attrs) (ordinary-element k attrs) good

pub element-more : (f : Forest) (n : ℕ) (k : PlainElement) (attrs : List Attribute) → IsGood f n
    → node_count f < node_count (put_new f (Last n) (element_node k attrs))
element-more f n k attrs good = (new-parent f n (element_node k attrs) good.parent refl).there

-- trees in one node leave another good
pub good-planted : (trees : Trees) (m n : ℕ) (f : Forest) (after_text : Bool) → ArePlantable after_text trees
    → IsGood f m → IsParent f n → IsGood (planted trees m f) n
good-planted trees m n f after_text ok good at =
    let kept = planted-keeps trees m f after_text good.tree good.parent ok in
    record { tree = kept.tree; parent = kept.parents n at; silent = (planted-errors trees m f).0 ∙ good.silent }

pub planted-more : (trees : Trees) (m : ℕ) (f : Forest) (after_text : Bool) → ArePlantable after_text trees
    → IsGood f m → node_count f ≤ node_count (planted trees m f)
planted-more trees m f after_text ok good = (planted-keeps trees m f after_text good.tree good.parent ok).more
