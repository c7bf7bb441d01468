-- Trees that are shown stay so, and are what is walked.
use Rattle.std.proofs.Common.{◌≡◌, ℕ, ◌≤◌, ◌<◌, false, List, [], ◌∷◌, refl, ap, ◌∙◌, arith}
use Rattle.markup.specs.Forest as forest
use Rattle.markup.specs.Forest.{Forest, NodeData, children_of, data_of, node_count}
use Rattle.markup.specs.Named.{IsTree}
use Rattle.markup.specs.Trees.{Trees, Nothing, Text, Comment, ProcessingInstruction, Doctype, Element, inner_of, node_before}
use Rattle.markup.specs.Trees.{trees_before, trees_of}
use Rattle.markup.proofs.WholeTrees.{trees-first, trees-none}
use Rattle.html_round_trip.specs.Planting.Planted.{ArePlantable, HasNoTemplates, IsNew, Shows}

-- from f to g nothing changes of nodes from a number on
pub record IsKept (low : ℕ) (f g : Forest) : Type 0 where
  pub same_data : (n : ℕ) → low ≤ n → n < node_count f → data_of g n ≡ data_of f n
  pub children : (n : ℕ) → low ≤ n → n < node_count f → children_of g n ≡ children_of f n
  pub more : node_count f ≤ node_count g

new-stays : (low lower : ℕ) (f g : Forest) (n : ℕ) (about : NodeData) → lower ≤ low → IsKept low f g
    → IsNew low f n about → IsNew lower g n about
new-stays low lower f g n about le kept new = record {
  late = let late = new.late in omega arith;
  there = let there = new.there in let more = kept.more in omega arith;
  is = kept.same_data n new.late new.there ∙ new.is;
}

pub shows-stays : (low lower : ℕ) (f g : Forest) (ns : List ℕ) (trees : Trees) → lower ≤ low → IsKept low f g
    → Shows low f ns trees → Shows lower g ns trees
shows-stays low lower f g [] Nothing le kept h = tt
shows-stays low lower f g (n ∷ ns) (Text text rest) le kept h =
    (new-stays low lower f g n _ le kept h.0, shows-stays low lower f g ns rest le kept h.1)
shows-stays low lower f g (n ∷ ns) (Comment text rest) le kept h =
    (new-stays low lower f g n _ le kept h.0, shows-stays low lower f g ns rest le kept h.1)
shows-stays low lower f g (n ∷ ns) (ProcessingInstruction target text rest) le kept h =
    (new-stays low lower f g n _ le kept h.0, shows-stays low lower f g ns rest le kept h.1)
shows-stays low lower f g (n ∷ ns) (Doctype name public_id system_id rest) le kept h =
    (new-stays low lower f g n _ le kept h.0, shows-stays low lower f g ns rest le kept h.1)
shows-stays low lower f g (n ∷ ns) (Element name attributes template kids rest) le kept h = (
  new-stays low lower f g n _ le kept h.0,
  (rw (kept.children n h.0.late h.0.there) (shows-stays low lower f g (children_of f n) kids le kept h.1)),
  shows-stays low lower f g ns rest le kept h.2,
)
shows-stays low lower f g [] (Text text rest) le kept h = absurd h
shows-stays low lower f g [] (Comment text rest) le kept h = absurd h
shows-stays low lower f g [] (ProcessingInstruction target text rest) le kept h = absurd h
shows-stays low lower f g [] (Doctype name public_id system_id rest) le kept h = absurd h
shows-stays low lower f g [] (Element name attributes template kids rest) le kept h = absurd h
shows-stays low lower f g (n ∷ ns) Nothing le kept h = absurd h

-- trees before others
abbrev pub followed : Trees → Trees → Trees
followed Nothing others = others
followed (Text text rest) others = Text text (followed rest others)
followed (Comment text rest) others = Comment text (followed rest others)
followed (ProcessingInstruction target text rest) others = ProcessingInstruction target text (followed rest others)
followed (Doctype name public_id system_id rest) others = Doctype name public_id system_id (followed rest others)
followed (Element name attributes template kids rest) others = Element name attributes template kids (followed rest others)

followed-nothing : (trees : Trees) → followed trees Nothing ≡ trees
followed-nothing Nothing = refl
followed-nothing (Text text rest) = ap (λ r. Text text r) (followed-nothing rest)
followed-nothing (Comment text rest) = ap (λ r. Comment text r) (followed-nothing rest)
followed-nothing (ProcessingInstruction target text rest) = ap (λ r. ProcessingInstruction target text r) (followed-nothing rest)
followed-nothing (Doctype name public_id system_id rest) = ap (λ r. Doctype name public_id system_id r) (followed-nothing rest)
followed-nothing (Element name attributes template kids rest) = ap (λ r. Element name attributes template kids r) (followed-nothing rest)

module _ (f : Forest) (tree : IsTree f) where
  first-is : (n : ℕ) (ns : List ℕ) (about : NodeData) (others : Trees) → data_of f n ≡ about
      → trees_before f (n ∷ ns) others ≡ node_before about (trees_before f (inner_of f n)) (trees_before f ns others)
  first-is n ns about others e =
      trees-first f tree.forest tree.contents n ns others
      ∙ ap (λ about. node_before about (trees_before f (inner_of f n)) (trees_before f ns others)) e

  pub shown-before : (low : ℕ) (ns : List ℕ) (trees others : Trees) → HasNoTemplates trees → Shows low f ns trees
      → trees_before f ns others ≡ followed trees others
  shown-before low [] Nothing others plain h = trees-none f others
  shown-before low (n ∷ ns) (Text text rest) others plain h = first-is n ns _ others h.0.is ∙ ap (λ r. Text text r)
      (shown-before low ns rest others plain h.1)
  shown-before low (n ∷ ns) (Comment text rest) others plain h = first-is n ns _ others h.0.is
      ∙ ap (λ r. Comment text r) (shown-before low ns rest others plain h.1)
  shown-before low (n ∷ ns) (ProcessingInstruction target text rest) others plain h = first-is n ns _ others h.0.is
      ∙ ap (λ r. ProcessingInstruction target text r) (shown-before low ns rest others plain h.1)
  shown-before low (n ∷ ns) (Doctype name public_id system_id rest) others plain h = first-is n ns _ others h.0.is
      ∙ ap (λ r. Doctype name public_id system_id r) (shown-before low ns rest others plain h.1)
  shown-before low (n ∷ ns) (Element name attributes template kids rest) others plain h =
      let is : data_of f n ≡ forest.NodeData.Element name attributes false false = h.0.is
      ∙ ap (λ t. forest.NodeData.Element name attributes t false) plain.0 in
      let inner : inner_of f n ≡ children_of f n = rw is refl in
      first-is n ns _ others h.0.is
      ∙ ap (λ ms. Element name attributes template (trees_before f ms Nothing) (trees_before f ns others)) inner
      ∙ ap (λ kids. Element name attributes template kids (trees_before f ns others))
      (shown-before low (children_of f n) kids Nothing plain.1 h.1 ∙ followed-nothing kids)
      ∙ ap (λ r. Element name attributes template kids r) (shown-before low ns rest others plain.2 h.2)
  shown-before low [] (Text text rest) others plain h = absurd h
  shown-before low [] (Comment text rest) others plain h = absurd h
  shown-before low [] (ProcessingInstruction target text rest) others plain h = absurd h
  shown-before low [] (Doctype name public_id system_id rest) others plain h = absurd h
  shown-before low [] (Element name attributes template kids rest) others plain h = absurd h
  shown-before low (n ∷ ns) Nothing others plain h = absurd h

  pub shown-walked : (low : ℕ) (ns : List ℕ) (trees : Trees) → HasNoTemplates trees → Shows low f ns trees → trees_of f ns ≡ trees
  shown-walked low ns trees plain h = shown-before low ns trees Nothing plain h ∙ followed-nothing trees

pub without-templates : (trees : Trees) (after_text : _) → ArePlantable after_text trees → HasNoTemplates trees
without-templates Nothing after_text h = tt
without-templates (Text text rest) after_text h = without-templates rest _ h.2
without-templates (Comment text rest) after_text h = without-templates rest _ h
without-templates (ProcessingInstruction target text rest) after_text h = without-templates rest _ h
without-templates (Doctype name public_id system_id rest) after_text h = without-templates rest _ h
without-templates (Element name attributes template kids rest) after_text h =
    (h.0, without-templates kids _ h.2, without-templates rest _ h.3)
