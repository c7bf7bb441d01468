-- Planted trees are shown, and nothing else changes.
use Rattle.std.proofs.Common.{◌≡◌, ◌≢◌, ◌==◌, ℕ, ◌+◌, ◌≤◌, ◌<◌, Bool, true, false, List, [], ◌∷◌, ◌++◌, length, Option, Some}
use Rattle.std.proofs.Common.{None, refl, sym, ap, ◌∙◌, arith, append_assoc, append-nil, inl, inr, cond, subst}
use Rattle.std.proofs.lemmas.Bool.{cases_lt}
use Rattle.std.proofs.lemmas.Bool.Decides.{nat_tests}
use Rattle.std.specs.Prelude.{◌&&◌, ◌||◌, codes}
use Rattle.std.specs.Str.{bytes_eq}
use Rattle.markup.specs.Forest as forest
use Rattle.markup.specs.Forest.{Forest, IsParent, NodeData, Place, children_of, data_if, data_of, holds_children, is_contents}
use Rattle.markup.specs.Forest.{joined_text, last_of}
use Rattle.markup.specs.Forest.{node_count, put, put_new, put_text, template_of, text_of, with_node}
use Rattle.markup.specs.Forest.Place.{Last}
use Rattle.markup.specs.Named.{IsOrdinary, IsTree}
use Rattle.markup.specs.Names.{html_namespace, is_html_name}
use Rattle.markup.specs.Trees.{Trees, Nothing, Text, Comment, ProcessingInstruction, Doctype, Element, inner_of, node_before}
use Rattle.markup.specs.Trees.{trees_before, trees_of}
use Rattle.markup.specs.declared.attributes.Attribute.{Attribute}
use Rattle.markup.specs.declared.names.QualName.{QualName}
use Rattle.markup.proofs.Forests.{IsMade, IsMade-create_element, IsMade-with_node, IsPutAt-put}
use Rattle.markup.proofs.Parents.{children_of-past, children_of-with_children, children_of-with_children_other, data_of-past}
use Rattle.markup.proofs.Parents.{data_of-with_children}
use Rattle.markup.proofs.Parents.{node_count-with_children}
use Rattle.markup.proofs.PutTexts.{IsTexted, IsTexted-put_new, IsTexted-put_text, KeepsNames-texted}
use Rattle.markup.proofs.TemplateContents.{HasContents-put_text, HasContents-same_data}
use Rattle.markup.proofs.Trees.{IsTree-create_element, IsTree-put_new}
use Rattle.markup.proofs.WholeTrees.{trees-first, trees-none}
use Rattle.html_rules.specs.Names.{Html, MathMl, Namespace, Other, Svg, element_name_of, flags_of, is_html, mathml_namespace}
use Rattle.html_rules.specs.Names.{namespace_of, svg_namespace}
use Rattle.html_rules.specs.Choice.{choose}
use Rattle.html_rules.specs.Places.{with_element}
use Rattle.html_rules.specs.Sets.{mathml_names_of, names_of, svg_names_of}
use Rattle.html_rules.specs.State.{is_in}
use Rattle.html_rules.specs.declared.rules.Rules.TheVariants.{Html5ever}
use Rattle.html_rules.specs.declared.tag_set.TagSet.TheVariants as set
use Rattle.html_faithful.specs.Planting.{ArePlantable, EndsInNoText, IsKeptTree, IsNew, IsPlanted, Shows, element_put}
use Rattle.html_faithful.specs.Planting.{place_under}
use Rattle.html_faithful.specs.Planting.{planted}
use Rattle.html_faithful.specs.Walk.{is_template}

-- TEMPLATES

-- one of the three namespaces by three tests, or another
abbrev namespace_by : Bool → Bool → Bool → List ℕ → Namespace
namespace_by b m s uri = cond b Html (cond m MathMl (cond s Svg (Other uri)))

html-by : (b m s : Bool) (uri : List ℕ) → is_html (namespace_by b m s uri) ≡ b
html-by true m s uri = refl
html-by false true s uri = refl
html-by false false true uri = refl
html-by false false false uri = refl

or-no : (b : Bool) → (b || false) ≡ b
or-no true = refl
or-no false = refl

template-by : (b m s : Bool) (uri local : List ℕ) (n : ℕ)
    → is_in set.Template (record { number = n; namespace = namespace_by b m s uri; name = local; rules = Html5ever }) ≡ (b
    && bytes_eq local (codes "template"))
unfolding names_of mathml_names_of svg_names_of
template-by true m s uri local n = or-no (bytes_eq local (codes "template"))
template-by false true s uri local n = refl
template-by false false true uri local n = refl
template-by false false false uri local n = refl

-- the last one in an element, or in its contents
abbrev inner_number : Bool → ℕ → ℕ
inner_number template n = cond template (n + 1) n

chosen : (b : Bool) (n : ℕ) → choose b (λ _. Last (n + 1)) (λ _. Last n) ≡ Last (inner_number b n)
chosen true n = refl
chosen false n = refl

pub place-under : (name : QualName) (f : Forest) → place_under name f ≡ Last (inner_number (is_template name) (node_count f))
place-under name f =
    let b = bytes_eq name.ns html_namespace in
    let m = bytes_eq name.ns mathml_namespace in
    let s = bytes_eq name.ns svg_namespace in
    let n = node_count f in
    ap (λ t. choose t (λ _. Last (n + 1)) (λ _. Last n)) (template-by b m s name.ns name.local n) ∙ chosen (is_template name) n

template-flag : (name : QualName) (attributes : List Attribute)
    → (flags_of (namespace_of name.ns) name.local attributes false).template ≡ is_template name
template-flag name attributes =
    let b = bytes_eq name.ns html_namespace in
    let m = bytes_eq name.ns mathml_namespace in
    let s = bytes_eq name.ns svg_namespace in
    ap (λ h. h && bytes_eq name.local (codes "template")) (html-by b m s name.ns)

late-inner : (template : Bool) (low n : ℕ) → low ≤ n → low ≤ inner_number template n
late-inner true low n h = omega arith
late-inner false low n h = h

-- ONE NEW NODE

-- from f to g one node came, last in p, and its contents if it is a template
record IsPutLast (f g : Forest) (p : ℕ) (about : NodeData) : Type 0 where
  children : children_of g p ≡ children_of f p ++ node_count f ∷ []
  is : data_of g (node_count f) ≡ about
  empty : (n : ℕ) → node_count f ≤ n → children_of g n ≡ []
  same_data : (n : ℕ) → n < node_count f → data_of g n ≡ data_of f n
  others : (n : ℕ) → n < node_count f → n ≢ p → children_of g n ≡ children_of f n
  more : node_count f < node_count g

put-last : (f m : Forest) (p : ℕ) (about : NodeData) → IsMade f m about → p < node_count f
    → IsPutLast f (put m (Last p) (node_count f)) p about
put-last f m p about made there =
    let cs = children_of m p ++ node_count f ∷ [] in
    let longer = made.there in
    let same_count = node_count-with_children m p cs in
    record {
      children = children_of-with_children m p cs (omega arith) ∙ ap (λ (l : List ℕ). l ++ node_count f ∷ []) (made.lists p);
      is = data_of-with_children m p (node_count f) cs ∙ made.made;
      empty = λ n past. children_of-with_children_other m p n cs (omega arith) ∙ (made.lists n ∙ children_of-past f n past);
      same_data = λ n less. data_of-with_children m p n cs ∙ made.same_data n less;
      others = λ n less other. children_of-with_children_other m p n cs other ∙ made.lists n;
      more = omega arith;
    }

-- a parent that keeps its data is one
parent-kept : (f g : Forest) (q : ℕ) → node_count f ≤ node_count g → data_of g q ≡ data_of f q → IsParent f q → IsParent g q
parent-kept f g q more same at = record { there = let there = at.there in omega arith; holds = ap holds_children same ∙ at.holds }

-- text after no text is a new node
joined-none : (f : Forest) (p : ℕ) (t : List ℕ) (o : Option ℕ) (earlier : Option (List ℕ)) → earlier ≡ None
    → joined_text f (Last p) t o earlier ≡ put_new f (Last p) (forest.NodeData.Text t)
joined-none f p t None earlier e = refl
joined-none f p t (Some n) None e = refl
joined-none f p t (Some n) (Some earlier) e = absurd (cc)

text-put : (f : Forest) (p : ℕ) (t : List ℕ) → t ≢ [] → EndsInNoText f p
    → put_text f (Last p) t ≡ put_new f (Last p) (forest.NodeData.Text t)
text-put f p [] some ends = absurd (some refl)
text-put f p (c ∷ t) some ends =
    let full : (length (c ∷ t) == 0) ≡ false = grind (arith, nat_tests) in
    rw full (joined-none f p (c ∷ t) _ _ ends)

last-of : (ns : List ℕ) (n : ℕ) → last_of (ns ++ n ∷ []) ≡ Some n
last-of [] n = refl
last-of (m ∷ []) n = refl
last-of (m ∷ k ∷ ns) n = last-of (k ∷ ns) n

-- a node that is no text ends its parent in no text
ends-new : (ms : List ℕ) (g : Forest) (p n : ℕ) (about : NodeData) → children_of g p ≡ ms ++ n ∷ [] → data_of g n ≡ about
    → text_of about ≡ None → EndsInNoText g p
ends-new ms g p n about listed is plain = ap (λ (ns : List ℕ). text_of (data_if g (last_of ns))) listed
    ∙ (ap (λ (o : Option ℕ). text_of (data_if g o)) (last-of ms n) ∙ (ap text_of is ∙ plain))

-- WHAT IS KEPT

keeps-texted : (f g : Forest) → IsTree g → IsTexted f g → IsKeptTree f g
keeps-texted f g tree texted = record { tree = tree; parents = (KeepsNames-texted f g texted).holds; more = texted.grown.more }

pub keeps-same : (f : Forest) → IsTree f → IsKeptTree f f
keeps-same f tree = record { tree = tree; parents = λ q at. at; more = omega arith }

pub keeps-trans : (f g h : Forest) → IsKeptTree f g → IsKeptTree g h → IsKeptTree f h
keeps-trans f g h a b = record {
  tree = b.tree;
  parents = λ q at. b.parents q (a.parents q at);
  more = let l = a.more in let m = b.more in omega arith;
}

pub text-keeps : (f : Forest) (p : ℕ) (t : List ℕ) → IsTree f → IsParent f p → IsKeptTree f (put_text f (Last p) t)
text-keeps f p t tree at = keeps-texted f (put_text f (Last p) t)
    (record { forest = texted.is; contents = HasContents-put_text f (Last p) t tree.contents }) texted where
      texted : IsTexted f (put_text f (Last p) t)
      texted = IsTexted-put_text f (Last p) t tree.forest at

pub new-keeps : (f : Forest) (p : ℕ) (about : NodeData) → IsTree f → IsParent f p → IsOrdinary about
    → IsKeptTree f (put_new f (Last p) about)
new-keeps f p about tree at plain = keeps-texted f (put_new f (Last p) about)
    (IsTree-put_new f (Last p) about tree plain at) (IsTexted-put_new f (Last p) about tree.forest plain.contents at)

-- AN ELEMENT

module _ (name : QualName) (attributes : List Attribute) (own : element_name_of (namespace_of name.ns) name.local ≡ name) (p : ℕ)
    (f : Forest)
    (tree : IsTree f) (at : IsParent f p) where
  abbrev made_name : QualName
  made_name = element_name_of (namespace_of name.ns) name.local

  abbrev is_point : Bool
  is_point = (flags_of (namespace_of name.ns) name.local attributes false).mathml_annotation_xml_integration_point

  abbrev is_flagged : Bool
  is_flagged = (flags_of (namespace_of name.ns) name.local attributes false).template

  abbrev grown : Forest
  grown = with_element f (namespace_of name.ns) name.local attributes false

  abbrev there_put : Forest
  there_put = element_put (Last p) name attributes f

  made : IsMade f grown (forest.NodeData.Element made_name attributes is_flagged is_point)
  made = IsMade-create_element f made_name attributes (flags_of (namespace_of name.ns) name.local attributes false) tree.forest

  element-last : IsPutLast f there_put p (forest.NodeData.Element made_name attributes is_flagged is_point)
  element-last = put-last f grown p (forest.NodeData.Element made_name attributes is_flagged is_point) made at.there

  element-data : data_of there_put (node_count f) ≡ forest.NodeData.Element name attributes (is_template name) is_point
  element-data =
      element-last.is ∙ (ap (λ n. forest.NodeData.Element n attributes is_flagged is_point) own
      ∙ ap (λ t. forest.NodeData.Element name attributes t is_point) (template-flag name attributes))

  element-tree : IsTree there_put
  element-tree =
      let longer = made.there in
      let there : IsParent grown p = parent-kept f grown p (omega arith) (made.same_data p at.there) at in
      let placed = IsPutAt-put grown (Last p) (node_count f) made.is there (made.loose p at.there) in
      let named : is_flagged ≡ is_html_name (Some made_name) (codes "template") =
      template-flag name attributes ∙ sym (ap (λ n. is_html_name (Some n) (codes "template")) own) in
      record {
        forest = placed.is;
        contents = HasContents-same_data grown there_put
            (IsTree-create_element f made_name attributes (flags_of (namespace_of name.ns) name.local attributes false) tree named).contents
            placed.same_data;
      }

  pub element-keeps : IsKeptTree f there_put
  element-keeps =
      let longer = element-last.more in
      record {
        tree = element-tree;
        parents = λ q at. parent-kept f there_put q (omega arith) (element-last.same_data q at.there) at;
        more = omega arith;
      }

  -- a template is followed by its contents
  inner-by : (t : Bool) → template_of (data_of there_put (node_count f)) ≡ t → IsParent there_put (inner_number t (node_count f))
  inner-by true e =
      let n = node_count f in
      let follows : data_of there_put (n + 1) ≡ forest.NodeData.Contents = element-tree.contents.follow n e in
      record {
        there = elim (cases_lt (n + 1) (node_count there_put)) [
          | inl there ↦ there
          | inr past ↦ absurd (let none : data_of there_put (n + 1) ≡ forest.NodeData.Document = data_of-past there_put (n + 1) past in cc)
        ];
        holds = ap holds_children follows;
      }
  inner-by false e = record { there = element-last.more; holds = ap holds_children element-last.is }

  pub element-inner : IsParent there_put (inner_number (is_template name) (node_count f))
  element-inner = inner-by (is_template name) (ap template_of element-data)

-- NODES STAY

-- from f to g nothing changes of nodes from a number on
record IsKept (low : ℕ) (f g : Forest) : Type 0 where
  same_data : (n : ℕ) → low ≤ n → n < node_count f → data_of g n ≡ data_of f n
  children : (n : ℕ) → low ≤ n → n < node_count f → children_of g n ≡ children_of f n
  more : node_count f ≤ node_count g

new-stays : (low lower : ℕ) (f g : Forest) (n : ℕ) (about : NodeData) → lower ≤ low → IsKept low f g
    → IsNew low f n about → IsNew lower g n about
new-stays low lower f g n about le kept new = record {
  late = let late = new.late in omega arith;
  there = let there = new.there in let more = kept.more in omega arith;
  is = kept.same_data n new.late new.there ∙ new.is;
}

shows-stays : (low lower : ℕ) (f g : Forest) (ns : List ℕ) (trees : Trees) → lower ≤ low → IsKept low f g
    → Shows low f ns trees → Shows lower g ns trees
shows-stays low lower f g [] Nothing le kept h = tt
shows-stays low lower f g (n ∷ ns) (Text text rest) le kept h =
    (new-stays low lower f g n _ le kept h.0, shows-stays low lower f g ns rest le kept h.1)
shows-stays low lower f g (n ∷ ns) (Comment text rest) le kept h =
    (new-stays low lower f g n _ le kept h.0, shows-stays low lower f g ns rest le kept h.1)
shows-stays low lower f g (n ∷ ns) (Element name attributes template kids rest) le kept h = (
  record {
    integration_point = h.0.integration_point;
    new = new-stays low lower f g n _ le kept h.0.new;
    inner = let inner = h.0.inner in let more = kept.more in omega arith;
  },
  (rw (kept.children (inner_number template n) (late-inner template low n h.0.new.late) h.0.inner)
      (shows-stays low lower f g (children_of f (inner_number template n)) kids le kept h.1)),
  shows-stays low lower f g ns rest le kept h.2,
)
shows-stays low lower f g (n ∷ ns) (ProcessingInstruction target text rest) le kept h = absurd h
shows-stays low lower f g (n ∷ ns) (Doctype name public_id system_id rest) le kept h =
    (new-stays low lower f g n _ le kept h.0, shows-stays low lower f g ns rest le kept h.1)
shows-stays low lower f g [] (Text text rest) le kept h = absurd h
shows-stays low lower f g [] (Comment text rest) le kept h = absurd h
shows-stays low lower f g [] (ProcessingInstruction target text rest) le kept h = absurd h
shows-stays low lower f g [] (Doctype name public_id system_id rest) le kept h = absurd h
shows-stays low lower f g [] (Element name attributes template kids rest) le kept h = absurd h
shows-stays low lower f g (n ∷ ns) Nothing le kept h = absurd h

-- TREES AFTER A NODE

record Done (f g : Forest) (p : ℕ) (trees : Trees) : Type 0 where
  kept : IsKeptTree f g
  roots : List ℕ
  alone : IsPlanted f g p roots trees

-- a node that is no element came, and then trees
leaf : (f g h : Forest) (p : ℕ) (about : NodeData) (rest trees : Trees) → IsParent f p → IsPutLast f g p about → IsKeptTree f g
    → Done g h p rest
    → ((ns : List ℕ) → IsNew (node_count f) h (node_count f) about → Shows (node_count f) h ns rest
    → Shows (node_count f) h (node_count f ∷ ns) trees)
    → Done f h p trees
leaf f g h p about rest trees at put kept more shown =
    let n = node_count f in
    let longer = put.more in
    let longest = more.alone.more in
    let there = at.there in
    let new : IsNew n h n about =
    record { late = omega arith; there = omega arith; is = more.alone.same_data n (omega arith) ∙ put.is } in
    let still : IsKept (node_count g) h h = record {
      same_data = λ n late less. refl;
      children =
          λ n late less. refl;
      more = omega arith;
    } in
    record {
      kept = keeps-trans f g h kept more.kept;
      roots = n ∷ more.roots;
      alone = record {
        children = more.alone.children ∙ (ap (λ (l : List ℕ). l ++ more.roots) put.children
            ∙ append_assoc (children_of f p) (n ∷ []) more.roots);
        shows = shown more.roots new (shows-stays (node_count g) n h h more.roots rest (omega arith) still more.alone.shows);
        same_data = λ m less. more.alone.same_data m (omega arith) ∙ put.same_data m less;
        others = λ m less other. more.alone.others m (omega arith) other ∙ put.others m less other;
        more = omega arith;
      };
    }

-- an element with its children came, and then trees
element : (f g k h : Forest) (p q : ℕ) (name : QualName) (attributes : List Attribute) (template point : Bool) (about : NodeData)
    (kids rest : Trees)
    → IsParent f p → IsPutLast f g p about → data_of g (node_count f) ≡ forest.NodeData.Element name attributes template point
    → inner_number template (node_count f) ≡ q → node_count f ≤ q → q < node_count g → IsKeptTree f g → Done g k q kids → Done k h p rest
    → Done f h p (Element name attributes template kids rest)
element f g k h p q name attributes template point about kids rest at put is e late there kept within more =
    let n = node_count f in
    let parent = at.there in
    let l₁ = put.more in
    let l₂ = within.alone.more in
    let l₃ = more.alone.more in
    let listed : children_of h q ≡ within.roots = more.alone.others q (omega arith) (omega arith)
    ∙ (within.alone.children ∙ ap (λ (l : List ℕ). l ++ within.roots) (put.empty q late)) in
    let inside : IsKept (node_count g) k h = record {
      same_data = λ m late less. more.alone.same_data m less;
      children = λ m late less. more.alone.others m less (omega arith);
      more = l₃;
    } in
    let behind : IsKept (node_count k) h h = record {
      same_data = λ m late less. refl;
      children =
          λ m late less. refl;
      more = omega arith;
    } in
    let kids_there : Shows n h (children_of h (inner_number template n)) kids =
    rw e (rw listed (shows-stays (node_count g) n k h within.roots kids (omega arith) inside within.alone.shows)) in
    record {
      kept = keeps-trans f g h kept (keeps-trans g k h within.kept more.kept);
      roots = n ∷ more.roots;
      alone = record {
        children = more.alone.children ∙ (ap (λ (l : List ℕ). l ++ more.roots) (within.alone.others p (omega arith) (omega arith)
            ∙ put.children) ∙ append_assoc (children_of f p) (n ∷ []) more.roots);
        shows = (
          record {
            integration_point = point;
            new = record {
              late = omega arith;
              there = omega arith;
              is = more.alone.same_data n (omega arith) ∙ (within.alone.same_data n (omega arith) ∙ is);
            };
            inner = rw e (omega arith);
          },
          kids_there,
          shows-stays (node_count k) n h h more.roots rest (omega arith) behind more.alone.shows,
        );
        same_data = λ m less. more.alone.same_data m (omega arith) ∙ (within.alone.same_data m (omega arith) ∙ put.same_data m less);
        others = λ m less other. more.alone.others m (omega arith) other ∙ (within.alone.others m (omega arith) (omega arith)
            ∙ put.others m less other);
        more = omega arith;
      };
    }

comment-ordinary : (text : List ℕ) → IsOrdinary (forest.NodeData.Comment text)
comment-ordinary text = record { contents = refl; template = refl; name = refl }

text-ordinary : (text : List ℕ) → IsOrdinary (forest.NodeData.Text text)
text-ordinary text = record { contents = refl; template = refl; name = refl }

planted-alone : (trees : Trees) (p : ℕ) (f : Forest) (after_text : Bool) → IsTree f → IsParent f p
    → ArePlantable after_text trees → (after_text ≡ false → EndsInNoText f p) → Done f (planted (Last p) trees f) p trees
planted-alone Nothing p f after_text tree at ok ends = record {
  kept = keeps-same f tree;
  roots = [];
  alone = record {
    children = rw append-nil refl;
    shows = tt;
    same_data = λ n less. refl;
    others = λ n less other. refl;
    more = omega arith;
  };
}
planted-alone (Text text rest) p f after_text tree at ok ends =
    let about = forest.NodeData.Text text in
    let g = put_new f (Last p) about in
    let put = put-last f (with_node f about) p about (IsMade-with_node f about tree.forest refl) at.there in
    let kept = new-keeps f p about tree at (text-ordinary text) in
    subst (λ g. Done f (planted (Last p) rest g) p (Text text rest)) (sym (text-put f p text ok.1 (ends ok.0)))
    (leaf f g (planted (Last p) rest g) p about rest (Text text rest) at put kept
    (planted-alone rest p g true kept.tree (kept.parents p at) ok.2 (λ e. absurd (cc))) (λ ns new more. (new, more)))
planted-alone (Comment text rest) p f after_text tree at ok ends =
    let about = forest.NodeData.Comment text in
    let g = put_new f (Last p) about in
    let put = put-last f (with_node f about) p about (IsMade-with_node f about tree.forest refl) at.there in
    let kept = new-keeps f p about tree at (comment-ordinary text) in
    leaf f g (planted (Last p) rest g) p about rest (Comment text rest) at put kept
    (planted-alone rest p g false kept.tree (kept.parents p at) ok
    (λ e. ends-new (children_of f p) g p (node_count f) about put.children put.is refl)) (λ ns new more. (new, more))
planted-alone (ProcessingInstruction target text rest) p f after_text tree at ok ends = absurd ok
planted-alone (Doctype name public_id system_id rest) p f after_text tree at ok ends =
    let about = forest.NodeData.Doctype name public_id system_id in
    let g = put_new f (Last p) about in
    let put = put-last f (with_node f about) p about (IsMade-with_node f about tree.forest refl) at.there in
    let kept = new-keeps f p about tree at (record { contents = refl; template = refl; name = refl }) in
    leaf f g (planted (Last p) rest g) p about rest (Doctype name public_id system_id rest) at put kept
    (planted-alone rest p g false kept.tree (kept.parents p at) ok
    (λ e. ends-new (children_of f p) g p (node_count f) about put.children put.is refl)) (λ ns new more. (new, more))
planted-alone (Element name attributes template kids rest) p f after_text tree at ok ends =
    let n = node_count f in
    let g = element_put (Last p) name attributes f in
    let put = element-last name attributes ok.0 p f tree at in
    let kept = element-keeps name attributes ok.0 p f tree at in
    let q = inner_number (is_template name) n in
    let inner = element-inner name attributes ok.0 p f tree at in
    let k = planted (Last q) kids g in
    let late : n ≤ q = late-inner (is_template name) n n (omega arith) in
    let is = element-data name attributes ok.0 p f tree at in
    let point = is_point name attributes ok.0 p f tree at in
    let within = planted-alone kids q g false kept.tree inner ok.2
    (λ e. ap (λ (ns : List ℕ). text_of (data_if g (last_of ns))) (put.empty q late)) in
    let longer = put.more in
    let parent = at.there in
    let ends_after : EndsInNoText k p = ends-new (children_of f p) k p n (forest.NodeData.Element name attributes (is_template name) point)
    (within.alone.others p (omega arith) (omega arith) ∙ put.children) (within.alone.same_data n (omega arith) ∙ is) refl in
    let both = keeps-trans f g k kept within.kept in
    let more = planted-alone rest p k false both.tree (both.parents p at) ok.3 (λ e. ends_after) in
    subst (λ place. Done f (planted (Last p) rest (planted place kids g)) p (Element name attributes template kids rest))
    (sym (place-under name f))
    (element f g k (planted (Last p) rest k) p q name attributes template point
    (forest.NodeData.Element (made_name name attributes ok.0 p f tree at) attributes (is_flagged name attributes ok.0 p f tree at) point)
    kids rest at put
    (is ∙ ap (λ t. forest.NodeData.Element name attributes t point) ok.1)
    (ap (λ t. inner_number t n) (sym ok.1)) late inner.there kept within more)

-- WHAT IS WALKED

-- trees before others
abbrev followed : Trees → Trees → Trees
followed Nothing others = others
followed (Text text rest) others = Text text (followed rest others)
followed (Comment text rest) others = Comment text (followed rest others)
followed (ProcessingInstruction target text rest) others = ProcessingInstruction target text (followed rest others)
followed (Doctype name public_id system_id rest) others = Doctype name public_id system_id (followed rest others)
followed (Element name attributes template kids rest) others = Element name attributes template kids (followed rest others)

followed-nothing : (trees : Trees) → followed trees Nothing ≡ trees
followed-nothing Nothing = refl
followed-nothing (Text text rest) = ap (λ r. Text text r) (followed-nothing rest)
followed-nothing (Comment text rest) = ap (λ r. Comment text r) (followed-nothing rest)
followed-nothing (ProcessingInstruction target text rest) = ap (λ r. ProcessingInstruction target text r) (followed-nothing rest)
followed-nothing (Doctype name public_id system_id rest) = ap (λ r. Doctype name public_id system_id r) (followed-nothing rest)
followed-nothing (Element name attributes template kids rest) = ap (λ r. Element name attributes template kids r) (followed-nothing rest)

module _ (f : Forest) (tree : IsTree f) where
  first-is : (n : ℕ) (ns : List ℕ) (about : NodeData) (others : Trees) → data_of f n ≡ about
      → trees_before f (n ∷ ns) others ≡ node_before about (trees_before f (inner_of f n)) (trees_before f ns others)
  first-is n ns about others e =
      trees-first f tree.forest tree.contents n ns others
      ∙ ap (λ about. node_before about (trees_before f (inner_of f n)) (trees_before f ns others)) e

  shown-before : (low : ℕ) (ns : List ℕ) (trees others : Trees) → Shows low f ns trees → trees_before f ns others ≡ followed trees others
  shown-before low [] Nothing others h = trees-none f others
  shown-before low (n ∷ ns) (Text text rest) others h = first-is n ns _ others h.0.is ∙ ap (λ r. Text text r)
      (shown-before low ns rest others h.1)
  shown-before low (n ∷ ns) (Comment text rest) others h = first-is n ns _ others h.0.is
      ∙ ap (λ r. Comment text r) (shown-before low ns rest others h.1)
  shown-before low (n ∷ ns) (Element name attributes template kids rest) others h =
      let inner : inner_of f n ≡ children_of f (inner_number template n) = ap
      (λ d. children_of f (inner_number (template_of d) n)) h.0.new.is in
      first-is n ns _ others h.0.new.is
      ∙ ap (λ ms. Element name attributes template (trees_before f ms Nothing) (trees_before f ns others)) inner
      ∙ ap (λ kids. Element name attributes template kids (trees_before f ns others))
      (shown-before low (children_of f (inner_number template n)) kids Nothing h.1 ∙ followed-nothing kids)
      ∙ ap (λ r. Element name attributes template kids r) (shown-before low ns rest others h.2)
  shown-before low (n ∷ ns) (ProcessingInstruction target text rest) others h = absurd h
  shown-before low (n ∷ ns) (Doctype name public_id system_id rest) others h = first-is n ns _ others h.0.is
      ∙ ap (λ r. Doctype name public_id system_id r) (shown-before low ns rest others h.1)
  shown-before low [] (Text text rest) others h = absurd h
  shown-before low [] (Comment text rest) others h = absurd h
  shown-before low [] (ProcessingInstruction target text rest) others h = absurd h
  shown-before low [] (Doctype name public_id system_id rest) others h = absurd h
  shown-before low [] (Element name attributes template kids rest) others h = absurd h
  shown-before low (n ∷ ns) Nothing others h = absurd h

  shown-walked : (low : ℕ) (ns : List ℕ) (trees : Trees) → Shows low f ns trees → trees_of f ns ≡ trees
  shown-walked low ns trees h = shown-before low ns trees Nothing h ∙ followed-nothing trees

pub planted-shown : (trees : Trees) (p : ℕ) (f : Forest) → IsTree f → IsParent f p → ArePlantable false trees → EndsInNoText f p
    → let g = planted (Last p) trees f in IsKeptTree f g × ((roots : List ℕ) × IsPlanted f g p roots trees × (trees_of g roots ≡ trees))
planted-shown trees p f tree at ok ends =
    let done = planted-alone trees p f false tree at ok (λ e. ends) in (
      done.kept,
      (
        done.roots,
        done.alone,
        shown-walked (planted (Last p) trees f) done.kept.tree
            (node_count f) done.roots trees done.alone.shows,
      ),
    )
