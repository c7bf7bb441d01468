-- Text, new nodes and attributes at their places: what is left of the older nodes.
use Rattle.std.proofs.Common.{◌≡◌, ◌==◌, ◌<◌, ℕ, true, false, List, ◌++◌, Option, Some, None, length, sym, ap, ◌∙◌, refl, inl, inr, arith}
use Rattle.std.proofs.lemmas.Bool.{cases_lt, cond_both}
use Rattle.markup.specs.Forest.{Forest, NodeData, Place, node_count, data_of, children_of, parent_of, parent_at, is_contents}
use Rattle.markup.specs.Forest.{holds_children, element_name, text_of, template_of, IsForest, IsParent, IsPlace, with_node}
use Rattle.markup.specs.Forest.{with_data, put_new, put_text, joined_text, previous_at, data_if, those_before, with_attributes}
use Rattle.markup.specs.Forest.{add_attributes}
use Rattle.markup.specs.Forest.NodeData.{Document, Contents, Doctype, Comment, ProcessingInstruction, Element, Text}
use Rattle.markup.specs.Forest.Place.{Last, Before}
use Rattle.markup.specs.declared.names.QualName.{QualName}
use Rattle.markup.specs.declared.attributes.Attribute.{Attribute}
use Rattle.markup.proofs.Children.{is_among-last, is_among-those_before}
use Rattle.markup.proofs.Parents.{data_of-past}
use Rattle.markup.proofs.Walks.{IsGrown}
use Rattle.markup.proofs.Forests.{IsParent-place, IsPutAt, IsPutAt-put, IsMade, IsMade-with_node, IsKind, IsInPlace, IsInPlace-with_data}

-- no element loses its name, and nodes that hold children go on to hold them
pub record KeepsNames (f g : Forest) : Type 0 where
  pub names : (n : ℕ) (name : QualName) → element_name (data_of f n) ≡ Some name → element_name (data_of g n) ≡ Some name
  pub holds : (n : ℕ) → IsParent f n → IsParent g n

-- the older nodes stand where they stood, and keep their data, but for texts
pub record IsTexted (f g : Forest) : Type 0 where
  pub is : IsForest g
  pub grown : IsGrown f g
  pub parents : (n : ℕ) → n < node_count f → parent_of g n ≡ parent_of f n
  pub same_data : (n : ℕ) → n < node_count f → text_of (data_of f n) ≡ None → data_of g n ≡ data_of f n

-- an element is a node
pub element-IsNode : (f : Forest) (n : ℕ) (name : QualName) → element_name (data_of f n) ≡ Some name → n < node_count f
element-IsNode f n name e =
    elim (cases_lt n (node_count f)) [
      | inl less ↦ less
      | inr past ↦ absurd (let none : element_name (data_of f n) ≡ None = ap element_name (data_of-past f n past) in cc)
    ]

element-no_text : (d : NodeData) (name : QualName) → element_name d ≡ Some name → text_of d ≡ None
element-no_text Document name e = refl
element-no_text Contents name e = refl
element-no_text (Doctype a b c) name e = refl
element-no_text (Text a) name e = absurd (cc)
element-no_text (Comment a) name e = refl
element-no_text (ProcessingInstruction a b) name e = refl
element-no_text (Element a b c d) name e = refl

holder-no_text : (d : NodeData) → holds_children d ≡ true → text_of d ≡ None
holder-no_text Document e = refl
holder-no_text Contents e = refl
holder-no_text (Doctype a b c) e = refl
holder-no_text (Text a) e = absurd (cc)
holder-no_text (Comment a) e = refl
holder-no_text (ProcessingInstruction a b) e = refl
holder-no_text (Element a b c d) e = refl

holder-element : (d : NodeData) (name : QualName) → element_name d ≡ Some name → holds_children d ≡ true
holder-element Document name e = refl
holder-element Contents name e = refl
holder-element (Doctype a b c) name e = absurd (cc)
holder-element (Text a) name e = absurd (cc)
holder-element (Comment a) name e = absurd (cc)
holder-element (ProcessingInstruction a b) name e = absurd (cc)
holder-element (Element a b c d) name e = refl

-- others may stand in an element
pub IsParent-element : (f : Forest) (n : ℕ) (name : QualName) → element_name (data_of f n) ≡ Some name → IsParent f n
IsParent-element f n name e = record { there = element-IsNode f n name e; holds = holder-element (data_of f n) name e }

-- and in the document
pub IsParent-document : (f : Forest) → IsForest f → IsParent f 0
IsParent-document f is = record { there = is.document; holds = ap holds_children is.document_first }

pub KeepsNames-texted : (f g : Forest) → IsTexted f g → KeepsNames f g
KeepsNames-texted f g is = record {
  names = λ n name e. ap element_name (is.same_data n (element-IsNode f n name e) (element-no_text (data_of f n) name e)) ∙ e;
  holds = λ n at. record {
    there = let there = at.there in let more = is.grown.more in omega arith;
    holds = ap holds_children (is.same_data n at.there (holder-no_text (data_of f n) at.holds)) ∙ at.holds;
  };
}

pub KeepsNames-trans : (f g h : Forest) → KeepsNames f g → KeepsNames g h → KeepsNames f h
KeepsNames-trans f g h a b = record {
  names = λ n name e. b.names n name (a.names n name e);
  holds = λ n at. b.holds n (a.holds n at);
}

pub IsTexted-same : (f : Forest) → IsForest f → IsTexted f f
IsTexted-same f is = record {
  is = is;
  grown = record { more = omega arith; olds = λ n less. refl };
  parents = λ n less. refl;
  same_data = λ n less plain. refl;
}

pub text_of-is : (d : NodeData) (old : List ℕ) → text_of d ≡ Some old → d ≡ Text old
text_of-is (Text chars) old e = let same : chars ≡ old = cc in ap Text same
text_of-is Document old e = absurd (cc)
text_of-is Contents old e = absurd (cc)
text_of-is (Doctype a b c) old e = absurd (cc)
text_of-is (Comment a) old e = absurd (cc)
text_of-is (ProcessingInstruction a b) old e = absurd (cc)
text_of-is (Element a b c d) old e = absurd (cc)

-- a text is a node
pub text-IsNode : (f : Forest) (n : ℕ) (old : List ℕ) → text_of (data_of f n) ≡ Some old → n < node_count f
text-IsNode f n old e =
    elim (cases_lt n (node_count f)) [
      | inl less ↦ less
      | inr past ↦ absurd (let none : text_of (data_of f n) ≡ None = ap text_of (data_of-past f n past) in cc)
    ]

IsKind-text : (f : Forest) (n : ℕ) (old new : List ℕ) → IsForest f → text_of (data_of f n) ≡ Some old → IsKind f n (Text new)
IsKind-text f n old new is e = record {
  contents = ap is_contents (sym (text_of-is (data_of f n) old e));
  holds = ap holds_children (sym (text_of-is (data_of f n) old e));
  first = λ first. absurd (let none : text_of (data_of f n) ≡ None = rw first (ap text_of is.document_first) in cc);
}

-- a text gets other characters
pub IsInPlace-text : (f : Forest) (n : ℕ) (old new : List ℕ) → IsForest f → text_of (data_of f n) ≡ Some old
    → IsInPlace f (with_data f n (Text new)) n
IsInPlace-text f n old new is e = IsInPlace-with_data f n (Text new) is (text-IsNode f n old e) (IsKind-text f n old new is e)

IsTexted-with_data : (f : Forest) (n : ℕ) (old new : List ℕ) → IsForest f → text_of (data_of f n) ≡ Some old
    → IsTexted f (with_data f n (Text new))
IsTexted-with_data f n old new is e = record {
  is = in_place.is;
  grown = record { more = omega (arith, in_place.count); olds = λ k less. in_place.aboves k };
  parents = λ k less. in_place.parents k;
  same_data = λ k less plain. in_place.same_data k (λ same. let plain' : text_of (data_of f n) ≡ None = rw (← same) plain in absurd (cc));
}
  where
    in_place : IsInPlace f (with_data f n (Text new)) n
    in_place = IsInPlace-text f n old new is e

-- a place stays one while nodes are made
pub IsPlace-with_node : (f : Forest) (place : Place) (about : NodeData) → IsForest f → is_contents about ≡ false
    → IsPlace f place → IsPlace (with_node f about) place
IsPlace-with_node f (Last p) about is plain at = record {
  there = let there = at.there in let more = (IsMade-with_node f about is plain).grown.more in omega arith;
  holds = ap holds_children ((IsMade-with_node f about is plain).same_data p at.there) ∙ at.holds;
}
IsPlace-with_node f (Before p s) about is plain at = (IsMade-with_node f about is plain).parents s ∙ at

-- a new node at a place
pub record IsPutNew (f g : Forest) (place : Place) (about : NodeData) : Type 0 where
  pub made : IsMade f (with_node f about) about
  pub put : IsPutAt (with_node f about) g place (node_count f)

pub IsPutNew-put_new : (f : Forest) (place : Place) (about : NodeData) → IsForest f → is_contents about ≡ false
    → IsPlace f place → IsPutNew f (put_new f place about) place about
IsPutNew-put_new f place about is plain at = record {
  made = made;
  put = IsPutAt-put (with_node f about) place (node_count f) made.is (IsPlace-with_node f place about is plain at)
      (made.loose (parent_at place) (IsParent-place f place is at).there);
}
  where
    made : IsMade f (with_node f about) about
    made = IsMade-with_node f about is plain

pub IsTexted-put_new : (f : Forest) (place : Place) (about : NodeData) → IsForest f → is_contents about ≡ false
    → IsPlace f place → IsTexted f (put_new f place about)
IsTexted-put_new f place about is plain at = record {
  is = new.put.is;
  grown = record {
    more = omega (arith, new.put.count, new.made.grown.more);
    olds = λ n less. new.put.put.others n (omega arith) ∙ new.made.grown.olds n less;
  };
  parents = λ n less. new.put.parents n (omega arith) ∙ new.made.parents n;
  same_data = λ n less text. new.put.same_data n ∙ new.made.same_data n less;
}
  where
    new : IsPutNew f (put_new f place about) place about
    new = IsPutNew-put_new f place about is plain at

pub IsTexted-put_text : (f : Forest) (place : Place) (characters : List ℕ) → IsForest f → IsPlace f place
    → IsTexted f (put_text f place characters)
IsTexted-put_text f place characters is at =
    cond_both (length characters == 0) f
    (joined_text f place characters (previous_at f place) (text_of (data_if f (previous_at f place)))) (λ (x : Forest). IsTexted f x)
    (λ e. IsTexted-same f is)
    (λ e. by_previous (previous_at f place))
  where
    new : IsTexted f (put_new f place (Text characters))
    new = IsTexted-put_new f place (Text characters) is refl at

    by_text : (n : ℕ) (o : Option (List ℕ)) → text_of (data_of f n) ≡ o → IsTexted f (joined_text f place characters (Some n) o)
    by_text n None e = new
    by_text n (Some earlier) e = IsTexted-with_data f n earlier (earlier ++ characters) is e

    by_previous : (o : Option ℕ) → IsTexted f (joined_text f place characters o (text_of (data_if f o)))
    by_previous None = new
    by_previous (Some n) = by_text n (text_of (data_of f n)) refl

-- the node just before a place is a node
pub previous-IsNode : (f : Forest) (place : Place) (n : ℕ) → IsForest f → previous_at f place ≡ Some n → n < node_count f
previous-IsNode f (Last p) n is e = is.in_range p n (is_among-last n (children_of f p) e)
previous-IsNode f (Before p s) n is e =
    is.in_range p n (is_among-those_before n s (children_of f p) (is_among-last n (those_before s (children_of f p)) e))

-- attributes

pub is_contents-with_attributes : (d : NodeData) (others : List Attribute) → is_contents (with_attributes d others) ≡ is_contents d
is_contents-with_attributes Document others = refl
is_contents-with_attributes Contents others = refl
is_contents-with_attributes (Doctype a b c) others = refl
is_contents-with_attributes (Text a) others = refl
is_contents-with_attributes (Comment a) others = refl
is_contents-with_attributes (ProcessingInstruction a b) others = refl
is_contents-with_attributes (Element a b c d) others = refl

IsKind-with_attributes : (f : Forest) (n : ℕ) (others : List Attribute) → IsForest f → IsKind f n (with_attributes (data_of f n) others)
IsKind-with_attributes f n others is = record {
  contents = is_contents-with_attributes (data_of f n) others;
  holds = holds (data_of f n);
  first = λ first. rw (first, is.document_first) refl;
}
  where
    holds : (d : NodeData) → holds_children (with_attributes d others) ≡ holds_children d
    holds Document = refl
    holds Contents = refl
    holds (Doctype a b c) = refl
    holds (Text a) = refl
    holds (Comment a) = refl
    holds (ProcessingInstruction a b) = refl
    holds (Element a b c d) = refl

pub element_name-with_attributes : (d : NodeData) (others : List Attribute) → element_name (with_attributes d others) ≡ element_name d
element_name-with_attributes Document others = refl
element_name-with_attributes Contents others = refl
element_name-with_attributes (Doctype a b c) others = refl
element_name-with_attributes (Text a) others = refl
element_name-with_attributes (Comment a) others = refl
element_name-with_attributes (ProcessingInstruction a b) others = refl
element_name-with_attributes (Element a b c d) others = refl

pub template_of-with_attributes : (d : NodeData) (others : List Attribute) → template_of (with_attributes d others) ≡ template_of d
template_of-with_attributes Document others = refl
template_of-with_attributes Contents others = refl
template_of-with_attributes (Doctype a b c) others = refl
template_of-with_attributes (Text a) others = refl
template_of-with_attributes (Comment a) others = refl
template_of-with_attributes (ProcessingInstruction a b) others = refl
template_of-with_attributes (Element a b c d) others = refl

pub IsInPlace-add_attributes : (f : Forest) (n : ℕ) (others : List Attribute) → IsForest f → n < node_count f
    → IsInPlace f (add_attributes f n others) n
IsInPlace-add_attributes f n others is there = IsInPlace-with_data f n (with_attributes (data_of f n) others) is
    there (IsKind-with_attributes f n others is)
