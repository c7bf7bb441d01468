-- Changes of the tree that leave the open elements standing: texts, comments, attributes, new elements.
use Rattle.std.proofs.Common.{◌≡◌, ◌∙◌, ℕ, ◌+◌, ◌<◌, Bool, true, false, List, [], ◌∷◌, Option, Some, None, refl, sym, ap, subst}
use Rattle.std.proofs.Common.{true≢false, arith, codes, inl, inr}
use Rattle.std.specs.Prelude.{◌&&◌, ◌||◌}
use Rattle.std.specs.Str.{bytes_eq}
use Rattle.std.proofs.lemmas.Bool.{cases_lt}
use Rattle.markup.specs.Forest.{Above, Forest, IsParent, IsPlace, Last, NodeData, Place, data_of, element_name, holds_children}
use Rattle.markup.specs.Forest.{node_count, parent_at, parent_of, place_near, put, put_new, put_text, with_node}
use Rattle.markup.specs.Forest.NodeData.{Contents, Document, Element as ElementNode}
use Rattle.markup.specs.Named.{IsOrdinary, IsTree, is_named}
use Rattle.markup.specs.Names.{html_namespace, is_html_name}
use Rattle.markup.specs.declared.attributes.Attribute.{Attribute}
use Rattle.markup.specs.declared.node_or_text.NodeOrText.TheVariants.{AppendNode, AppendText}
use Rattle.markup.specs.declared.quirks.QuirksMode.{QuirksMode}
use Rattle.markup.proofs.Forests.{IsMade, IsMade-create_element, IsParent-place, IsPutAt-put}
use Rattle.markup.proofs.Parents.{data_of-past, parent_of-with_node}
use Rattle.markup.proofs.PutTexts.{IsTexted, IsTexted-put_new, IsTexted-put_text, IsParent-document, IsParent-element}
use Rattle.markup.proofs.PutTexts.{KeepsNames, KeepsNames-texted, element-IsNode}
use Rattle.markup.proofs.Trees.{IsPlace-near, IsTree-create_element, IsTree-put_child, IsTree-put_new, IsTree-same_nodes}
use Rattle.markup.proofs.Walks.{Above-IsNode, Above-grown, Above-put_free}
use Rattle.html_rules.specs.Choice.{choose}
use Rattle.html_rules.specs.Names.{Namespace, Html, MathMl, Svg, Other, element_name_of, flags_of, mathml_namespace, svg_namespace}
use Rattle.html_rules.specs.Places.{foster_place, inside, place_for, with_element}
use Rattle.html_rules.specs.Sets.{is_among, mathml_names_of, names_in, names_of, svg_names_of}
use Rattle.html_rules.specs.Stack.{number_from, root_number}
use Rattle.html_rules.specs.State.{Open, current_node, current_number, is_in}
use Rattle.html_rules.specs.declared.rules.Rules.{Rules}
use Rattle.html_rules.specs.declared.tag_set.TagSet.TheVariants as set
use Rattle.html_rules_laws.specs.Soundness.{AreOpened, IsClear, IsOpened, IsOwn}
use Rattle.html_rules_laws.proofs.TreePreserved.Standing.{Stays, stays-opened}

pub stays-nodes : (f : Forest) (mode : QuirksMode) (errors : ℕ) → IsTree f
    → Stays f (record { nodes = f.nodes; quirks = mode; errors = errors })
stays-nodes f mode errors tree = record {
  tree = IsTree-same_nodes f mode errors tree;
  names = record { names = λ n name e. e; holds = λ n at. record { there = at.there; holds = at.holds } };
  above = λ a n there up. same a n up;
}
  where
    same : (a n : ℕ) → Above (record { nodes = f.nodes; quirks = mode; errors = errors }) a n → Above f a n
    same a n Above.here = Above.here
    same a n (Above.further e r) = Above.further e (same a _ r)

pub stays-texted : (f g : Forest) → IsTree g → IsTexted f g → Stays f g
stays-texted f g tree is = record {
  tree = tree;
  names = KeepsNames-texted f g is;
  above = λ a n there up. Above-grown f g is.grown a n there up;
}

pub stays-text : (f : Forest) (place : Place) (text : List ℕ) → IsTree f → IsPlace f place → Stays f (put_text f place text)
stays-text f place text tree at = stays-texted f (put_text f place text)
    (IsTree-put_child (λ n. n) f place (AppendText text) tree at tt) (IsTexted-put_text f place text tree.forest at)

pub stays-put_new : (f : Forest) (place : Place) (about : NodeData) → IsTree f → IsOrdinary about → IsPlace f place
    → Stays f (put_new f place about)
stays-put_new f place about tree plain at = stays-texted f (put_new f place about)
    (IsTree-put_new f place about tree plain at) (IsTexted-put_new f place about tree.forest plain.contents at)

-- a node has no new attributes, or is an element all the same
pub root-Parent : (f : Forest) (xs : List Open) (n : ℕ) → IsParent f n → AreOpened f xs → IsParent f (number_from n xs)
root-Parent f [] n at h = at
root-Parent f (x ∷ xs) n at h = root-Parent f xs x.number (IsParent-element f x.number (element_name_of x.namespace x.name) h.0.named) h.1

current-Parent : (f : Forest) (xs : List Open) → IsTree f → AreOpened f xs → IsParent f (current_number xs)
current-Parent f [] tree h = IsParent-document f tree.forest
current-Parent f (x ∷ xs) tree h = IsParent-element f x.number (element_name_of x.namespace x.name) h.0.named

-- an open template is one in the tree
or_false : (b : Bool) → (b || false) ≡ true → b ≡ true
or_false true h = refl
or_false false h = h

template_in : (namespace : Namespace) (name : List ℕ) → is_among name (names_in namespace set.Template) ≡ true
    → is_html_name (Some (element_name_of namespace name)) (codes "template") ≡ true
unfolding html_namespace names_of mathml_names_of svg_names_of
template_in Html name h = or_false (bytes_eq name (codes "template")) h
template_in MathMl name h = absurd (true≢false (sym h))
template_in Svg name h = absurd (true≢false (sym h))
template_in (Other uri) name h = absurd (true≢false (sym h))

contents-Parent : (f : Forest) (n : ℕ) → data_of f n ≡ Contents → IsParent f n
contents-Parent f n e = record {
  there = elim (cases_lt n (node_count f))
      [ inl less ↦ less | inr past ↦ absurd (let document : data_of f n ≡ Document = data_of-past f n past in cc) ];
  holds = ap holds_children e;
}

pub template-data : (f : Forest) (x : Open) → IsTree f → IsOpened f x → is_in set.Template x ≡ true → data_of f (x.number + 1) ≡ Contents
template-data f x tree is t =
    let named : is_named f x.number (codes "template") ≡ true = ap (λ o. is_html_name o (codes "template")) is.named
    ∙ template_in x.namespace x.name t in
    tree.contents.follow x.number (tree.contents.templates x.number ∙ named)

pub template-Parent : (f : Forest) (x : Open) → IsTree f → IsOpened f x → is_in set.Template x ≡ true → IsParent f (x.number + 1)
template-Parent f x tree is t = contents-Parent f (x.number + 1) (template-data f x tree is t)

inside-by : (f : Forest) (x : Open) (b : Bool) → is_in set.Template x ≡ b → IsTree f → IsOpened f x
    → IsPlace f (choose b (λ _. Last (x.number + 1)) (λ _. Last x.number))
inside-by f x true e tree is = template-Parent f x tree is e
inside-by f x false e tree is = IsParent-element f x.number (element_name_of x.namespace x.name) is.named

foster-by : (f : Forest) (x : Open) (xs : List Open) (other : Place) (b c : Bool) → is_in set.Template x ≡ b
    → IsTree f → IsOpened f x → AreOpened f xs → IsPlace f other
    → IsPlace f (choose b (λ _. Last (x.number + 1))
    (λ _. choose c (λ _. place_near x.number (current_number xs) (parent_of f x.number)) (λ _. other)))
foster-by f x xs other true c e tree is h o = template-Parent f x tree is e
foster-by f x xs other false true e tree is h o = IsPlace-near f x.number (current_number xs) (current-Parent f xs tree h)
foster-by f x xs other false false e tree is h o = o

foster-Place : (f : Forest) (root : ℕ) (xs : List Open) → IsTree f → IsParent f root → AreOpened f xs → IsPlace f (foster_place f root xs)
foster-Place f root [] tree at h = at
foster-Place f root (x ∷ xs) tree at h = foster-by f x xs (foster_place f root xs) (is_in set.Template x)
    (is_in set.Table x) refl tree h.0 h.1 (foster-Place f root xs tree at h.1)

either-Place : (f : Forest) (b : Bool) (p q : Place) → IsPlace f p → IsPlace f q → IsPlace f (choose b (λ _. p) (λ _. q))
either-Place f true p q h k = h
either-Place f false p q h k = k

-- the place for a target that is open is one
pub target-Place : (foster : Bool) (f : Forest) (xs : List Open) (target : Open) → IsTree f → AreOpened f xs
    → IsOpened f target → IsPlace f (place_for foster f xs (Some target))
target-Place foster f xs target tree h is =
    either-Place f (foster && is_in set.FosterTarget target) (foster_place f (root_number xs) xs) (inside target)
    (foster-Place f (root_number xs) xs tree (root-Parent f xs 0 (IsParent-document f tree.forest) h) h)
    (inside-by f target (is_in set.Template target) refl tree is)

-- the appropriate place is one
pub current-Place : (foster : Bool) (f : Forest) (xs : List Open) → IsTree f → AreOpened f xs
    → IsPlace f (place_for foster f xs (current_node xs))
current-Place foster f [] tree h = IsParent-document f tree.forest
current-Place foster f (x ∷ xs) tree h = target-Place foster f (x ∷ xs) x tree h h.0

-- the place is the same in a forest whose older nodes have their parents
foster-same : (f g : Forest) (root : ℕ) (xs : List Open) → ((n : ℕ) → parent_of g n ≡ parent_of f n)
    → foster_place g root xs ≡ foster_place f root xs
foster-same f g root [] e = refl
foster-same f g root (x ∷ xs) e =
    ap (λ parent. choose (is_in set.Template x) (λ _. Last (x.number + 1))
    (λ _. choose (is_in set.Table x) (λ _. place_near x.number (current_number xs) parent)
    (λ _. foster_place g root xs))) (e x.number)
    ∙ ap (λ other. choose (is_in set.Template x) (λ _. Last (x.number + 1))
    (λ _. choose (is_in set.Table x) (λ _. place_near x.number (current_number xs) (parent_of f x.number))
    (λ _. other))) (foster-same f g root xs e)

place-same : (foster : Bool) (f g : Forest) (xs : List Open) (o : Option Open)
    → ((n : ℕ) → parent_of g n ≡ parent_of f n) → place_for foster g xs o ≡ place_for foster f xs o
place-same foster f g xs None e = refl
place-same foster f g xs (Some target) e =
    ap (λ place. choose (foster && is_in set.FosterTarget target) (λ _. place) (λ _. inside target)) (foster-same f g (root_number xs) xs e)

-- a new node that is no element, at the appropriate place
pub stays-put_appropriately : (foster : Bool) (f : Forest) (xs : List Open) (about : NodeData) → IsTree f
    → IsOrdinary about → AreOpened f xs
    → Stays f (put_new f (place_for foster (with_node f about) xs (current_node xs)) about)
stays-put_appropriately foster f xs about tree plain h =
    stays-put_new f (place_for foster (with_node f about) xs (current_node xs)) about tree plain
    (subst (λ place. IsPlace f place)
    (sym (place-same foster f (with_node f about) xs (current_node xs) (λ n. parent_of-with_node f about n)))
    (current-Place foster f xs tree h))

-- a new element

made-names : (f g : Forest) (about : NodeData) → IsMade f g about → KeepsNames f g
made-names f g about is = record {
  names = λ n name e. ap element_name (is.same_data n (element-IsNode f n name e)) ∙ e;
  holds = λ n at. record {
    there = let there = at.there in let more = is.grown.more in omega arith;
    holds = ap holds_children (is.same_data n at.there) ∙ at.holds;
  };
}

template_flag : (namespace : Namespace) (name : List ℕ) (attributes : List Attribute) (dup : Bool) → IsOwn namespace
    → (flags_of namespace name attributes dup).template ≡ is_html_name (Some (element_name_of namespace name)) (codes "template")
unfolding html_namespace mathml_namespace svg_namespace
template_flag Html name attributes dup own = refl
template_flag MathMl name attributes dup own = refl
template_flag Svg name attributes dup own = refl
template_flag (Other uri) name attributes dup own = rw own refl

-- an element is made
pub record Made (f g : Forest) (xs : List Open) (new : Open) : Type 0 where
  pub stays : Stays f g
  pub opened : IsOpened g new
  pub clear : IsClear g new.number xs

-- a node that is not there yet stands above none that is
not_above-new : (f : Forest) (n : ℕ) → n < node_count f → Above f (node_count f) n → ⊥
not_above-new f n there up = let less : node_count f < node_count f = Above-IsNode f (node_count f) n there up in absurd (omega arith)

clear-new : (f g : Forest) (xs : List Open) → AreOpened f xs
    → ((a n : ℕ) → n < node_count f → Above g a n → Above f a n) → IsClear g (node_count f) xs
clear-new f g [] h above = tt
clear-new f g (x ∷ xs) h above =
    let there = element-IsNode f x.number (element_name_of x.namespace x.name) h.0.named in
    (λ up. not_above-new f x.number there (above (node_count f) x.number there up), clear-new f g xs h.1 above)

pub made-Made : (rules : Rules) (f : Forest) (namespace : Namespace) (name : List ℕ) (attributes : List Attribute) (dup : Bool)
    (xs : List Open) → IsTree f → IsOwn namespace → AreOpened f xs
    → Made f (with_element f namespace name attributes dup) xs (record { number = node_count f; namespace = namespace; name = name; rules = rules })
made-Made rules f namespace name attributes dup xs tree own h =
    let flags = flags_of namespace name attributes dup in
    let g : Forest = with_element f namespace name attributes dup in
    let about : NodeData = ElementNode (element_name_of namespace name) attributes flags.template
    flags.mathml_annotation_xml_integration_point in
    let made = IsMade-create_element f (element_name_of namespace name) attributes flags tree.forest in
    let above : (a n : ℕ) → n < node_count f → Above g a n → Above f a n = λ a n there up. Above-grown f g made.grown a n there up in
    record {
      stays = record {
        tree = IsTree-create_element f (element_name_of namespace name) attributes flags tree
            (template_flag namespace name attributes dup own);
        names = made-names f g about made;
        above = above;
      };
      opened = record { named = ap element_name made.made; own = own };
      clear = clear-new f g xs h above;
    }

-- an element is made and put at a place that is one before and after it is made
pub put-Made : (rules : Rules) (f : Forest) (namespace : Namespace) (name : List ℕ) (attributes : List Attribute) (dup : Bool)
    (xs : List Open) (place : Place) → IsTree f → IsOwn namespace → AreOpened f xs
    → IsPlace f place → IsPlace (with_element f namespace name attributes dup) place
    → Made f (put (with_element f namespace name attributes dup) place (node_count f)) xs
    (record { number = node_count f; namespace = namespace; name = name; rules = rules })
put-Made rules f namespace name attributes dup xs place tree own h before after =
    let flags = flags_of namespace name attributes dup in
    let g : Forest = with_element f namespace name attributes dup in
    let is = IsMade-create_element f (element_name_of namespace name) attributes flags tree.forest in
    let made = made-Made rules f namespace name attributes dup xs tree own h in
    let loose = is.loose (parent_at place) (IsParent-place f place tree.forest before).there in
    let at = IsPutAt-put g place (node_count f) is.is after loose in
    let k : Forest = put g place (node_count f) in
    let above : (a n : ℕ) → n < node_count f → Above k a n → Above f a n =
    λ a n there up. made.stays.above a n there (Above-put_free g k (parent_at place) (node_count f) at.put a n
    (λ new. not_above-new f n there (made.stays.above (node_count f) n there new)) up) in
    record {
      stays = record {
        tree = IsTree-put_child (λ n. n) g place (AppendNode (node_count f)) made.stays.tree after loose;
        names = record {
          names = λ n e is. ap element_name (at.same_data n) ∙ made.stays.names.names n e is;
          holds = λ n p. let q = made.stays.names.holds n p in
              record {
                there = let there = q.there in let count = at.count in omega arith;
                holds = ap holds_children (at.same_data n) ∙ q.holds;
              };
        };
        above = above;
      };
      opened = record { named = ap element_name (at.same_data (node_count f)) ∙ made.opened.named; own = own };
      clear = clear-new f k xs h above;
    }

-- at the appropriate place
pub inserted-Made : (rules : Rules) (foster : Bool) (f : Forest) (namespace : Namespace) (name : List ℕ)
    (attributes : List Attribute) (dup : Bool) (xs : List Open) → IsTree f → IsOwn namespace → AreOpened f xs
    → Made f (put (with_element f namespace name attributes dup)
    (place_for foster (with_element f namespace name attributes dup) xs (current_node xs)) (node_count f)) xs
    (record { number = node_count f; namespace = namespace; name = name; rules = rules })
inserted-Made rules foster f namespace name attributes dup xs tree own h =
    let g : Forest = with_element f namespace name attributes dup in
    let is = IsMade-create_element f (element_name_of namespace name) attributes (flags_of namespace name attributes dup) tree.forest in
    let made = made-Made rules f namespace name attributes dup xs tree own h in
    let before : IsPlace f (place_for foster g xs (current_node xs)) = subst (λ place. IsPlace f place)
    (sym (place-same foster f g xs (current_node xs) is.parents)) (current-Place foster f xs tree h) in
    put-Made rules f namespace name attributes dup xs (place_for foster g xs (current_node xs)) tree own h before
    (current-Place foster g xs made.stays.tree (stays-opened f g xs made.stays h))
