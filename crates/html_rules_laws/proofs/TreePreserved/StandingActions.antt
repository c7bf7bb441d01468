-- Actions keep the open elements standing.
use Rattle.std.proofs.Common.{◌≡◌, ◌∙◌, ◌++◌, reverse, ℕ, ◌<◌, Bool, true, false, List, [], ◌∷◌, Option, Some, None, refl, sym}
use Rattle.std.proofs.Common.{ap, subst, codes, arith, inl, inr}
use Rattle.std.specs.Prelude.{◌&&◌, not, IfSome}
use Rattle.std.proofs.lemmas.Bool.{cases_eq}
use Rattle.std.proofs.lemmas.Grind.{reverse_onto}
use Rattle.markup.specs.Forest.{Above, Forest, IsForest, NodeData, above_of, add_attributes, data_of, element_name}
use Rattle.markup.specs.Forest.{holds_children, node_count, remove, with_attributes}
use Rattle.markup.specs.Forest.NodeData.{Comment, Contents, Doctype as DoctypeNode, Document, Element as ElementNode}
use Rattle.markup.specs.Forest.NodeData.{ProcessingInstruction, Text}
use Rattle.markup.specs.Named.{IsTree}
use Rattle.markup.specs.TreeLaws.{with_errors}
use Rattle.markup.specs.declared.attributes.Attribute.{Attribute}
use Rattle.markup.specs.declared.quirks.QuirksMode.{QuirksMode}
use Rattle.markup.proofs.Forests.{IsRemoved-remove}
use Rattle.markup.proofs.Parents.{data_of-with_data, data_of-with_data_other}
use Rattle.markup.proofs.Trees.{IsTree-add_attributes, IsTree-remove}
use Rattle.markup.proofs.Walks.{Above-less}
use Rattle.markup.proofs.PutTexts.{IsInPlace-add_attributes, IsParent-document, element-IsNode, element_name-with_attributes}
use Rattle.html_tokens.specs.declared.tags.Tag.{Tag}
use Rattle.html_rules.specs.Actions.{append_in_body, frameset_not_ok_unless_white, push_head, remove_from_stack_if}
use Rattle.html_rules.specs.Actions.{set_foster_parenting, set_quirks_mode, insert_pending_text, insert_table_text}
use Rattle.html_rules.specs.Choice.{choose}
use Rattle.html_rules.specs.ForeignContent.{ForeignEnd, Dropped, AsInMode, Closed, close_foreign, close_foreign_by}
use Rattle.html_rules.specs.ForeignContent.{ends_foreign, ends_foreign_in, enter_foreign, foreign_end, foreign_end_from, foreign_start}
use Rattle.html_rules.specs.ForeignContent.{foreign_start_at, is_html_element, is_named_any_case, pop_foreign}
use Rattle.html_rules.specs.Formatting.{reconstruct_active_formatting_elements}
use Rattle.html_rules.specs.Names.{Namespace, Html, element_name_of}
use Rattle.html_rules.specs.Places.{insert_element_for, open_element}
use Rattle.html_rules.specs.Renames.{adjust_attributes, adjust_tag_name}
use Rattle.html_rules.specs.Stack.{add_attributes_to, add_attributes_to_body, add_attributes_to_root, body_elem, if_body, pop}
use Rattle.html_rules.specs.Stack.{remove_body, remove_if, root_number, second_of}
use Rattle.html_rules.specs.State.{Open, State, adjusted_by, adjusted_current_node, current_number, is_in}
use Rattle.html_rules.specs.Templates.{attach_shadow_root, insert_template, may_be_shadow_root, number_of}
use Rattle.html_rules.specs.Tokens.{is_white}
use Rattle.html_rules.specs.declared.tag_set.TagSet.TheVariants as set
use Rattle.html_rules_laws.specs.Soundness.{AreOpened, IsClear, IsOwn, Standing}
use Rattle.html_rules_laws.proofs.TreePreserved.Standing.{IsPart, Stays, changed-Standing, fewer-Standing, gone, opened-Standing, part-same}
use Rattle.html_rules_laws.proofs.TreePreserved.StandingSteps.{Keeps, append_text-Standing, choose-Standing}
use Rattle.html_rules_laws.proofs.TreePreserved.StandingSteps.{insert_element-Standing, insert_element_for-Standing}
use Rattle.html_rules_laws.proofs.TreePreserved.StandingSteps.{open_element-Standing, parse_error-Standing, pop-Standing}
use Rattle.html_rules_laws.proofs.TreePreserved.StandingSteps.{pop_until_current-Standing, put_element-Standing}
use Rattle.html_rules_laws.proofs.TreePreserved.StandingSteps.{reconstruct-Standing, remove_from_stack-Standing}
use Rattle.html_rules_laws.proofs.TreePreserved.StandingTrees.{root-Parent, stays-nodes}

-- attributes

holds-with_attributes : (d : NodeData) (others : List Attribute) → holds_children (with_attributes d others) ≡ holds_children d
holds-with_attributes Document others = refl
holds-with_attributes Contents others = refl
holds-with_attributes (DoctypeNode a b c) others = refl
holds-with_attributes (Text a) others = refl
holds-with_attributes (Comment a) others = refl
holds-with_attributes (ProcessingInstruction a b) others = refl
holds-with_attributes (ElementNode a b c d) others = refl

same-Above : (f g : Forest) → ((k : ℕ) → above_of g k ≡ above_of f k) → (a n : ℕ) → Above g a n → Above f a n
same-Above f g e a n Above.here = Above.here
same-Above f g e a n (Above.further {n = k} {m} is up) = Above.further (sym (e k) ∙ is) (same-Above f g e a m up)

-- what is known of the data of a node stays so
attributes-data : {R : Type 0} (f : Forest) (n : ℕ) (others : List Attribute) (what : NodeData → R) → IsForest f
    → n < node_count f → what (with_attributes (data_of f n) others) ≡ what (data_of f n)
    → (k : ℕ) → what (data_of (add_attributes f n others) k) ≡ what (data_of f k)
attributes-data f n others what is there e k =
    elim (cases_eq k n) [
      | inl same ↦ subst (λ k. what (data_of (add_attributes f n others) k) ≡ what (data_of f k)) (sym same)
          (ap what (data_of-with_data f n (with_attributes (data_of f n) others) there) ∙ e)
      | inr other ↦ ap what (data_of-with_data_other f n (with_attributes (data_of f n) others) k other)
    ]

pub stays-attributes : (f : Forest) (n : ℕ) (others : List Attribute) → IsTree f → n < node_count f → Stays f (add_attributes f n others)
stays-attributes f n others tree there =
    let g : Forest = add_attributes f n others in
    let is = IsInPlace-add_attributes f n others tree.forest there in
    record {
      tree = IsTree-add_attributes f n others tree there;
      names = record {
        names = λ k name e. attributes-data f n others element_name tree.forest there
            (element_name-with_attributes (data_of f n) others) k ∙ e;
        holds = λ k at. record {
          there = let there' = at.there in let count = is.count in omega arith;
          holds = attributes-data f n others holds_children tree.forest there (holds-with_attributes (data_of f n) others) k ∙ at.holds;
        };
      };
      above = λ a k less up. same-Above f g is.aboves a k up;
    }

pub root_attributes-Standing : (attributes : List Attribute) → Keeps (add_attributes_to_root attributes)
unfolding add_attributes_to_root
root_attributes-Standing attributes s is =
    changed-Standing s.forest (add_attributes s.forest (root_number s.open_elems) attributes) s.open_elems s.active_formatting
    (stays-attributes s.forest (root_number s.open_elems) attributes is.tree
    (root-Parent s.forest s.open_elems 0 (IsParent-document s.forest is.tree.forest) is.opened).there) is

-- the body is one of the open elements

AreNodes : Forest → List Open → Type 0
AreNodes f [] = Unit {0}
AreNodes f (x ∷ xs) = (x.number < node_count f) × AreNodes f xs

nodes-append : (f : Forest) (xs ys : List Open) → AreNodes f xs → AreNodes f ys → AreNodes f (xs ++ ys)
unfolding AreNodes
nodes-append f [] ys h k = k
nodes-append f (x ∷ xs) ys h k = (h.0, nodes-append f xs ys h.1 k)

nodes-reverse : (f : Forest) (xs : List Open) → AreNodes f xs → AreNodes f (reverse xs)
unfolding AreNodes
nodes-reverse f [] h = tt
nodes-reverse f (x ∷ xs) h = subst (λ ys. AreNodes f ys) (sym (reverse_onto xs x []))
    (nodes-append f (reverse xs) (x ∷ []) (nodes-reverse f xs h.1) (h.0, tt))

nodes-opened : (f : Forest) (xs : List Open) → AreOpened f xs → AreNodes f xs
unfolding AreNodes
nodes-opened f [] h = tt
nodes-opened f (x ∷ xs) h = (element-IsNode f x.number (element_name_of x.namespace x.name) h.0.named, nodes-opened f xs h.1)

body-IsNode : (f : Forest) (xs : List Open) → AreNodes f xs → IfSome (if_body (second_of xs)) (λ n. n < node_count f)
unfolding AreNodes
body-IsNode f [] h = tt
body-IsNode f (x ∷ []) h = tt
body-IsNode f (x ∷ y ∷ ys) h = by (is_in set.Body y) where
  by : (b : Bool) → IfSome (choose b (λ _. Some y.number) (λ _. None)) (λ n. n < node_count f)
  by true = h.1.0
  by false = tt

-- the body is a node
pub body-there : (s : State) → Standing s → IfSome (body_elem s.open_elems) (λ n. n < node_count s.forest)
body-there s is = body-IsNode s.forest (reverse s.open_elems)
    (nodes-reverse s.forest s.open_elems (nodes-opened s.forest s.open_elems is.opened))

add_to-Standing : (o : Option ℕ) (attributes : List Attribute) (s : State) → IfSome o (λ n. n < node_count s.forest)
    → Standing s → Standing (add_attributes_to o attributes s)
add_to-Standing None attributes s h is = is
add_to-Standing (Some n) attributes s h is = changed-Standing s.forest (add_attributes s.forest n attributes)
    s.open_elems s.active_formatting (stays-attributes s.forest n attributes is.tree h) is

pub body_attributes-Standing : (attributes : List Attribute) → Keeps (add_attributes_to_body attributes)
unfolding add_attributes_to_body
body_attributes-Standing attributes s is =
    add_to-Standing (body_elem s.open_elems) attributes s (body-there s is) is

pub stays-removed : (f : Forest) (n : ℕ) → IsTree f → Stays f (remove f n)
stays-removed f n tree =
    let g : Forest = remove f n in
    let is = IsRemoved-remove f n tree.forest in
    record {
      tree = IsTree-remove f n tree;
      names = record {
        names = λ k name e. ap element_name (is.same_data k) ∙ e;
        holds = λ k at. record {
          there = let there' = at.there in let count = is.count in omega arith;
          holds = ap holds_children (is.same_data k) ∙ at.holds;
        };
      };
      above = λ a k less up. Above-less f g is.less a k up;
    }

pub remove_if-Standing : (o : Option ℕ) → Keeps (remove_if o)
remove_if-Standing None s is = is
remove_if-Standing (Some n) s is = changed-Standing s.forest (remove s.forest n) s.open_elems s.active_formatting
    (stays-removed s.forest n is.tree) is

pub remove_body-Standing : Keeps remove_body
unfolding remove_body
remove_body-Standing s is = pop_until_current-Standing (is_in set.Html) _ (remove_if-Standing (body_elem s.open_elems) s is)

-- other parts of the state

pub quirks-Standing : (mode : QuirksMode) → Keeps (set_quirks_mode mode)
unfolding set_quirks_mode
quirks-Standing mode s is = changed-Standing s.forest (record s.forest { quirks = mode }) s.open_elems
    s.active_formatting (stays-nodes s.forest mode s.forest.errors is.tree) is

pub remove_from_stack_if-Standing : (o : Option ℕ) → Keeps (remove_from_stack_if o)
remove_from_stack_if-Standing None s is = is
remove_from_stack_if-Standing (Some n) s is = remove_from_stack-Standing n s is

-- a head that is an element and stands above none that is open is opened again
pub push_head-Standing : (s : State) (n : ℕ) → Standing s → element_name (data_of s.forest n) ≡ Some
    (element_name_of Html (codes "head")) → IsClear s.forest n s.open_elems → Standing (push_head (Some n) s)
push_head-Standing s n is named clear = opened-Standing s.forest
    (record { number = n; namespace = Html; name = codes "head"; rules = s.opts.rules }) s.open_elems s.active_formatting
    (record { named = named; own = tt }) clear is

-- text of tables

pub append_in_body-Standing : (text : List ℕ) → Keeps (append_in_body text)
unfolding frameset_not_ok_unless_white
append_in_body-Standing text s is = append_text-Standing text _ (relabel (reconstruct-Standing s is)) where
  relabel : Standing (reconstruct_active_formatting_elements s)
      → Standing (frameset_not_ok_unless_white text (reconstruct_active_formatting_elements s))
  relabel h = h

pub insert_table_text-Standing : (text : List ℕ) → Keeps (insert_table_text text)
unfolding set_foster_parenting
insert_table_text-Standing text s is = choose-Standing (is_white text) _ _ (append_text-Standing text s is)
    (append_in_body-Standing text _ (parse_error-Standing s is))

pub tell_pending-Standing : Keeps insert_pending_text
unfolding insert_pending_text
tell_pending-Standing s is = insert_table_text-Standing s.pending_table_text s is

-- foreign content

pub enter_foreign-Standing : (namespace : Namespace) (tag : Tag) → IsOwn namespace → Keeps (enter_foreign namespace tag)
unfolding enter_foreign
enter_foreign-Standing namespace tag own s is =
    choose-Standing tag.self_closing _ _
    (put_element-Standing namespace tag.name (adjust_attributes namespace tag.attrs) tag.had_duplicate_attributes own s is)
    (insert_element-Standing namespace tag.name (adjust_attributes namespace tag.attrs) tag.had_duplicate_attributes own s is)

-- the namespace of the adjusted current node is one of the three, or no name of theirs
pub own-by : (f : Forest) (context : Option Open) (xs : List Open) → IfSome context (λ c. IsOwn c.namespace)
    → AreOpened f xs → IfSome (adjusted_by context xs) (λ x. IsOwn x.namespace)
own-by f context [] c h = tt
own-by f None (x ∷ xs) c h = h.0.own
own-by f (Some context) (x ∷ []) c h = c
own-by f (Some context) (x ∷ y ∷ ys) c h = h.0.own

foreign_start_at-Standing : (o : Option Open) (tag : Tag) → IfSome o (λ x. IsOwn x.namespace) → Keeps (foreign_start_at o tag)
foreign_start_at-Standing None tag own s is = is
foreign_start_at-Standing (Some x) tag own s is = enter_foreign-Standing x.namespace
    (record tag { name = adjust_tag_name x.namespace tag.name }) own s is

pub foreign_start-Standing : (tag : Tag) (s : State) → IfSome s.context_elem (λ c. IsOwn c.namespace) → Standing s
    → Standing (foreign_start tag s)
unfolding foreign_start
foreign_start-Standing tag s own is = foreign_start_at-Standing (adjusted_current_node s) tag
    (own-by s.forest s.context_elem s.open_elems own is.opened) s is

pub pop_foreign-Standing : Keeps pop_foreign
unfolding pop_foreign
pop_foreign-Standing s is = pop_until_current-Standing (ends_foreign_in s) s is

-- what an end tag in foreign content leaves is a part of what was open
abbrev pub LeavesPart : List Open → ForeignEnd → Type 0
LeavesPart xs Dropped = Unit {0}
LeavesPart xs AsInMode = Unit {0}
LeavesPart xs (Closed left) = IsPart left xs

leaves-choose : (xs : List Open) (b : Bool) (e e' : ForeignEnd) → LeavesPart xs e → LeavesPart xs e'
    → LeavesPart xs (choose b (λ _. e) (λ _. e'))
leaves-choose xs true e e' h k = h
leaves-choose xs false e e' h k = k

leaves-gone : (x : Open) (xs : List Open) (e : ForeignEnd) → LeavesPart xs e → LeavesPart (x ∷ xs) e
leaves-gone x xs Dropped h = tt
leaves-gone x xs AsInMode h = tt
leaves-gone x xs (Closed left) h = gone x xs left h

pub foreign_end-part : (first : Bool) (name : List ℕ) (xs : List Open) → LeavesPart xs (foreign_end_from first name xs)
foreign_end-part first name [] = tt
foreign_end-part first name (x ∷ []) = tt
foreign_end-part first name (x ∷ y ∷ ys) =
    leaves-choose (x ∷ y ∷ ys) (not first && is_html_element x) AsInMode _ tt
    (leaves-choose (x ∷ y ∷ ys) (is_named_any_case name x) (Closed (y ∷ ys)) (foreign_end_from false name (y ∷ ys))
    (gone x (y ∷ ys) (y ∷ ys) (part-same (y ∷ ys)))
    (leaves-gone x (y ∷ ys) (foreign_end_from false name (y ∷ ys)) (foreign_end-part false name (y ∷ ys))))

close_by-Standing : (e : ForeignEnd) (s : State) → LeavesPart s.open_elems e → Standing s → Standing (close_foreign_by e s)
close_by-Standing Dropped s h is = is
close_by-Standing AsInMode s h is = is
close_by-Standing (Closed left) s h is = fewer-Standing s.forest s.active_formatting s.open_elems left h is

pub close_foreign-Standing : (name : List ℕ) → Keeps (close_foreign name)
unfolding close_foreign foreign_end
close_foreign-Standing name s is = close_by-Standing (foreign_end name s) s (foreign_end-part true name s.open_elems) is

-- templates

attach-Standing : (tag : Tag) (host : ℕ) → Keeps (attach_shadow_root tag host)
attach-Standing tag host s is =
    choose-Standing (s.answers.attaches_shadow (with_errors 0 s.forest) host (current_number s.open_elems)
    tag.attrs) s _ is (insert_element_for-Standing tag (pop s) (pop-Standing s is))

pub insert_template-Standing : (tag : Tag) → Keeps (insert_template tag)
unfolding insert_template
insert_template-Standing tag s is =
    let opened : State = open_element Html tag.name tag.attrs tag.had_duplicate_attributes s in
    choose-Standing (may_be_shadow_root tag s) (attach_shadow_root tag (number_of (adjusted_current_node s)) opened)
    (insert_element_for tag s)
    (attach-Standing tag (number_of (adjusted_current_node s)) opened
    (open_element-Standing Html tag.name tag.attrs tag.had_duplicate_attributes tt s is))
    (insert_element_for-Standing tag s is)
