-- No step of the rules makes a tree smaller.
use Rattle.std.proofs.Common.{◌≡◌, ◌∙◌, ℕ, zero, suc, ◌<◌, ◌≤◌, Bool, true, false, List, [], ◌∷◌, Option, Some, None, refl}
use Rattle.std.proofs.Common.{arith, true≢false}
use Rattle.std.specs.Prelude.{length, cond, ◌+◌, ◌++◌, ◌==◌, ◌||◌, codes}
use Rattle.std.proofs.lemmas.List.{length-set, length-append}
use Rattle.markup.specs.Forest.{Forest, NodeData, Place, Last, add_attributes, children_of, create_element, data_if, data_of}
use Rattle.markup.specs.Forest.{joined_text, node_count, parent_at, parent_of, previous_at, without, put, put_text, remove}
use Rattle.markup.specs.Forest.{remove_under, reparent_children, text_of, with_children, with_data, with_node}
use Rattle.markup.specs.Forest.NodeData.{Text, Contents, Element}
use Rattle.markup.specs.declared.attributes.Attribute.{Attribute}
use Rattle.markup.specs.declared.names.QualName.{QualName}
use Rattle.markup.specs.declared.quirks.QuirksMode.{QuirksMode}
use Rattle.markup.specs.declared.flags.ElementFlags.{ElementFlags}
use Rattle.html_tokens.specs.declared.tags.Tag.{Tag}
use Rattle.html_tokens.specs.declared.token.Token.{Token}
use Rattle.html_rules.specs.Actions.{act, restore_mode, for_tag, forget_form_elem, frameset_not_ok}
use Rattle.html_rules.specs.Actions.{frameset_not_ok_unless_white, save_mode, keep_text, pop_template_mode, push_head}
use Rattle.html_rules.specs.Actions.{push_head_elem, push_template_mode, remove_form_elem, remove_head_elem}
use Rattle.html_rules.specs.Actions.{set_foster_parenting, set_form_elem, set_head_elem, set_ignore_lf, set_mode}
use Rattle.html_rules.specs.Actions.{set_quirks_mode, set_template_mode, insert_pending_text}
use Rattle.html_rules.specs.Adoption.{Walk, adopt, adopt_from, begin_walk, between, copy_if, handle_misnested_a_tags, listed_as}
use Rattle.html_rules.specs.Adoption.{opened_before, walk, with_copy}
use Rattle.html_rules.specs.Conditions.{holds}
use Rattle.html_rules.specs.ForeignContent.{close_foreign, enter_foreign, foreign_end, foreign_start, pop_foreign}
use Rattle.html_rules.specs.Formatting.{Listed, clear_active_formatting_to_marker, create_formatting_element_for, last_named, push_marker}
use Rattle.html_rules.specs.Names.{Namespace, Html, element_name_of, flags_of}
use Rattle.html_rules.specs.Places.{append_comment, append_comment_to_doc, append_comment_to_html, append_text}
use Rattle.html_rules.specs.Places.{appropriate_place, create_root, insert_and_pop_element_for, insert_element}
use Rattle.html_rules.specs.Places.{insert_element_for, open_element, place_for, put_element, with_element}
use Rattle.html_rules.specs.Reset.{reset_insertion_mode}
use Rattle.html_rules.specs.Stack.{add_attributes_to, add_attributes_to_body, add_attributes_to_root, body_elem, close_item}
use Rattle.html_rules.specs.Stack.{expect_to_close, generate_implied_end_tags, parse_error, pop_but_root, pop_until}
use Rattle.html_rules.specs.Stack.{pop_until_current, remove_body, remove_if, root_number}
use Rattle.html_rules.specs.State.{Open, State, adjusted_current_node, current_node, is_in, is_named}
use Rattle.html_rules.specs.Table.{Action, Then, When, ParseError, InsertElement, InsertVoid, InsertVoidAs, InsertFormVoid}
use Rattle.html_rules.specs.Table.{InsertNew, InsertNewVoid, CreateRoot, CreateNewRoot, AppendText, AppendReplacement}
use Rattle.html_rules.specs.Table.{AppendComment, AppendCommentToDocument, AppendCommentToRoot, InsertTemplate}
use Rattle.html_rules.specs.Table.{AddAttributesToRoot, AddAttributesToBody, RemoveBody, PopUntil, Close, CloseToken, CloseP}
use Rattle.html_rules.specs.Table.{CloseItem, ImpliedEndTagsExcept, ImpliedEndTagsExceptToken, AnyOtherEndTag, CheckBodyEnd}
use Rattle.html_rules.specs.Table.{SetHeadElem, PushHeadElem, RemoveHeadElem, SetFormElem, RemoveFormElem, ForgetFormElem}
use Rattle.html_rules.specs.Table.{Reconstruct, InsertFormatting, AdoptionAgency, AdoptNobr, CloseMisnestedA, SetQuirks}
use Rattle.html_rules.specs.Table.{FramesetNotOkUnlessWhite, InsertPendingText, EnterForeign, InsertForeign, CloseForeign}
use Rattle.html_rules.specs.Templates.{insert_template}
use Rattle.html_rules.specs.Tokens.{attributes_of, name_of}
use Rattle.html_rules.specs.declared.tag_set.TagSet.TheVariants as set
use Rattle.html_rules_laws.proofs.Frames.KeptBySteps.{IsKeptBySteps, agency-keeps, check-keeps, close_by-keeps}
use Rattle.html_rules_laws.proofs.Frames.KeptBySteps.{close_item-keeps, close_p-keeps, either-keeps, enter-keeps, except-keeps}
use Rattle.html_rules_laws.proofs.Frames.KeptBySteps.{expect_to_close-keeps, for_tag-keeps, foreign-keeps, generic-keeps}
use Rattle.html_rules_laws.proofs.Frames.KeptBySteps.{insert-keeps, list-keeps, misnested-keeps, pop_until-keeps}
use Rattle.html_rules_laws.proofs.Frames.KeptBySteps.{pop_until_current-keeps, push_head-keeps, reconstruct-keeps, tell-keeps}
use Rattle.html_rules_laws.proofs.Frames.KeptBySteps.{template-keeps, unopened-keeps}

-- a tree has no fewer nodes than another
pub record IsGrown (f g : Forest) : Type 0 where
  pub nodes : node_count f ≤ node_count g

pub grown-same : (f : Forest) → IsGrown f f
grown-same f = record { nodes = omega arith }

pub grown-after : (f g h : Forest) → IsGrown f g → IsGrown g h → IsGrown f h
grown-after f g h a b = let one = a.nodes in let other = b.nodes in record { nodes = omega arith }

of-count : (f g : Forest) → node_count g ≡ node_count f → IsGrown f g
of-count f g e = record { nodes = omega arith }

-- what is done to a tree

count-children : (f : Forest) (n : ℕ) (children : List ℕ) → node_count (with_children f n children) ≡ node_count f
count-children f n children = length-set f.nodes n (record { about = data_of f n; children = children })

count-data : (f : Forest) (n : ℕ) (about : NodeData) → node_count (with_data f n about) ≡ node_count f
count-data f n about = length-set f.nodes n (record { about = about; children = children_of f n })

pub grown-node : (f : Forest) (about : NodeData) → IsGrown f (with_node f about)
grown-node f about = let e : node_count (with_node f about) ≡ node_count f + 1 = length-append f.nodes
    (record { about = about; children = [] } ∷ []) in record { nodes = omega arith }

pub count-put : (f : Forest) (place : Place) (n : ℕ) → node_count (put f place n) ≡ node_count f
count-put f place n = count-children f (parent_at place) _

grown-put : (f : Forest) (place : Place) (n : ℕ) → IsGrown f (put f place n)
grown-put f place n = of-count f (put f place n) (count-children f (parent_at place) _)

grown-cond : (b : Bool) (f g h : Forest) → IsGrown f g → IsGrown f h → IsGrown f (cond b g h)
grown-cond true f g h a b = a
grown-cond false f g h a b = b

grown-created : (f : Forest) (name : QualName) (attributes : List Attribute) (flags : ElementFlags)
    → IsGrown f (create_element f name attributes flags)
grown-created f name attributes flags =
    let made : Forest = with_node f (Element name attributes flags.template flags.mathml_annotation_xml_integration_point) in
    let first = grown-node f (Element name attributes flags.template flags.mathml_annotation_xml_integration_point) in
    grown-cond flags.template f (with_node made Contents) made
    (grown-after f made (with_node made Contents) first (grown-node made Contents)) first

grown-element : (f : Forest) (namespace : Namespace) (name : List ℕ) (attributes : List Attribute) (dup : Bool)
    → IsGrown f (with_element f namespace name attributes dup)
grown-element f namespace name attributes dup = grown-created f (element_name_of namespace name) attributes
    (flags_of namespace name attributes dup)

more-node : (f : Forest) (about : NodeData) → node_count f < node_count (with_node f about)
more-node f about = let e : node_count (with_node f about) ≡ node_count f + 1 = length-append f.nodes
    (record { about = about; children = [] } ∷ []) in omega arith

more-cond : (b : Bool) (f g : Forest) (about : NodeData) → node_count f < node_count g → node_count f < node_count
    (cond b (with_node g about) g)
more-cond true f g about less = let more = more-node g about in omega arith
more-cond false f g about less = less

-- an element is one node more at least
pub grown-more : (f : Forest) (namespace : Namespace) (name : List ℕ) (attributes : List Attribute) (dup : Bool)
    → node_count f < node_count (with_element f namespace name attributes dup)
grown-more f namespace name attributes dup =
    let flags = flags_of namespace name attributes dup in
    let about : NodeData = Element (element_name_of namespace name) attributes flags.template
    flags.mathml_annotation_xml_integration_point in
    more-cond flags.template f (with_node f about) Contents (more-node f about)

grown-joined : (f : Forest) (place : Place) (text : List ℕ) (n : Option ℕ) (earlier : Option (List ℕ))
    → IsGrown f (joined_text f place text n earlier)
grown-joined f place text (Some n) (Some earlier) = of-count f (with_data f n (Text (earlier ++ text)))
    (count-data f n (Text (earlier ++ text)))
grown-joined f place text None earlier = grown-after f (with_node f (Text text))
    (put (with_node f (Text text)) place (node_count f)) (grown-node f (Text text))
    (grown-put (with_node f (Text text)) place (node_count f))
grown-joined f place text (Some n) None = grown-after f (with_node f (Text text))
    (put (with_node f (Text text)) place (node_count f)) (grown-node f (Text text))
    (grown-put (with_node f (Text text)) place (node_count f))

grown-text : (f : Forest) (place : Place) (text : List ℕ) → IsGrown f (put_text f place text)
grown-text f place text = grown-cond (length text == 0) f f _ (grown-same f)
    (grown-joined f place text (previous_at f place) (text_of (data_if f (previous_at f place))))

grown-under : (f : Forest) (n : ℕ) (parent : Option ℕ) → IsGrown f (remove_under f n parent)
grown-under f n None = grown-same f
grown-under f n (Some parent) = of-count f (with_children f parent (without n (children_of f parent)))
    (count-children f parent (without n (children_of f parent)))

grown-removed : (f : Forest) (n : ℕ) → IsGrown f (remove f n)
grown-removed f n = grown-under f n (parent_of f n)

grown-moved : (f : Forest) (from to : ℕ) → IsGrown f (reparent_children f from to)
grown-moved f from to = of-count f (reparent_children f from to) (count-children (with_children f from []) to _ ∙ count-children f from [])

grown-attributes : (f : Forest) (n : ℕ) (others : List Attribute) → IsGrown f (add_attributes f n others)
grown-attributes f n others = of-count f (add_attributes f n others) (count-data f n _)

-- what steps do

-- a state has no fewer nodes than another, and its pointers are the same
pub record IsKept (s r : State) : Type 0 where
  pub grown : IsGrown s.forest r.forest
  pub head : r.head_elem ≡ s.head_elem
  pub form : r.form_elem ≡ s.form_elem
  pub context : r.context_elem ≡ s.context_elem

abbrev pub Grows : (State → State) → Type 0
Grows step = (s : State) → IsKept s (step s)

kept-after : (s r q : State) → IsKept s r → IsKept r q → IsKept s q
kept-after s r q h k = record {
  grown = grown-after s.forest r.forest q.forest h.grown k.grown;
  head = k.head ∙ h.head;
  form = k.form ∙ h.form;
  context = k.context ∙ h.context;
}

kept-same : (s : State) → IsKept s s
kept-same s = record { grown = grown-same s.forest; head = refl; form = refl; context = refl }

pub parse_error-grows : Grows parse_error
unfolding parse_error
parse_error-grows s = record { grown = record { nodes = omega arith }; head = refl; form = refl; context = refl }

pub put_element-grows : (namespace : Namespace) (name : List ℕ) (attributes : List Attribute) (dup : Bool)
    → Grows (put_element namespace name attributes dup)
unfolding put_element
put_element-grows namespace name attributes dup s =
    record {
      grown = grown-after s.forest (with_element s.forest namespace name attributes dup) _
          (grown-element s.forest namespace name attributes dup)
          (grown-put (with_element s.forest namespace name attributes dup)
          (appropriate_place s (with_element s.forest namespace name attributes dup)) (node_count s.forest));
      head = refl;
      form = refl;
      context = refl;
    }

pub insert_element-grows : (namespace : Namespace) (name : List ℕ) (attributes : List Attribute) (dup : Bool)
    → Grows (insert_element namespace name attributes dup)
unfolding insert_element
insert_element-grows namespace name attributes dup s =
    record {
      grown = grown-after s.forest (with_element s.forest namespace name attributes dup) _
          (grown-element s.forest namespace name attributes dup)
          (grown-put (with_element s.forest namespace name attributes dup)
          (appropriate_place s (with_element s.forest namespace name attributes dup)) (node_count s.forest));
      head = refl;
      form = refl;
      context = refl;
    }

open_element-grows : (namespace : Namespace) (name : List ℕ) (attributes : List Attribute) (dup : Bool)
    → Grows (open_element namespace name attributes dup)
unfolding open_element
open_element-grows namespace name attributes dup s =
    record { grown = grown-element s.forest namespace name attributes dup; head = refl; form = refl; context = refl }

create_root-grows : (attributes : List Attribute) → Grows (create_root attributes)
unfolding create_root
create_root-grows attributes s =
    record {
      grown = grown-after s.forest (with_element s.forest Html (codes "html") attributes false) _
          (grown-element s.forest Html (codes "html") attributes false)
          (grown-put (with_element s.forest Html (codes "html") attributes false) (Last 0) (node_count s.forest));
      head = refl;
      form = refl;
      context = refl;
    }

append_text-grows : (text : List ℕ) → Grows (append_text text)
unfolding append_text
append_text-grows text s = record { grown = grown-text s.forest _ text; head = refl; form = refl; context = refl }

append_comment-grows : (text : List ℕ) → Grows (append_comment text)
unfolding append_comment
append_comment-grows text s = record {
  grown = grown-after s.forest (with_node s.forest (NodeData.Comment text)) _
      (grown-node s.forest (NodeData.Comment text))
      (grown-put (with_node s.forest (NodeData.Comment text))
      (appropriate_place s (with_node s.forest (NodeData.Comment text))) (node_count s.forest));
  head = refl;
  form = refl;
  context = refl;
}

comment_to_doc-grows : (text : List ℕ) → Grows (append_comment_to_doc text)
unfolding append_comment_to_doc
comment_to_doc-grows text s = record {
  grown = grown-after s.forest (with_node s.forest (NodeData.Comment text)) _
      (grown-node s.forest (NodeData.Comment text)) (grown-put (with_node s.forest (NodeData.Comment text)) (Last 0)
      (node_count s.forest));
  head = refl;
  form = refl;
  context = refl;
}

comment_to_html-grows : (text : List ℕ) → Grows (append_comment_to_html text)
unfolding append_comment_to_html
comment_to_html-grows text s = record {
  grown = grown-after s.forest (with_node s.forest (NodeData.Comment text)) _
      (grown-node s.forest (NodeData.Comment text))
      (grown-put (with_node s.forest (NodeData.Comment text)) (Last (root_number s.open_elems))
      (node_count s.forest));
  head = refl;
  form = refl;
  context = refl;
}

root_attributes-grows : (attributes : List Attribute) → Grows (add_attributes_to_root attributes)
unfolding add_attributes_to_root
root_attributes-grows attributes s = record { grown = grown-attributes s.forest _ attributes; head = refl; form = refl; context = refl }

attributes_to-grows : (o : Option ℕ) (attributes : List Attribute) → Grows (add_attributes_to o attributes)
attributes_to-grows None attributes s = record { grown = grown-same s.forest; head = refl; form = refl; context = refl }
attributes_to-grows (Some n) attributes s = record {
  grown = grown-attributes s.forest n attributes;
  head = refl;
  form = refl;
  context = refl;
}

body_attributes-grows : (attributes : List Attribute) → Grows (add_attributes_to_body attributes)
unfolding add_attributes_to_body
body_attributes-grows attributes s = attributes_to-grows (body_elem s.open_elems) attributes s

remove_if-grows : (o : Option ℕ) → Grows (remove_if o)
remove_if-grows None s = record { grown = grown-same s.forest; head = refl; form = refl; context = refl }
remove_if-grows (Some n) s = record { grown = grown-removed s.forest n; head = refl; form = refl; context = refl }

-- the adoption agency

grown-copied : (listed : Listed) (w : Walk) → IsGrown w.forest (copy_if (Some listed) w).forest
grown-copied listed w =
    let made : Forest = with_copy w.forest listed.tag in
    let loose : Forest = remove made w.last_node in
    grown-after w.forest made _
    (grown-element w.forest Html listed.tag.name listed.tag.attrs listed.tag.had_duplicate_attributes)
    (grown-after made loose _ (grown-removed made w.last_node) (grown-put loose (Last (node_count w.forest)) w.last_node))

grown-copy_if : (o : Option Listed) (w : Walk) → IsGrown w.forest (copy_if o w).forest
grown-copy_if None w = grown-same w.forest
grown-copy_if (Some listed) w = grown-copied listed w

grown-walk : (left : ℕ) (xs : List Open) (w : Walk) → IsGrown w.forest (walk left xs w).forest
grown-walk left [] w = grown-same w.forest
grown-walk zero (x ∷ xs) w = grown-walk zero xs _
grown-walk (suc left) (x ∷ xs) w = grown-after w.forest (copy_if (listed_as x.number w.active_formatting) w).forest
    _ (grown-copy_if (listed_as x.number w.active_formatting) w) (grown-walk left xs (copy_if (listed_as x.number w.active_formatting) w))

grown-adopted : (fe : Listed) (block : Open) (w : Walk) (s : State) → IsGrown w.forest (adopt fe block w s).forest
grown-adopted fe block w s =
    let r : Forest = remove w.forest w.last_node in
    let place : Place = place_for s.foster_parenting r s.open_elems (current_node (opened_before fe.number s.open_elems)) in
    let f : Forest = put r place w.last_node in
    let c : Forest = with_copy f fe.tag in
    let m : Forest = reparent_children c block.number (node_count f) in
    grown-after w.forest r _ (grown-removed w.forest w.last_node)
    (grown-after r f _ (grown-put r place w.last_node)
    (grown-after f c _ (grown-element f Html fe.tag.name fe.tag.attrs fe.tag.had_duplicate_attributes)
    (grown-after c m _ (grown-moved c block.number (node_count f)) (grown-put m (Last block.number) (node_count f)))))

adopt_from-grows : (fe : Listed) (o : Option Open) (s : State) → IsKept s (adopt_from fe o s).state
adopt_from-grows fe None s = record { grown = grown-same s.forest; head = refl; form = refl; context = refl }
adopt_from-grows fe (Some block) s =
    let w : Walk = walk 3 (between fe block s) (begin_walk block s) in
    record {
      grown = grown-after s.forest w.forest _ (grown-walk 3 (between fe block s) (begin_walk block s))
          (grown-adopted fe block w s);
      head = refl;
      form = refl;
      context = refl;
    }

white-grows : (text : List ℕ) → Grows (frameset_not_ok_unless_white text)
unfolding frameset_not_ok_unless_white
white-grows text s = record { grown = grown-same s.forest; head = refl; form = refl; context = refl }

quirks-grows : (mode : QuirksMode) → Grows (set_quirks_mode mode)
unfolding set_quirks_mode
quirks-grows mode s = record { grown = record { nodes = omega arith }; head = refl; form = refl; context = refl }

pub grown_kept : IsKeptBySteps IsKept
grown_kept = record {
  same = kept-same;
  after = kept-after;
  stacks = λ s xs entries foster. record { grown = grown-same s.forest; head = refl; form = refl; context = refl };
  framesets = white-grows;
  errs = parse_error-grows;
  texts = append_text-grows;
  puts = put_element-grows;
  inserts = insert_element-grows;
  opens = open_element-grows;
  adopts = adopt_from-grows;
  adds = attributes_to-grows;
  removes = remove_if-grows;
}

formatting-grows : (tag : Tag) → Grows (create_formatting_element_for tag)
unfolding create_formatting_element_for
formatting-grows tag s = kept-after s _ _ (grown_kept.stacks s _ _ _) (list-keeps grown_kept tag _)

pending-grows : Grows insert_pending_text
unfolding insert_pending_text
pending-grows s = let is = tell-keeps grown_kept s.pending_table_text s in
    record { grown = record { nodes = is.grown.nodes }; head = is.head; form = is.form; context = is.context }

or_parts : (a b : Bool) → (a || b) ≡ false → (a ≡ false) × (b ≡ false)
or_parts true b e = absurd (true≢false e)
or_parts false b e = (refl, e)

-- actions that set a pointer
abbrev pub sets_pointer : Action → Bool
sets_pointer (Then a b) = sets_pointer a || sets_pointer b
sets_pointer (When c a) = sets_pointer a
sets_pointer SetHeadElem = true
sets_pointer SetFormElem = true
sets_pointer ForgetFormElem = true
sets_pointer InsertFormVoid = true
sets_pointer _ = false

-- no action makes a tree smaller, and any other one keeps the pointers
pub act-grows : (a : Action) → sets_pointer a ≡ false → (t : Token) → Grows (act a t)
unfolding pop_but_root pop_until_current remove_body handle_misnested_a_tags foreign_start close_foreign
    set_foster_parenting generate_implied_end_tags set_head_elem push_head_elem remove_head_elem set_form_elem
    remove_form_elem forget_form_elem push_marker clear_active_formatting_to_marker set_mode save_mode restore_mode
    reset_insertion_mode push_template_mode set_template_mode pop_template_mode frameset_not_ok set_ignore_lf keep_text pop_foreign
act-grows (Then a b) e t s =
    let each = or_parts (sets_pointer a) (sets_pointer b) e in
    kept-after s (act a t s) (act b t (act a t s)) (act-grows a each.0 t s) (act-grows b each.1 t (act a t s))
act-grows (When c a) e t s = either-keeps grown_kept (holds c t s) s (act a t s) s (act-grows a e t s) (kept-same s)
act-grows ParseError e t s = parse_error-grows s
act-grows InsertElement e t s = for_tag-keeps grown_kept insert_element_for t (insert-keeps grown_kept) s
act-grows InsertVoid e t s = for_tag-keeps grown_kept insert_and_pop_element_for t
    (λ tag. put_element-grows Html tag.name tag.attrs tag.had_duplicate_attributes) s
act-grows (InsertVoidAs name) e t s = for_tag-keeps grown_kept
    (λ tag. insert_and_pop_element_for (record tag { name = name })) t
    (λ tag. put_element-grows Html name tag.attrs tag.had_duplicate_attributes) s
act-grows (InsertNew name) e t s = insert_element-grows Html name [] false s
act-grows (InsertNewVoid name) e t s = put_element-grows Html name [] false s
act-grows CreateRoot e t s = create_root-grows (attributes_of t) s
act-grows CreateNewRoot e t s = create_root-grows [] s
act-grows AppendText e t s = append_text-grows _ s
act-grows AppendReplacement e t s = append_text-grows _ s
act-grows AppendComment e t s = append_comment-grows _ s
act-grows AppendCommentToDocument e t s = comment_to_doc-grows _ s
act-grows AppendCommentToRoot e t s = comment_to_html-grows _ s
act-grows InsertTemplate e t s = for_tag-keeps grown_kept insert_template t (template-keeps grown_kept) s
act-grows AddAttributesToRoot e t s = root_attributes-grows (attributes_of t) s
act-grows AddAttributesToBody e t s = body_attributes-grows (attributes_of t) s
act-grows RemoveBody e t s = kept-after s _ _ (remove_if-grows (body_elem s.open_elems) s)
    (pop_until_current-keeps grown_kept (is_in set.Html) (remove_if (body_elem s.open_elems) s))
act-grows (PopUntil set) e t s = pop_until-keeps grown_kept (is_in set) s
act-grows (Close set) e t s = expect_to_close-keeps grown_kept (is_in set) s
act-grows CloseToken e t s = expect_to_close-keeps grown_kept (is_named (name_of t)) s
act-grows CloseP e t s = close_p-keeps grown_kept s
act-grows (CloseItem set) e t s = close_item-keeps grown_kept set s
act-grows (ImpliedEndTagsExcept set) e t s = except-keeps grown_kept (is_in set) s
act-grows ImpliedEndTagsExceptToken e t s = except-keeps grown_kept (is_named (name_of t)) s
act-grows AnyOtherEndTag e t s = generic-keeps grown_kept (name_of t) s
act-grows CheckBodyEnd e t s = check-keeps grown_kept s
act-grows PushHeadElem e t s = push_head-keeps grown_kept s.head_elem s
act-grows RemoveHeadElem e t s = unopened-keeps grown_kept s.head_elem s
act-grows RemoveFormElem e t s = unopened-keeps grown_kept s.form_elem s
act-grows Reconstruct e t s = reconstruct-keeps grown_kept s
act-grows InsertFormatting e t s = for_tag-keeps grown_kept create_formatting_element_for t formatting-grows s
act-grows AdoptionAgency e t s = agency-keeps grown_kept (name_of t) s
act-grows AdoptNobr e t s = agency-keeps grown_kept (codes "nobr") s
act-grows CloseMisnestedA e t s = misnested-keeps grown_kept (last_named (codes "a") s.active_formatting) s
act-grows InsertPendingText e t s = pending-grows s
act-grows (EnterForeign namespace) e t s = for_tag-keeps grown_kept (enter_foreign namespace) t (enter-keeps grown_kept namespace) s
act-grows InsertForeign e t s = for_tag-keeps grown_kept foreign_start t
    (λ tag s. foreign-keeps grown_kept (adjusted_current_node s) tag s) s
act-grows CloseForeign e t s = close_by-keeps grown_kept (foreign_end (name_of t) s) s
act-grows (FramesetNotOkUnlessWhite) e t s = white-grows _ s
act-grows SetQuirks e t s = quirks-grows _ s
act-grows SetHeadElem e t s = absurd (true≢false e)
act-grows SetFormElem e t s = absurd (true≢false e)
act-grows ForgetFormElem e t s = absurd (true≢false e)
act-grows InsertFormVoid e t s = absurd (true≢false e)
act-grows _ e t s = record { grown = grown-same s.forest; head = refl; form = refl; context = refl }
