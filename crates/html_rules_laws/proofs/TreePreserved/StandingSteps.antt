-- Steps keep the open elements standing.
use Rattle.std.proofs.Common.{ℕ, Bool, true, false, List, [], ◌∷◌, Option, Some, None, refl, codes}
use Rattle.std.specs.Prelude.{◌&&◌, ◌||◌, not, nat_eq, nat_le}
use Rattle.std.specs.List.{list_all}
use Rattle.markup.specs.Forest.{Forest, Last, one_more, put_new}
use Rattle.markup.specs.Forest.NodeData.{Comment, Doctype as DoctypeNode}
use Rattle.markup.specs.Named.{IsOrdinary}
use Rattle.markup.specs.declared.attributes.Attribute.{Attribute}
use Rattle.markup.proofs.PutTexts.{IsParent-document}
use Rattle.html_tokens.specs.declared.tags.Tag.{Tag}
use Rattle.html_tokens.specs.declared.token.Doctype.{Doctype}
use Rattle.html_rules.specs.Choice.{choose}
use Rattle.html_rules.specs.Formatting.{after_marker, clear_active_formatting_to_marker, count_equal}
use Rattle.html_rules.specs.Formatting.{create_formatting_element_for, is_equiv_modulo_attr_order, list_current, push_marker}
use Rattle.html_rules.specs.Formatting.{reconstruct_active_formatting_elements, reopen, with_room, without_earliest}
use Rattle.html_rules.specs.Names.{Namespace, Html}
use Rattle.html_rules.specs.Places.{append_comment, append_comment_to_doc, append_comment_to_html, append_doctype_to_document}
use Rattle.html_rules.specs.Places.{append_text, create_root, insert_element, insert_element_for, open_element, or_empty}
use Rattle.html_rules.specs.Places.{put_element}
use Rattle.html_rules.specs.Stack.{check_body_end, close_item, close_item_named, close_p_element}
use Rattle.html_rules.specs.Stack.{close_p_element_in_button_scope, expect_to_close, finds_generic, generate_implied_end_except}
use Rattle.html_rules.specs.Stack.{generate_implied_end_tags, in_scope, is_open, item_name, nothing, parse_error, pop}
use Rattle.html_rules.specs.Stack.{pop_but_root, pop_until, pop_until_current, process_end_tag_in_body, remove_from_stack}
use Rattle.html_rules.specs.Stack.{root_number}
use Rattle.html_rules.specs.State.{Open, Entry, Element, Marker, State, current_is, is_in, is_named}
use Rattle.html_rules.specs.declared.tag_set.TagSet.{TagSet}
use Rattle.html_rules.specs.declared.tag_set.TagSet.TheVariants as set
use Rattle.html_rules_laws.specs.Soundness.{AreListed, IsOwn, IsStanding, Standing}
use Rattle.html_rules_laws.proofs.TreePreserved.Standing.{changed-Standing, fewer-Standing, opened-Standing, part-below}
use Rattle.html_rules_laws.proofs.TreePreserved.Standing.{part-but_root, part-current, part-from, part-number}
use Rattle.html_rules_laws.proofs.TreePreserved.StandingTrees.{Made, current-Place, inserted-Made, made-Made, put-Made}
use Rattle.html_rules_laws.proofs.TreePreserved.StandingTrees.{root-Parent, stays-nodes, stays-put_appropriately, stays-put_new}
use Rattle.html_rules_laws.proofs.TreePreserved.StandingTrees.{stays-text}

-- a step that keeps the open elements standing
abbrev pub Keeps : (State → State) → Type 0
Keeps f = (s : State) → Standing s → Standing (f s)

pub then-Standing : (f g : State → State) → Keeps f → Keeps g → Keeps (λ s. g (f s))
then-Standing f g h k s is = k (f s) (h s is)

pub choose-Standing : (b : Bool) (x y : State) → Standing x → Standing y → Standing (choose b (λ _. x) (λ _. y))
choose-Standing true x y h k = h
choose-Standing false x y h k = k

pub parse_error-Standing : Keeps parse_error
unfolding parse_error
parse_error-Standing s is = changed-Standing s.forest (record s.forest { errors = one_more s.forest.errors })
    s.open_elems s.active_formatting (stays-nodes s.forest s.forest.quirks (one_more s.forest.errors) is.tree) is

pub pop-Standing : Keeps pop
unfolding pop
pop-Standing s is = fewer-Standing s.forest s.active_formatting s.open_elems _ (part-current s.open_elems) is

pub pop_but_root-Standing : Keeps pop_but_root
unfolding pop_but_root
pop_but_root-Standing s is = fewer-Standing s.forest s.active_formatting s.open_elems _ (part-but_root s.open_elems) is

pub pop_until-Standing : (p : Open → Bool) → Keeps (pop_until p)
unfolding pop_until
pop_until-Standing p s is = fewer-Standing s.forest s.active_formatting s.open_elems _ (part-below p s.open_elems) is

pub pop_until_current-Standing : (p : Open → Bool) → Keeps (pop_until_current p)
unfolding pop_until_current
pop_until_current-Standing p s is = fewer-Standing s.forest s.active_formatting s.open_elems _ (part-from p s.open_elems) is

pub expect_to_close-Standing : (p : Open → Bool) → Keeps (expect_to_close p)
unfolding expect_to_close
expect_to_close-Standing p s is = choose-Standing (current_is p s.open_elems) (pop_until p s)
    (pop_until p (parse_error s)) (pop_until-Standing p s is) (pop_until-Standing p (parse_error s) (parse_error-Standing s is))

pub remove_from_stack-Standing : (n : ℕ) → Keeps (remove_from_stack n)
unfolding remove_from_stack
remove_from_stack-Standing n s is = fewer-Standing s.forest s.active_formatting s.open_elems _ (part-number n s.open_elems) is

pub implied-Standing : (implied : TagSet) → Keeps (generate_implied_end_tags implied)
unfolding generate_implied_end_tags
implied-Standing implied s is = fewer-Standing s.forest s.active_formatting s.open_elems _
    (part-from (λ x. not (is_in implied x) || nothing x) s.open_elems) is

pub except-Standing : (except : Open → Bool) → Keeps (generate_implied_end_except except)
unfolding generate_implied_end_except
except-Standing except s is = fewer-Standing s.forest s.active_formatting s.open_elems _
    (part-from (λ x. not (is_in set.CursoryImpliedEnd x) || except x) s.open_elems) is

close_p_element-Standing : Keeps close_p_element
unfolding close_p_element
close_p_element-Standing s is = expect_to_close-Standing (is_in set.P) _ (except-Standing (is_in set.P) s is)

pub close_p-Standing : Keeps close_p_element_in_button_scope
unfolding close_p_element_in_button_scope
close_p-Standing s is = choose-Standing (in_scope set.ButtonScope (is_in set.P) s.open_elems) (close_p_element s) s
    (close_p_element-Standing s is) is

close_item_named-Standing : (o : Option (List ℕ)) → Keeps (close_item_named o)
close_item_named-Standing None s is = is
close_item_named-Standing (Some name) s is = expect_to_close-Standing (is_named name) _ (except-Standing (is_named name) s is)

pub close_item-Standing : (items : TagSet) → Keeps (close_item items)
unfolding close_item
close_item-Standing items s is = close_item_named-Standing (item_name items s.open_elems) s is

pub generic-Standing : (name : List ℕ) → Keeps (process_end_tag_in_body name)
unfolding process_end_tag_in_body
generic-Standing name s is =
    choose-Standing (finds_generic (is_named name) s.open_elems) _ (parse_error s)
    (expect_to_close-Standing (is_named name) (generate_implied_end_except (is_named name) s) (except-Standing (is_named name) s is))
    (parse_error-Standing s is)

pub check_body_end-Standing : Keeps check_body_end
unfolding check_body_end
check_body_end-Standing s is = choose-Standing (list_all (is_in set.BodyEnd) s.open_elems) s (parse_error s) is (parse_error-Standing s is)

-- texts and comments

pub append_text-Standing : (text : List ℕ) → Keeps (append_text text)
unfolding append_text
append_text-Standing text s is =
    changed-Standing s.forest _ s.open_elems s.active_formatting
    (stays-text s.forest _ text is.tree (current-Place s.foster_parenting s.forest s.open_elems is.tree is.opened)) is

pub comment-ordinary : (text : List ℕ) → IsOrdinary (Comment text)
comment-ordinary text = record { contents = refl; template = refl; name = refl }

pub doctype-ordinary : (name public_id system_id : List ℕ) → IsOrdinary (DoctypeNode name public_id system_id)
doctype-ordinary name public_id system_id = record { contents = refl; template = refl; name = refl }

pub append_comment-Standing : (text : List ℕ) → Keeps (append_comment text)
unfolding append_comment
append_comment-Standing text s is =
    changed-Standing s.forest _ s.open_elems s.active_formatting
    (stays-put_appropriately s.foster_parenting s.forest s.open_elems (Comment text) is.tree (comment-ordinary text) is.opened) is

pub append_comment_to_doc-Standing : (text : List ℕ) → Keeps (append_comment_to_doc text)
unfolding append_comment_to_doc
append_comment_to_doc-Standing text s is =
    changed-Standing s.forest (put_new s.forest (Last 0) (Comment text)) s.open_elems s.active_formatting
    (stays-put_new s.forest (Last 0) (Comment text) is.tree (comment-ordinary text) (IsParent-document s.forest is.tree.forest)) is

pub append_comment_to_html-Standing : (text : List ℕ) → Keeps (append_comment_to_html text)
unfolding append_comment_to_html
append_comment_to_html-Standing text s is =
    changed-Standing s.forest (put_new s.forest (Last (root_number s.open_elems)) (Comment text)) s.open_elems s.active_formatting
    (stays-put_new s.forest (Last (root_number s.open_elems)) (Comment text) is.tree (comment-ordinary text)
    (root-Parent s.forest s.open_elems 0 (IsParent-document s.forest is.tree.forest) is.opened)) is

pub doctype-Standing : (d : Doctype) → Keeps (append_doctype_to_document d)
unfolding append_doctype_to_document
doctype-Standing d s is =
    changed-Standing s.forest
    (put_new s.forest (Last 0) (DoctypeNode (or_empty d.name) (or_empty d.public_id) (or_empty d.system_id)))
    s.open_elems s.active_formatting
    (stays-put_new s.forest (Last 0) _ is.tree (doctype-ordinary (or_empty d.name) (or_empty d.public_id)
    (or_empty d.system_id)) (IsParent-document s.forest is.tree.forest)) is

-- elements

pub put_element-Standing : (namespace : Namespace) (name : List ℕ) (attributes : List Attribute) (dup : Bool)
    → IsOwn namespace → Keeps (put_element namespace name attributes dup)
unfolding put_element
put_element-Standing namespace name attributes dup own s is =
    changed-Standing s.forest _ s.open_elems s.active_formatting
    (inserted-Made s.opts.rules s.foster_parenting s.forest namespace name attributes dup s.open_elems is.tree own is.opened).stays is

made-Standing : (f g : Forest) (xs : List Open) (entries : List Entry) (new : Open) → Made f g xs new
    → IsStanding f xs entries → IsStanding g (new ∷ xs) entries
made-Standing f g xs entries new made is = opened-Standing g new xs entries made.opened made.clear
    (changed-Standing f g xs entries made.stays is)

pub insert_element-Standing : (namespace : Namespace) (name : List ℕ) (attributes : List Attribute) (dup : Bool)
    → IsOwn namespace → Keeps (insert_element namespace name attributes dup)
unfolding insert_element
insert_element-Standing namespace name attributes dup own s is =
    made-Standing s.forest _ s.open_elems s.active_formatting _
    (inserted-Made s.opts.rules s.foster_parenting s.forest namespace name attributes dup s.open_elems is.tree own is.opened) is

pub open_element-Standing : (namespace : Namespace) (name : List ℕ) (attributes : List Attribute) (dup : Bool)
    → IsOwn namespace → Keeps (open_element namespace name attributes dup)
unfolding open_element
open_element-Standing namespace name attributes dup own s is =
    made-Standing s.forest _ s.open_elems s.active_formatting _
    (made-Made s.opts.rules s.forest namespace name attributes dup s.open_elems is.tree own is.opened) is

pub insert_element_for-Standing : (tag : Tag) → Keeps (insert_element_for tag)
insert_element_for-Standing tag s is = insert_element-Standing Html tag.name tag.attrs tag.had_duplicate_attributes tt s is

pub create_root-Standing : (attributes : List Attribute) → Keeps (create_root attributes)
unfolding create_root
create_root-Standing attributes s is =
    let at = IsParent-document s.forest is.tree.forest in
    let made = made-Made s.opts.rules s.forest Html (codes "html") attributes false s.open_elems is.tree tt is.opened in
    made-Standing s.forest _ s.open_elems s.active_formatting _
    (put-Made s.opts.rules s.forest Html (codes "html") attributes false s.open_elems (Last 0) is.tree tt is.opened at
    (IsParent-document _ made.stays.tree.forest)) is

-- formatting elements

relisted-Standing : (entries : List Entry) (s : State) → Standing s → AreListed s.forest entries
    → Standing (record s { active_formatting = entries })
relisted-Standing entries s is h = record { tree = is.tree; opened = is.opened; apart = is.apart; listed = h; top = is.top }

choose-listed : (f : Forest) (b : Bool) (xs ys : List Entry) → AreListed f xs → AreListed f ys → AreListed f (choose b (λ _. xs) (λ _. ys))
choose-listed f true xs ys h k = h
choose-listed f false xs ys h k = k

earliest-listed : (f : Forest) (tag : Tag) (entries : List Entry) → AreListed f entries → AreListed f (without_earliest tag entries)
earliest-listed f tag [] h = tt
earliest-listed f tag (Marker ∷ entries) h = h
earliest-listed f tag (Element n other ∷ entries) h =
    choose-listed f (is_equiv_modulo_attr_order tag other && nat_eq (count_equal tag entries) 0) entries
    (Element n other ∷ without_earliest tag entries) h.1 (h.0, earliest-listed f tag entries h.1)

room-listed : (f : Forest) (tag : Tag) (entries : List Entry) → AreListed f entries → AreListed f (with_room tag entries)
room-listed f tag entries h = choose-listed f (nat_le 3 (count_equal tag entries)) (without_earliest tag entries)
    entries (earliest-listed f tag entries h) h

-- an element is inserted for a tag, and listed
listed-Standing : (tag : Tag) → Keeps (λ s. list_current tag (insert_element_for tag s))
unfolding insert_element
listed-Standing tag s is =
    let made = inserted-Made s.opts.rules s.foster_parenting s.forest Html tag.name tag.attrs tag.had_duplicate_attributes
    s.open_elems is.tree tt is.opened in
    let standing = insert_element_for-Standing tag s is in
    record {
      tree = standing.tree;
      opened = standing.opened;
      apart = standing.apart;
      listed = (made.opened.named, standing.listed);
      top = standing.top;
    }

pub formatting-Standing : (tag : Tag) → Keeps (create_formatting_element_for tag)
unfolding create_formatting_element_for
formatting-Standing tag s is = listed-Standing tag _ (relisted-Standing (with_room tag s.active_formatting) s is
    (room-listed s.forest tag s.active_formatting is.listed))

pub marker-Standing : Keeps push_marker
unfolding push_marker
marker-Standing s is = relisted-Standing (Marker ∷ s.active_formatting) s is is.listed

behind-listed : (f : Forest) (entries : List Entry) → AreListed f entries → AreListed f (after_marker entries)
behind-listed f [] h = tt
behind-listed f (Marker ∷ entries) h = h
behind-listed f (Element n tag ∷ entries) h = behind-listed f entries h.1

pub clear-Standing : Keeps clear_active_formatting_to_marker
unfolding clear_active_formatting_to_marker
clear-Standing s is = relisted-Standing (after_marker s.active_formatting) s is (behind-listed s.forest s.active_formatting is.listed)

pub reopen-Standing : (entries : List Entry) (s : State) → AreListed s.forest entries → Standing s → Standing (reopen entries s)
reopen-Standing [] s h is = relisted-Standing [] s is tt
reopen-Standing (Marker ∷ entries) s h is = relisted-Standing (Marker ∷ entries) s is h
reopen-Standing (Element n tag ∷ entries) s h is =
    choose-Standing (is_open n s.open_elems) _ _ (relisted-Standing (Element n tag ∷ entries) s is h)
    (listed-Standing tag (reopen entries s) (reopen-Standing entries s h.1 is))

pub reconstruct-Standing : Keeps reconstruct_active_formatting_elements
unfolding reconstruct_active_formatting_elements
reconstruct-Standing s is = reopen-Standing s.active_formatting s is.listed is
