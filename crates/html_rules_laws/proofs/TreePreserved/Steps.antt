-- Steps under which an open `html` stays the root.
use Rattle.std.proofs.Common.{ℕ, ◌<◌, ◌≡◌, Bool, true, false, List, [], ◌∷◌, Option, Some, None, refl}
use Rattle.std.specs.Prelude.{◌||◌, not, IfSome}
use Rattle.std.specs.List.{list_all}
use Rattle.std.proofs.lemmas.Bool.{and_parts}
use Rattle.markup.specs.Forest.{Last, node_count, one_more}
use Rattle.markup.specs.Forest.NodeData.{Comment}
use Rattle.markup.specs.declared.attributes.Attribute.{Attribute}
use Rattle.markup.specs.declared.quirks.QuirksMode.{QuirksMode}
use Rattle.markup.proofs.PutTexts.{IsParent-document}
use Rattle.html_tokens.specs.declared.tags.Tag.{Tag}
use Rattle.html_tokens.specs.declared.token.Doctype.{Doctype}
use Rattle.html_rules.specs.Actions.{append_in_body, frameset_not_ok_unless_white, remove_from_stack_if, set_foster_parenting}
use Rattle.html_rules.specs.Actions.{set_quirks_mode, insert_table_text}
use Rattle.html_rules.specs.ForeignContent.{ForeignEnd, Dropped, AsInMode, Closed, close_foreign_by, enter_foreign, foreign_start_at}
use Rattle.html_rules.specs.Formatting.{create_formatting_element_for, list_current, reconstruct_active_formatting_elements, reopen}
use Rattle.html_rules.specs.Names.{Namespace, Html, is_html}
use Rattle.html_rules.specs.Places.{append_comment, append_comment_to_doc, append_comment_to_html, append_doctype_to_document}
use Rattle.html_rules.specs.Places.{append_text, insert_element, insert_element_for, open_element, or_empty, put_element}
use Rattle.html_rules.specs.Renames.{adjust_attributes, adjust_tag_name}
use Rattle.html_rules.specs.Sets.{is_among, names_of}
use Rattle.html_rules.specs.Stack.{add_attributes_to, add_attributes_to_body, add_attributes_to_root, body_elem, check_body_end}
use Rattle.html_rules.specs.Stack.{close_item, close_item_named, close_p_element, close_p_element_in_button_scope}
use Rattle.html_rules.specs.Stack.{expect_to_close, finds_generic, generate_implied_end_except, generate_implied_end_tags}
use Rattle.html_rules.specs.Stack.{in_scope, is_open, item_name, nothing, parse_error, pop, pop_but_root, pop_until}
use Rattle.html_rules.specs.Stack.{pop_until_current, process_end_tag_in_body, remove_body, remove_from_stack, remove_if}
use Rattle.html_rules.specs.Stack.{root_number}
use Rattle.html_rules.specs.State.{Open, Entry, Element, Marker, State, current_is, is_in, is_named}
use Rattle.html_rules.specs.Tokens.{is_white}
use Rattle.html_rules.specs.declared.rules.Rules.{Rules}
use Rattle.html_rules.specs.declared.tag_set.TagSet.{TagSet}
use Rattle.html_rules.specs.declared.tag_set.TagSet.TheVariants as set
use Rattle.html_rules_laws.specs.Ready.{are_formatting}
use Rattle.html_rules_laws.specs.Soundness.{AreListed, IsOwn, Standing}
use Rattle.html_rules_laws.proofs.TreePreserved.Standing.{Stays, IsPart, part-below, part-but_root, part-current, part-from}
use Rattle.html_rules_laws.proofs.TreePreserved.Standing.{part-number, part-same}
use Rattle.html_rules_laws.proofs.TreePreserved.StandingActions.{LeavesPart, body-there, remove_if-Standing, stays-attributes}
use Rattle.html_rules_laws.proofs.TreePreserved.StandingActions.{stays-removed}
use Rattle.html_rules_laws.proofs.TreePreserved.StandingSteps.{comment-ordinary, doctype-ordinary, except-Standing}
use Rattle.html_rules_laws.proofs.TreePreserved.StandingSteps.{parse_error-Standing, reconstruct-Standing, reopen-Standing}
use Rattle.html_rules_laws.proofs.TreePreserved.StandingTrees.{current-Place, inserted-Made, made-Made, root-Parent}
use Rattle.html_rules_laws.proofs.TreePreserved.StandingTrees.{stays-nodes, stays-put_appropriately, stays-put_new, stays-text}
use Rattle.html_rules_laws.proofs.Frames.Tame.{plain-foreign, plain-formatting}
use Rattle.html_rules_laws.proofs.TreePreserved.Eases.{Eases, eased-after, eased-either, eased-made, eased-part, eased-same, stays-same}

-- a step under which an open `html` stays the root
abbrev pub EasesBy : (State → State) → Type 0
EasesBy g = (s : State) → Standing s → Eases s (g s)

-- elements leave
fewer-eased : (s r : State) → Standing s → Stays s.forest r.forest → IsPart r.open_elems s.open_elems → Eases s r
fewer-eased s r is stays part = eased-part s r is.opened stays part

pub parse_error-eased : EasesBy parse_error
unfolding parse_error
parse_error-eased s is = fewer-eased s (parse_error s) is
    (stays-nodes s.forest s.forest.quirks (one_more s.forest.errors) is.tree) (part-same s.open_elems)

pub pop-eased : EasesBy pop
unfolding pop
pop-eased s is = fewer-eased s (pop s) is (stays-same s.forest is.tree) (part-current s.open_elems)

pub pop_but_root-eased : EasesBy pop_but_root
unfolding pop_but_root
pop_but_root-eased s is = fewer-eased s (pop_but_root s) is (stays-same s.forest is.tree) (part-but_root s.open_elems)

pub pop_until-eased : (p : Open → Bool) → EasesBy (pop_until p)
unfolding pop_until
pop_until-eased p s is = fewer-eased s (pop_until p s) is (stays-same s.forest is.tree) (part-below p s.open_elems)

pub pop_until_current-eased : (p : Open → Bool) → EasesBy (pop_until_current p)
unfolding pop_until_current
pop_until_current-eased p s is = fewer-eased s (pop_until_current p s) is (stays-same s.forest is.tree) (part-from p s.open_elems)

pub expect_to_close-eased : (p : Open → Bool) → EasesBy (expect_to_close p)
unfolding expect_to_close
expect_to_close-eased p s is =
    eased-either (current_is p s.open_elems) s (pop_until p s) (pop_until p (parse_error s))
    (pop_until-eased p s is) (eased-after s (parse_error s) (pop_until p (parse_error s))
    (parse_error-eased s is) (pop_until-eased p (parse_error s) (parse_error-Standing s is)))

pub remove_from_stack-eased : (n : ℕ) → EasesBy (remove_from_stack n)
unfolding remove_from_stack
remove_from_stack-eased n s is = fewer-eased s (remove_from_stack n s) is (stays-same s.forest is.tree) (part-number n s.open_elems)

pub remove_from_stack_if-eased : (o : Option ℕ) → EasesBy (remove_from_stack_if o)
remove_from_stack_if-eased None s is = eased-same s
remove_from_stack_if-eased (Some n) s is = remove_from_stack-eased n s is

pub implied-eased : (implied : TagSet) → EasesBy (generate_implied_end_tags implied)
unfolding generate_implied_end_tags
implied-eased implied s is = fewer-eased s (generate_implied_end_tags implied s) is (stays-same s.forest is.tree)
    (part-from (λ x. not (is_in implied x) || nothing x) s.open_elems)

pub except-eased : (except : Open → Bool) → EasesBy (generate_implied_end_except except)
unfolding generate_implied_end_except
except-eased except s is = fewer-eased s (generate_implied_end_except except s) is (stays-same s.forest is.tree)
    (part-from (λ x. not (is_in set.CursoryImpliedEnd x) || except x) s.open_elems)

closed-eased : (p : Open → Bool) → EasesBy (λ s. expect_to_close p (generate_implied_end_except p s))
closed-eased p s is = eased-after s (generate_implied_end_except p s) _ (except-eased p s is)
    (expect_to_close-eased p (generate_implied_end_except p s) (except-Standing p s is))

pub close_p-eased : EasesBy close_p_element_in_button_scope
unfolding close_p_element_in_button_scope close_p_element
close_p-eased s is = eased-either (in_scope set.ButtonScope (is_in set.P) s.open_elems) s _ s
    (closed-eased (is_in set.P) s is) (eased-same s)

close_named-eased : (o : Option (List ℕ)) → EasesBy (close_item_named o)
close_named-eased None s is = eased-same s
close_named-eased (Some name) s is = closed-eased (is_named name) s is

pub close_item-eased : (items : TagSet) → EasesBy (close_item items)
unfolding close_item
close_item-eased items s is = close_named-eased (item_name items s.open_elems) s is

pub generic-eased : (name : List ℕ) → EasesBy (process_end_tag_in_body name)
unfolding process_end_tag_in_body
generic-eased name s is = eased-either (finds_generic (is_named name) s.open_elems) s _ (parse_error s)
    (closed-eased (is_named name) s is) (parse_error-eased s is)

pub check-eased : EasesBy check_body_end
unfolding check_body_end
check-eased s is = eased-either (list_all (is_in set.BodyEnd) s.open_elems) s s (parse_error s) (eased-same s) (parse_error-eased s is)

pub close_by-eased : (e : ForeignEnd) (s : State) → LeavesPart s.open_elems e → Standing s → Eases s (close_foreign_by e s)
close_by-eased Dropped s h is = eased-same s
close_by-eased AsInMode s h is = eased-same s
close_by-eased (Closed left) s h is = fewer-eased s (record s { open_elems = left }) is (stays-same s.forest is.tree) h

-- the tree changes under which older nodes stay

pub append_text-eased : (text : List ℕ) → EasesBy (append_text text)
unfolding append_text
append_text-eased text s is = fewer-eased s (append_text text s) is
    (stays-text s.forest _ text is.tree (current-Place s.foster_parenting s.forest s.open_elems is.tree is.opened)) (part-same s.open_elems)

pub append_comment-eased : (text : List ℕ) → EasesBy (append_comment text)
unfolding append_comment
append_comment-eased text s is = fewer-eased s (append_comment text s) is
    (stays-put_appropriately s.foster_parenting s.forest s.open_elems (Comment text) is.tree (comment-ordinary text)
    is.opened) (part-same s.open_elems)

pub append_comment_to_doc-eased : (text : List ℕ) → EasesBy (append_comment_to_doc text)
unfolding append_comment_to_doc
append_comment_to_doc-eased text s is =
    fewer-eased s (append_comment_to_doc text s) is
    (stays-put_new s.forest (Last 0) (Comment text) is.tree (comment-ordinary text)
    (IsParent-document s.forest is.tree.forest)) (part-same s.open_elems)

pub append_comment_to_html-eased : (text : List ℕ) → EasesBy (append_comment_to_html text)
unfolding append_comment_to_html
append_comment_to_html-eased text s is =
    fewer-eased s (append_comment_to_html text s) is
    (stays-put_new s.forest (Last (root_number s.open_elems)) (Comment text) is.tree (comment-ordinary text)
    (root-Parent s.forest s.open_elems 0 (IsParent-document s.forest is.tree.forest) is.opened)) (part-same s.open_elems)

pub doctype-eased : (d : Doctype) → EasesBy (append_doctype_to_document d)
unfolding append_doctype_to_document
doctype-eased d s is =
    fewer-eased s (append_doctype_to_document d s) is
    (stays-put_new s.forest (Last 0) _ is.tree (doctype-ordinary (or_empty d.name) (or_empty d.public_id)
    (or_empty d.system_id)) (IsParent-document s.forest is.tree.forest)) (part-same s.open_elems)

pub quirks-eased : (mode : QuirksMode) → EasesBy (set_quirks_mode mode)
unfolding set_quirks_mode
quirks-eased mode s is = fewer-eased s (set_quirks_mode mode s) is
    (stays-nodes s.forest mode s.forest.errors is.tree) (part-same s.open_elems)

pub root_attributes-eased : (attributes : List Attribute) → EasesBy (add_attributes_to_root attributes)
unfolding add_attributes_to_root
root_attributes-eased attributes s is =
    fewer-eased s (add_attributes_to_root attributes s) is
    (stays-attributes s.forest (root_number s.open_elems) attributes is.tree
    (root-Parent s.forest s.open_elems 0 (IsParent-document s.forest is.tree.forest) is.opened).there) (part-same s.open_elems)

add_to-eased : (o : Option ℕ) (attributes : List Attribute) (s : State) → IfSome o (λ n. n < node_count s.forest)
    → Standing s → Eases s (add_attributes_to o attributes s)
add_to-eased None attributes s h is = eased-same s
add_to-eased (Some n) attributes s h is = fewer-eased s (add_attributes_to (Some n) attributes s) is
    (stays-attributes s.forest n attributes is.tree h) (part-same s.open_elems)

pub body_attributes-eased : (attributes : List Attribute) → EasesBy (add_attributes_to_body attributes)
unfolding add_attributes_to_body
body_attributes-eased attributes s is = add_to-eased (body_elem s.open_elems) attributes s (body-there s is) is

remove_if-eased : (o : Option ℕ) → EasesBy (remove_if o)
remove_if-eased None s is = eased-same s
remove_if-eased (Some n) s is = fewer-eased s (remove_if (Some n) s) is (stays-removed s.forest n is.tree) (part-same s.open_elems)

pub remove_body-eased : EasesBy remove_body
unfolding remove_body
remove_body-eased s is =
    let removed : State = remove_if (body_elem s.open_elems) s in
    eased-after s removed (pop_until_current (is_in set.Html) removed)
    (remove_if-eased (body_elem s.open_elems) s is)
    (pop_until_current-eased (is_in set.Html) removed (remove_if-Standing (body_elem s.open_elems) s is))

-- elements

pub put_element-eased : (namespace : Namespace) (name : List ℕ) (attributes : List Attribute) (dup : Bool)
    → IsOwn namespace → EasesBy (put_element namespace name attributes dup)
unfolding put_element
put_element-eased namespace name attributes dup own s is =
    fewer-eased s (put_element namespace name attributes dup s) is
    (inserted-Made s.opts.rules s.foster_parenting s.forest namespace name attributes dup s.open_elems is.tree own
    is.opened).stays (part-same s.open_elems)

-- no `html` has this name
abbrev pub IsRootless : Namespace → List ℕ → Type 0
IsRootless namespace name = (n : ℕ) (rules : Rules) → is_in set.Html (record { number = n; namespace = namespace; name = name; rules = rules }) ≡ false

pub insert_element-eased : (namespace : Namespace) (name : List ℕ) (attributes : List Attribute) (dup : Bool)
    → IsOwn namespace → IsRootless namespace name → EasesBy (insert_element namespace name attributes dup)
unfolding insert_element
insert_element-eased namespace name attributes dup own no_html s is =
    eased-made s (insert_element namespace name attributes dup s)
    (record { number = node_count s.forest; namespace = namespace; name = name; rules = s.opts.rules }) is.opened
    (inserted-Made s.opts.rules s.foster_parenting s.forest namespace name attributes dup s.open_elems is.tree own is.opened)
    refl (no_html (node_count s.forest) s.opts.rules)

pub open_element-eased : (namespace : Namespace) (name : List ℕ) (attributes : List Attribute) (dup : Bool)
    → IsOwn namespace → IsRootless namespace name → EasesBy (open_element namespace name attributes dup)
unfolding open_element
open_element-eased namespace name attributes dup own no_html s is =
    eased-made s (open_element namespace name attributes dup s)
    (record { number = node_count s.forest; namespace = namespace; name = name; rules = s.opts.rules }) is.opened
    (made-Made s.opts.rules s.forest namespace name attributes dup s.open_elems is.tree own is.opened) refl (no_html (node_count s.forest) s.opts.rules)

pub enter_foreign-eased : (namespace : Namespace) (tag : Tag) → IsOwn namespace → is_html namespace ≡ false
    → EasesBy (enter_foreign namespace tag)
unfolding enter_foreign
enter_foreign-eased namespace tag own foreign s is =
    eased-either tag.self_closing s _ _
    (put_element-eased namespace tag.name (adjust_attributes namespace tag.attrs) tag.had_duplicate_attributes own s is)
    (insert_element-eased namespace tag.name (adjust_attributes namespace tag.attrs) tag.had_duplicate_attributes
    own (λ n rules. (plain-foreign namespace tag.name foreign n rules).root) s is)

pub foreign_start_at-eased : (o : Option Open) (tag : Tag) → IfSome o (λ x. IsOwn x.namespace)
    → IfSome o (λ x. is_html x.namespace ≡ false) → EasesBy (foreign_start_at o tag)
foreign_start_at-eased None tag own foreign s is = eased-same s
foreign_start_at-eased (Some x) tag own foreign s is = enter_foreign-eased x.namespace
    (record tag { name = adjust_tag_name x.namespace tag.name }) own foreign s is

-- formatting elements

listed-eased : (tag : Tag) → is_among tag.name (names_of set.FormattingEnd) ≡ true
    → EasesBy (λ s. list_current tag (insert_element_for tag s))
listed-eased tag h s is =
    let made = insert_element-eased Html tag.name tag.attrs tag.had_duplicate_attributes tt (λ n rules. (plain-formatting tag h n rules).root) s is in
    record { names = made.names; rooted = made.rooted }

pub formatting-eased : (tag : Tag) → is_among tag.name (names_of set.FormattingEnd) ≡ true → EasesBy (create_formatting_element_for tag)
unfolding create_formatting_element_for insert_element
formatting-eased tag h s is =
    let made = insert_element-eased Html tag.name tag.attrs tag.had_duplicate_attributes tt (λ n rules. (plain-formatting tag h n rules).root) s is in
    record { names = made.names; rooted = made.rooted }

reopen-eased : (entries : List Entry) → are_formatting entries ≡ true → (s : State) → AreListed s.forest entries
    → Standing s → Eases s (reopen entries s)
reopen-eased [] h s l is = record { names = λ n name e. e; rooted = λ h. h }
reopen-eased (Marker ∷ entries) h s l is = record { names = λ n name e. e; rooted = λ h. h }
reopen-eased (Element n tag ∷ entries) h s l is =
    let parts = and_parts (is_among tag.name (names_of set.FormattingEnd)) (are_formatting entries) h in
    eased-either (is_open n s.open_elems) s _ _ (record { names = λ n name e. e; rooted = λ h. h })
    (eased-after s (reopen entries s) _ (reopen-eased entries parts.1 s l.1 is)
    (listed-eased tag parts.0 (reopen entries s) (reopen-Standing entries s l.1 is)))

pub reconstruct-eased : (s : State) → are_formatting s.active_formatting ≡ true → Standing s
    → Eases s (reconstruct_active_formatting_elements s)
unfolding reconstruct_active_formatting_elements
reconstruct-eased s h is = reopen-eased s.active_formatting h s is.listed is

-- text of tables

append_in_body-eased : (text : List ℕ) (s : State) → are_formatting s.active_formatting ≡ true → Standing s
    → Eases s (append_in_body text s)
unfolding frameset_not_ok_unless_white
append_in_body-eased text s h is =
    let made : State = reconstruct_active_formatting_elements s in
    let told = append_text-eased text (frameset_not_ok_unless_white text made) (relabel (reconstruct-Standing s is)) in
    eased-after s made (append_in_body text s) (reconstruct-eased s h is) (record { names = told.names; rooted = told.rooted })
  where
    relabel : Standing (reconstruct_active_formatting_elements s)
        → Standing (frameset_not_ok_unless_white text (reconstruct_active_formatting_elements s))
    relabel h = h

pub insert_table_text-eased : (text : List ℕ) (s : State) → are_formatting s.active_formatting ≡ true → Standing s
    → Eases s (insert_table_text text s)
unfolding set_foster_parenting parse_error
insert_table_text-eased text s h is =
    eased-either (is_white text) s (append_text text s) _ (append_text-eased text s is)
    (eased-after s (parse_error s) _ (parse_error-eased s is)
    (let made = append_in_body-eased text (set_foster_parenting true (parse_error s)) h
    (parse_error-Standing s is) in record { names = made.names; rooted = made.rooted }))
