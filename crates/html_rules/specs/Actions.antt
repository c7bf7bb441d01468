-- What the actions of rows do.
use Rattle.std.specs.Prelude.{ℕ, Bool, true, false, ◌&&◌, List, [], ◌∷◌, ◌++◌, Option, Some, None, codes}
use Rattle.markup.specs.Forest.{node_count, set_quirks}
use Rattle.markup.specs.declared.quirks.QuirksMode.{QuirksMode}
use Rattle.markup.specs.declared.quirks.QuirksMode.TheVariants.{Quirks}
use Rattle.html_tokens.specs.declared.tags.Tag.{Tag}
use Rattle.html_tokens.specs.declared.token.Token.{Token}
use Rattle.html_tokens.specs.declared.token.Token.TheVariants.{TagToken}
use Rattle.html_rules.specs.Adoption.{adoption_agency, handle_misnested_a_tags}
use Rattle.html_rules.specs.Choice.{choose}
use Rattle.html_rules.specs.Conditions.{holds}
use Rattle.html_rules.specs.ForeignContent.{close_foreign, enter_foreign, foreign_start, pop_foreign}
use Rattle.html_rules.specs.Formatting.{clear_active_formatting_to_marker, create_formatting_element_for, push_marker}
use Rattle.html_rules.specs.Formatting.{reconstruct_active_formatting_elements}
use Rattle.html_rules.specs.Names.{Html}
use Rattle.html_rules.specs.Places.{append_comment, append_comment_to_doc, append_comment_to_html, append_text, create_root}
use Rattle.html_rules.specs.Places.{insert_and_pop_element_for, insert_element_for, insert_phantom, put_element}
use Rattle.html_rules.specs.Reset.{reset_insertion_mode}
use Rattle.html_rules.specs.Stack.{add_attributes_to_body, add_attributes_to_root, check_body_end, close_item}
use Rattle.html_rules.specs.Stack.{close_p_element_in_button_scope, expect_to_close, generate_implied_end_except}
use Rattle.html_rules.specs.Stack.{generate_implied_end_tags, parse_error, pop_but_root, pop_until, pop_until_current}
use Rattle.html_rules.specs.Stack.{process_end_tag_in_body, remove_body, remove_from_stack}
use Rattle.html_rules.specs.State.{State, current_number, is_in, is_named}
use Rattle.html_rules.specs.Table.{Action, Nothing, Then, When, ParseError, InsertElement, InsertVoid, InsertVoidAs}
use Rattle.html_rules.specs.Table.{InsertFormVoid, InsertNew, InsertNewVoid, CreateRoot, CreateNewRoot, AppendText}
use Rattle.html_rules.specs.Table.{AppendReplacement, AppendComment, AppendCommentToDocument, AppendCommentToRoot}
use Rattle.html_rules.specs.Table.{InsertTemplate, AddAttributesToRoot, AddAttributesToBody, RemoveBody, Pop, PopUntil}
use Rattle.html_rules.specs.Table.{ClearBackTo, Close, CloseToken, CloseP, CloseItem, ImpliedEndTags, ImpliedEndTagsExcept}
use Rattle.html_rules.specs.Table.{ImpliedEndTagsExceptToken, ImpliedEndTagsThoroughly, AnyOtherEndTag, CheckBodyEnd}
use Rattle.html_rules.specs.Table.{SetHeadElem, PushHeadElem, RemoveHeadElem, SetFormElem, ForgetFormElem, RemoveFormElem}
use Rattle.html_rules.specs.Table.{Reconstruct, InsertFormatting, InsertMarker, ClearToMarker, AdoptionAgency, AdoptNobr}
use Rattle.html_rules.specs.Table.{CloseMisnestedA, SwitchTo, SaveMode, RestoreMode, ResetMode, PushTemplateMode}
use Rattle.html_rules.specs.Table.{SetTemplateMode, PopTemplateMode, SetQuirks, FramesetNotOk, FramesetNotOkUnlessWhite}
use Rattle.html_rules.specs.Table.{IgnoreLineFeed, EnableFosterParenting, DisableFosterParenting, KeepText, InsertPendingText}
use Rattle.html_rules.specs.Table.{EnterForeign, InsertForeign, PopForeign, CloseForeign}
use Rattle.html_rules.specs.Templates.{insert_template}
use Rattle.html_rules.specs.Tokens.{attributes_of, is_white, name_of, text_of}
use Rattle.html_rules.specs.declared.insertion_mode.InsertionMode.{InsertionMode}
use Rattle.html_rules.specs.declared.tag_set.TagSet.TheVariants as set

-- modes

unfoldable pub set_mode : InsertionMode → State → State
set_mode mode s = record s { mode = mode }

-- the present mode becomes the original one
unfoldable pub save_mode : State → State
save_mode s = record s { orig_mode = Some s.mode }

abbrev pub or_mode : Option InsertionMode → InsertionMode → InsertionMode
or_mode None mode = mode
or_mode (Some original) mode = original

-- the original mode becomes the present one, and there is no original mode then
unfoldable pub restore_mode : State → State
restore_mode s = record s { mode = or_mode s.orig_mode s.mode; orig_mode = None }

abbrev pub without_first : {A : Type 0} → List A → List A
without_first [] = []
without_first (x ∷ xs) = xs

unfoldable pub push_template_mode : InsertionMode → State → State
push_template_mode mode s = record s { template_modes = mode ∷ s.template_modes }

unfoldable pub pop_template_mode : State → State
pop_template_mode s = record s { template_modes = without_first s.template_modes }

unfoldable pub set_template_mode : InsertionMode → State → State
set_template_mode mode s = record s { template_modes = mode ∷ without_first s.template_modes }

unfoldable pub set_quirks_mode : QuirksMode → State → State
set_quirks_mode mode s = record s { quirks_mode = mode; forest = set_quirks s.forest mode }

-- flags

unfoldable pub frameset_not_ok : State → State
frameset_not_ok s = record s { frameset_ok = false }

unfoldable pub frameset_not_ok_unless_white : List ℕ → State → State
frameset_not_ok_unless_white text s = record s { frameset_ok = s.frameset_ok && is_white text }

unfoldable pub set_ignore_lf : Bool → State → State
set_ignore_lf ignore_lf s = record s { ignore_lf = ignore_lf }

unfoldable pub set_foster_parenting : Bool → State → State
set_foster_parenting foster_parenting s = record s { foster_parenting = foster_parenting }

-- the pointers to the head and to a form

unfoldable pub set_head_elem : State → State
set_head_elem s = record s { head_elem = Some (current_number s.open_elems) }

abbrev pub push_head : Option ℕ → State → State
push_head None s = s
push_head (Some n) s = record s { open_elems = record { number = n; namespace = Html; name = codes "head"; rules = s.opts.rules } ∷ s.open_elems }

unfoldable pub push_head_elem : State → State
push_head_elem s = push_head s.head_elem s

abbrev pub remove_from_stack_if : Option ℕ → State → State
remove_from_stack_if None s = s
remove_from_stack_if (Some n) s = remove_from_stack n s

unfoldable pub remove_head_elem : State → State
remove_head_elem s = remove_from_stack_if s.head_elem s

unfoldable pub set_form_elem : State → State
set_form_elem s = record s { form_elem = Some (current_number s.open_elems) }

unfoldable pub forget_form_elem : State → State
forget_form_elem s = record s { form_elem = None }

unfoldable pub remove_form_elem : State → State
remove_form_elem s = remove_from_stack_if s.form_elem s

-- text in tables

unfoldable pub keep_text : List ℕ → State → State
keep_text text s = record s { pending_table_text = s.pending_table_text ++ text }

-- characters, by the rules for a body
abbrev pub append_in_body : List ℕ → State → State
append_in_body text s = append_text text (frameset_not_ok_unless_white text (reconstruct_active_formatting_elements s))

abbrev pub insert_table_text : List ℕ → State → State
insert_table_text text s =
    choose (is_white text)
    (λ _. append_text text s)
    (λ _. set_foster_parenting false (append_in_body text (set_foster_parenting true (parse_error s))))

abbrev pub without_pending_text : State → State
without_pending_text s = record s { pending_table_text = [] }

-- the pending table characters go where the table's text goes: white space is appended, any other text is fostered
unfoldable pub insert_pending_text : State → State
insert_pending_text s = without_pending_text (insert_table_text s.pending_table_text s)

-- for a tag

abbrev pub for_tag : (Tag → State → State) → Token → State → State
for_tag step (TagToken tag) s = step tag s
for_tag step _ s = s

abbrev pub insert_form_void : Tag → State → State
insert_form_void tag s = record (insert_and_pop_element_for tag s) { form_elem = Some (node_count s.forest) }

-- one action
abbrev pub act : Action → Token → State → State
act Nothing t s = s
act (Then a b) t s = act b t (act a t s)
act (When c a) t s = choose (holds c t s) (λ _. act a t s) (λ _. s)
act ParseError t s = parse_error s
act InsertElement t s = for_tag insert_element_for t s
act InsertVoid t s = for_tag insert_and_pop_element_for t s
act (InsertVoidAs name) t s = for_tag (λ tag. insert_and_pop_element_for (record tag { name = name })) t s
act InsertFormVoid t s = for_tag insert_form_void t s
act (InsertNew name) t s = insert_phantom name s
act (InsertNewVoid name) t s = put_element Html name [] false s
act CreateRoot t s = create_root (attributes_of t) s
act CreateNewRoot t s = create_root [] s
act AppendText t s = append_text (text_of t) s
act AppendReplacement t s = append_text (0xFFFD ∷ []) s
act AppendComment t s = append_comment (text_of t) s
act AppendCommentToDocument t s = append_comment_to_doc (text_of t) s
act AppendCommentToRoot t s = append_comment_to_html (text_of t) s
act InsertTemplate t s = for_tag insert_template t s
act AddAttributesToRoot t s = add_attributes_to_root (attributes_of t) s
act AddAttributesToBody t s = add_attributes_to_body (attributes_of t) s
act RemoveBody t s = remove_body s
act Pop t s = pop_but_root s
act (PopUntil set) t s = pop_until (is_in set) s
act (ClearBackTo set) t s = pop_until_current (is_in set) s
act (Close set) t s = expect_to_close (is_in set) s
act CloseToken t s = expect_to_close (is_named (name_of t)) s
act CloseP t s = close_p_element_in_button_scope s
act (CloseItem set) t s = close_item set s
act ImpliedEndTags t s = generate_implied_end_tags set.CursoryImpliedEnd s
act (ImpliedEndTagsExcept set) t s = generate_implied_end_except (is_in set) s
act ImpliedEndTagsExceptToken t s = generate_implied_end_except (is_named (name_of t)) s
act ImpliedEndTagsThoroughly t s = generate_implied_end_tags set.ThoroughImpliedEnd s
act AnyOtherEndTag t s = process_end_tag_in_body (name_of t) s
act CheckBodyEnd t s = check_body_end s
act SetHeadElem t s = set_head_elem s
act PushHeadElem t s = push_head_elem s
act RemoveHeadElem t s = remove_head_elem s
act SetFormElem t s = set_form_elem s
act RemoveFormElem t s = remove_form_elem s
act ForgetFormElem t s = forget_form_elem s
act Reconstruct t s = reconstruct_active_formatting_elements s
act InsertFormatting t s = for_tag create_formatting_element_for t s
act InsertMarker t s = push_marker s
act ClearToMarker t s = clear_active_formatting_to_marker s
act AdoptionAgency t s = adoption_agency (name_of t) s
act AdoptNobr t s = adoption_agency (codes "nobr") s
act CloseMisnestedA t s = handle_misnested_a_tags s
act (SwitchTo mode) t s = set_mode mode s
act SaveMode t s = save_mode s
act RestoreMode t s = restore_mode s
act ResetMode t s = reset_insertion_mode s
act (PushTemplateMode mode) t s = push_template_mode mode s
act (SetTemplateMode mode) t s = set_template_mode mode s
act PopTemplateMode t s = pop_template_mode s
act SetQuirks t s = set_quirks_mode Quirks s
act FramesetNotOk t s = frameset_not_ok s
act FramesetNotOkUnlessWhite t s = frameset_not_ok_unless_white (text_of t) s
act IgnoreLineFeed t s = set_ignore_lf true s
act EnableFosterParenting t s = set_foster_parenting true s
act DisableFosterParenting t s = set_foster_parenting false s
act KeepText t s = keep_text (text_of t) s
act InsertPendingText t s = insert_pending_text s
act (EnterForeign namespace) t s = for_tag (enter_foreign namespace) t s
act InsertForeign t s = for_tag foreign_start t s
act PopForeign t s = pop_foreign s
act CloseForeign t s = close_foreign (name_of t) s
