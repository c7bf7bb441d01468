-- Actions under which an open `html` stays the root.
use Rattle.std.proofs.Common.{◌≡◌, true, false, [], ◌∷◌, refl, codes}
use Rattle.std.proofs.lemmas.Bool.{and_parts}
use Rattle.html_tokens.specs.declared.tags.Tag.{Tag}
use Rattle.html_tokens.specs.declared.token.Token.{Token}
use Rattle.html_tokens.specs.declared.token.Token.TheVariants.{TagToken}
use Rattle.html_rules.specs.Actions.{act, for_tag, forget_form_elem, frameset_not_ok, frameset_not_ok_unless_white}
use Rattle.html_rules.specs.Actions.{insert_form_void, keep_text, remove_form_elem, remove_head_elem, set_foster_parenting}
use Rattle.html_rules.specs.Actions.{set_form_elem, set_ignore_lf, insert_pending_text}
use Rattle.html_rules.specs.Conditions.{holds}
use Rattle.html_rules.specs.ForeignContent.{close_foreign, ends_foreign, ends_foreign_in, enter_foreign, foreign_end, pop_foreign}
use Rattle.html_rules.specs.Formatting.{clear_active_formatting_to_marker, create_formatting_element_for, push_marker}
use Rattle.html_rules.specs.Names.{Html, MathMl, Svg, Other}
use Rattle.html_rules.specs.Places.{insert_and_pop_element_for, insert_element_for}
use Rattle.html_rules.specs.State.{State, is_in, is_named}
use Rattle.html_rules.specs.Table.{Action, Nothing, Then, When, ParseError, InsertElement, InsertVoid, InsertVoidAs}
use Rattle.html_rules.specs.Table.{InsertFormVoid, InsertNew, InsertNewVoid, AppendText, AppendReplacement, AppendComment}
use Rattle.html_rules.specs.Table.{AppendCommentToDocument, AppendCommentToRoot, AddAttributesToRoot, AddAttributesToBody}
use Rattle.html_rules.specs.Table.{RemoveBody, Pop, PopUntil, ClearBackTo, Close, CloseToken, CloseP, CloseItem, ImpliedEndTags}
use Rattle.html_rules.specs.Table.{ImpliedEndTagsExcept, ImpliedEndTagsExceptToken, ImpliedEndTagsThoroughly, AnyOtherEndTag}
use Rattle.html_rules.specs.Table.{CheckBodyEnd, RemoveHeadElem, SetFormElem, ForgetFormElem, RemoveFormElem, Reconstruct}
use Rattle.html_rules.specs.Table.{InsertFormatting, InsertMarker, ClearToMarker, AdoptionAgency, AdoptNobr, CloseMisnestedA}
use Rattle.html_rules.specs.Table.{SetQuirks, FramesetNotOk, FramesetNotOkUnlessWhite, IgnoreLineFeed, EnableFosterParenting}
use Rattle.html_rules.specs.Table.{DisableFosterParenting, KeepText, InsertPendingText, EnterForeign, PopForeign, CloseForeign}
use Rattle.html_rules.specs.Tokens.{attributes_of, name_of, text_of}
use Rattle.html_rules.specs.declared.tag_set.TagSet.TheVariants as set
use Rattle.markup.specs.declared.quirks.QuirksMode.TheVariants.{Quirks}
use Rattle.html_rules_laws.specs.Ready.{are_formatting}
use Rattle.html_rules_laws.specs.Soundness.{Standing, is_plain_action}
use Rattle.html_rules_laws.proofs.TreePreserved.ActionsStanding.{actions-Standing}
use Rattle.html_rules_laws.proofs.Termination.Kinds.{Kind, is_of}
use Rattle.html_rules_laws.proofs.Soundness.Acts.{act-tame, formatting-of, plain-of, tame_in}
use Rattle.html_rules_laws.proofs.TreePreserved.StandingActions.{foreign_end-part}
use Rattle.html_rules_laws.proofs.Frames.Tame.{plain-name}
use Rattle.html_rules_laws.proofs.TreePreserved.Adoption.{agency-eased, misnested_a-eased}
use Rattle.html_rules_laws.proofs.TreePreserved.Eases.{Eases, eased-after, eased-either, eased-same}
use Rattle.html_rules_laws.proofs.TreePreserved.Steps.{EasesBy, append_comment-eased, append_comment_to_doc-eased}
use Rattle.html_rules_laws.proofs.TreePreserved.Steps.{append_comment_to_html-eased, append_text-eased, body_attributes-eased}
use Rattle.html_rules_laws.proofs.TreePreserved.Steps.{check-eased, close_by-eased, close_item-eased, close_p-eased}
use Rattle.html_rules_laws.proofs.TreePreserved.Steps.{enter_foreign-eased, except-eased, expect_to_close-eased}
use Rattle.html_rules_laws.proofs.TreePreserved.Steps.{formatting-eased, generic-eased, implied-eased, insert_element-eased}
use Rattle.html_rules_laws.proofs.TreePreserved.Steps.{parse_error-eased, pop_but_root-eased, pop_until-eased}
use Rattle.html_rules_laws.proofs.TreePreserved.Steps.{pop_until_current-eased, put_element-eased, quirks-eased}
use Rattle.html_rules_laws.proofs.TreePreserved.Steps.{reconstruct-eased, remove_body-eased, remove_from_stack_if-eased}
use Rattle.html_rules_laws.proofs.TreePreserved.Steps.{root_attributes-eased, insert_table_text-eased}
use Rattle.html_rules_laws.proofs.Bools.{no, not_true}

tag-eased : (step : Tag → State → State) (kind : Kind) (t : Token) → is_of kind t ≡ true
    → ((tag : Tag) → is_of kind (TagToken tag) ≡ true → EasesBy (step tag)) → EasesBy (for_tag step t)
tag-eased step kind (TagToken tag) f h s is = h tag f s is
tag-eased step kind t f h s is = eased-same s

void-eased : (tag : Tag) → EasesBy (insert_and_pop_element_for tag)
void-eased tag s is = put_element-eased Html tag.name tag.attrs tag.had_duplicate_attributes tt s is

form_void-eased : (tag : Tag) → EasesBy (insert_form_void tag)
form_void-eased tag s is = let made = void-eased tag s is in record { names = made.names; rooted = made.rooted }

pending-eased : (s : State) → are_formatting s.active_formatting ≡ true → Standing s → Eases s (insert_pending_text s)
unfolding insert_pending_text
pending-eased s l is = let told = insert_table_text-eased s.pending_table_text s l is in record { names = told.names; rooted = told.rooted }

pub act-eased : (kind : Kind) (a : Action) → tame_in kind a ≡ true → is_plain_action a ≡ true → (t : Token)
    → is_of kind t ≡ true → (s : State) → are_formatting s.active_formatting ≡ true → Standing s → Eases s (act a t s)
unfolding remove_head_elem remove_form_elem push_marker clear_active_formatting_to_marker frameset_not_ok
    frameset_not_ok_unless_white set_ignore_lf set_foster_parenting set_form_elem forget_form_elem keep_text
    pop_foreign close_foreign foreign_end
act-eased kind (Then a b) p q t f s l is =
    let parts = and_parts (tame_in kind a) (tame_in kind b) p in
    let plain = and_parts (is_plain_action a) (is_plain_action b) q in
    eased-after s (act a t s) (act b t (act a t s)) (act-eased kind a parts.0 plain.0 t f s l is)
    (act-eased kind b parts.1 plain.1 t f (act a t s) (act-tame kind a parts.0 t f s l).listed (actions-Standing.plain a plain.0 t s is))
act-eased kind (When c a) p q t f s l is = eased-either (holds c t s) s (act a t s) s (act-eased kind a p q t f s l is) (eased-same s)
act-eased kind Nothing p q t f s l is = eased-same s
act-eased kind ParseError p q t f s l is = parse_error-eased s is
act-eased kind InsertElement p q t f s l is = tag-eased insert_element_for kind t f
    (λ tag k. insert_element-eased Html tag.name tag.attrs tag.had_duplicate_attributes tt (λ n rules. (plain-of kind tag p k n rules).root)) s is
act-eased kind InsertVoid p q t f s l is = tag-eased insert_and_pop_element_for kind t f (λ tag k. void-eased tag) s is
act-eased kind (InsertVoidAs name) p q t f s l is =
    tag-eased (λ tag. insert_and_pop_element_for (record tag { name = name })) kind t f
    (λ tag k. void-eased (record tag { name = name })) s is
act-eased kind InsertFormVoid p q t f s l is = tag-eased insert_form_void kind t f (λ tag k. form_void-eased tag) s is
act-eased kind (InsertNew name) p q t f s l is = insert_element-eased Html name [] false tt
    (λ n rules. (plain-name name (not_true _ p) n rules).root) s is
act-eased kind (InsertNewVoid name) p q t f s l is = put_element-eased Html name [] false tt s is
act-eased kind AppendText p q t f s l is = append_text-eased (text_of t) s is
act-eased kind AppendReplacement p q t f s l is = append_text-eased (0xFFFD ∷ []) s is
act-eased kind AppendComment p q t f s l is = append_comment-eased (text_of t) s is
act-eased kind AppendCommentToDocument p q t f s l is = append_comment_to_doc-eased (text_of t) s is
act-eased kind AppendCommentToRoot p q t f s l is = append_comment_to_html-eased (text_of t) s is
act-eased kind AddAttributesToRoot p q t f s l is = root_attributes-eased (attributes_of t) s is
act-eased kind AddAttributesToBody p q t f s l is = body_attributes-eased (attributes_of t) s is
act-eased kind RemoveBody p q t f s l is = remove_body-eased s is
act-eased kind Pop p q t f s l is = pop_but_root-eased s is
act-eased kind (PopUntil names) p q t f s l is = pop_until-eased (is_in names) s is
act-eased kind (ClearBackTo names) p q t f s l is = pop_until_current-eased (is_in names) s is
act-eased kind (Close names) p q t f s l is = expect_to_close-eased (is_in names) s is
act-eased kind CloseToken p q t f s l is = expect_to_close-eased (is_named (name_of t)) s is
act-eased kind CloseP p q t f s l is = close_p-eased s is
act-eased kind (CloseItem names) p q t f s l is = close_item-eased names s is
act-eased kind ImpliedEndTags p q t f s l is = implied-eased set.CursoryImpliedEnd s is
act-eased kind (ImpliedEndTagsExcept names) p q t f s l is = except-eased (is_in names) s is
act-eased kind ImpliedEndTagsExceptToken p q t f s l is = except-eased (is_named (name_of t)) s is
act-eased kind ImpliedEndTagsThoroughly p q t f s l is = implied-eased set.ThoroughImpliedEnd s is
act-eased kind AnyOtherEndTag p q t f s l is = generic-eased (name_of t) s is
act-eased kind CheckBodyEnd p q t f s l is = check-eased s is
act-eased kind RemoveHeadElem p q t f s l is = remove_from_stack_if-eased s.head_elem s is
act-eased kind SetFormElem p q t f s l is = record { names = λ n name e. e; rooted = λ h. h }
act-eased kind ForgetFormElem p q t f s l is = record { names = λ n name e. e; rooted = λ h. h }
act-eased kind RemoveFormElem p q t f s l is = remove_from_stack_if-eased s.form_elem s is
act-eased kind Reconstruct p q t f s l is = reconstruct-eased s l is
act-eased kind InsertFormatting p q t f s l is = tag-eased create_formatting_element_for kind t f
    (λ tag k. formatting-eased tag (formatting-of kind tag p k)) s is
act-eased kind InsertMarker p q t f s l is = record { names = λ n name e. e; rooted = λ h. h }
act-eased kind ClearToMarker p q t f s l is = record { names = λ n name e. e; rooted = λ h. h }
act-eased kind AdoptionAgency p q t f s l is = agency-eased (name_of t) s l is
act-eased kind AdoptNobr p q t f s l is = agency-eased (codes "nobr") s l is
act-eased kind CloseMisnestedA p q t f s l is = misnested_a-eased s l is
act-eased kind SetQuirks p q t f s l is = quirks-eased Quirks s is
act-eased kind FramesetNotOk p q t f s l is = record { names = λ n name e. e; rooted = λ h. h }
act-eased kind FramesetNotOkUnlessWhite p q t f s l is = record { names = λ n name e. e; rooted = λ h. h }
act-eased kind IgnoreLineFeed p q t f s l is = record { names = λ n name e. e; rooted = λ h. h }
act-eased kind EnableFosterParenting p q t f s l is = record { names = λ n name e. e; rooted = λ h. h }
act-eased kind DisableFosterParenting p q t f s l is = record { names = λ n name e. e; rooted = λ h. h }
act-eased kind KeepText p q t f s l is = record { names = λ n name e. e; rooted = λ h. h }
act-eased kind InsertPendingText p q t f s l is = pending-eased s l is
act-eased kind (EnterForeign Html) p q t f s l is = no p
act-eased kind (EnterForeign MathMl) p q t f s l is = tag-eased (enter_foreign MathMl) kind t f
    (λ tag k. enter_foreign-eased MathMl tag tt refl) s is
act-eased kind (EnterForeign Svg) p q t f s l is = tag-eased (enter_foreign Svg) kind t f
    (λ tag k. enter_foreign-eased Svg tag tt refl) s is
act-eased kind (EnterForeign (Other uri)) p q t f s l is = no q
act-eased kind PopForeign p q t f s l is = pop_until_current-eased (ends_foreign_in s) s is
act-eased kind CloseForeign p q t f s l is = close_by-eased (foreign_end (name_of t) s) s
    (foreign_end-part true (name_of t) s.open_elems) is
act-eased kind a p q t f s l is = no p
