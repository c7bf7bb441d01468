-- Actions keep the open elements standing.
use Rattle.std.proofs.Common.{◌≡◌, ℕ, true, false, [], ◌∷◌, Some, sym, subst, true≢false, codes}
use Rattle.markup.specs.Forest.{data_of, element_name}
use Rattle.std.proofs.lemmas.Bool.{and_parts}
use Rattle.markup.specs.declared.quirks.QuirksMode.TheVariants.{Quirks}
use Rattle.html_tokens.specs.declared.tags.Tag.{Tag}
use Rattle.html_tokens.specs.declared.token.Token.{Token}
use Rattle.html_tokens.specs.declared.token.Token.TheVariants.{TagToken}
use Rattle.html_rules.specs.Actions.{act, push_head, push_head_elem, restore_mode, for_tag, forget_form_elem, frameset_not_ok}
use Rattle.html_rules.specs.Actions.{frameset_not_ok_unless_white, insert_form_void, save_mode, keep_text, pop_template_mode}
use Rattle.html_rules.specs.Actions.{push_template_mode, remove_form_elem, remove_head_elem, set_form_elem}
use Rattle.html_rules.specs.Actions.{set_foster_parenting, set_head_elem, set_ignore_lf, set_mode, set_template_mode}
use Rattle.html_rules.specs.Conditions.{holds}
use Rattle.html_rules.specs.ForeignContent.{enter_foreign}
use Rattle.html_rules.specs.Formatting.{create_formatting_element_for}
use Rattle.html_rules.specs.Names.{element_name_of, Html, MathMl, Svg, Other}
use Rattle.html_rules.specs.Places.{insert_and_pop_element_for, insert_element_for}
use Rattle.html_rules.specs.Reset.{reset_insertion_mode}
use Rattle.html_rules.specs.State.{State, is_in, is_named}
use Rattle.html_rules.specs.Table.{Action, Nothing, Then, When, ParseError, InsertElement, InsertVoid, InsertVoidAs}
use Rattle.html_rules.specs.Table.{InsertFormVoid, InsertNew, InsertNewVoid, CreateRoot, CreateNewRoot, AppendText}
use Rattle.html_rules.specs.Table.{AppendReplacement, AppendComment, AppendCommentToDocument, AppendCommentToRoot}
use Rattle.html_rules.specs.Table.{InsertTemplate, AddAttributesToRoot, AddAttributesToBody, RemoveBody, Pop, PopUntil}
use Rattle.html_rules.specs.Table.{ClearBackTo, Close, CloseToken, CloseP, CloseItem, ImpliedEndTags, ImpliedEndTagsExcept}
use Rattle.html_rules.specs.Table.{ImpliedEndTagsExceptToken, ImpliedEndTagsThoroughly, AnyOtherEndTag, CheckBodyEnd}
use Rattle.html_rules.specs.Table.{SetHeadElem, PushHeadElem, RemoveHeadElem, SetFormElem, ForgetFormElem, RemoveFormElem}
use Rattle.html_rules.specs.Table.{Reconstruct, InsertFormatting, InsertMarker, ClearToMarker, AdoptionAgency, AdoptNobr}
use Rattle.html_rules.specs.Table.{CloseMisnestedA, SwitchTo, SaveMode, RestoreMode, ResetMode, PushTemplateMode}
use Rattle.html_rules.specs.Table.{SetTemplateMode, PopTemplateMode, SetQuirks, FramesetNotOk, FramesetNotOkUnlessWhite}
use Rattle.html_rules.specs.Table.{IgnoreLineFeed, EnableFosterParenting, DisableFosterParenting, KeepText, InsertPendingText}
use Rattle.html_rules.specs.Table.{EnterForeign, InsertForeign, PopForeign, CloseForeign}
use Rattle.html_rules.specs.Templates.{insert_template}
use Rattle.html_rules.specs.Tokens.{attributes_of, name_of, text_of}
use Rattle.html_rules.specs.declared.tag_set.TagSet.TheVariants as set
use Rattle.html_rules_laws.specs.Soundness.{AreActionsStanding, IsClear, Standing, is_plain_action}
use Rattle.html_rules_laws.proofs.TreePreserved.AdoptionAgency.{agency-Standing, misnested_a-Standing}
use Rattle.html_rules_laws.proofs.TreePreserved.StandingActions.{body_attributes-Standing, close_foreign-Standing}
use Rattle.html_rules_laws.proofs.TreePreserved.StandingActions.{enter_foreign-Standing, foreign_start-Standing}
use Rattle.html_rules_laws.proofs.TreePreserved.StandingActions.{insert_template-Standing, pop_foreign-Standing}
use Rattle.html_rules_laws.proofs.TreePreserved.StandingActions.{push_head-Standing, quirks-Standing, remove_body-Standing}
use Rattle.html_rules_laws.proofs.TreePreserved.StandingActions.{remove_from_stack_if-Standing, root_attributes-Standing}
use Rattle.html_rules_laws.proofs.TreePreserved.StandingActions.{tell_pending-Standing}
use Rattle.html_rules_laws.proofs.TreePreserved.StandingSteps.{Keeps, append_comment-Standing, append_comment_to_doc-Standing}
use Rattle.html_rules_laws.proofs.TreePreserved.StandingSteps.{append_comment_to_html-Standing, append_text-Standing}
use Rattle.html_rules_laws.proofs.TreePreserved.StandingSteps.{check_body_end-Standing, choose-Standing, clear-Standing}
use Rattle.html_rules_laws.proofs.TreePreserved.StandingSteps.{close_item-Standing, close_p-Standing, create_root-Standing}
use Rattle.html_rules_laws.proofs.TreePreserved.StandingSteps.{except-Standing, expect_to_close-Standing, formatting-Standing}
use Rattle.html_rules_laws.proofs.TreePreserved.StandingSteps.{generic-Standing, implied-Standing, insert_element-Standing}
use Rattle.html_rules_laws.proofs.TreePreserved.StandingSteps.{insert_element_for-Standing, marker-Standing}
use Rattle.html_rules_laws.proofs.TreePreserved.StandingSteps.{parse_error-Standing, pop_but_root-Standing, pop_until-Standing}
use Rattle.html_rules_laws.proofs.TreePreserved.StandingSteps.{pop_until_current-Standing, put_element-Standing}
use Rattle.html_rules_laws.proofs.TreePreserved.StandingSteps.{reconstruct-Standing}

for_tag-Standing : (step : Tag → State → State) (t : Token) → ((tag : Tag) → Keeps (step tag)) → Keeps (for_tag step t)
for_tag-Standing step (TagToken tag) keeps s is = keeps tag s is
for_tag-Standing step _ keeps s is = is

void-Standing : (tag : Tag) → Keeps (insert_and_pop_element_for tag)
void-Standing tag s is = put_element-Standing Html tag.name tag.attrs tag.had_duplicate_attributes tt s is

form_void-Standing : (tag : Tag) → Keeps (insert_form_void tag)
form_void-Standing tag s is = void-Standing tag s is

act-Standing : (a : Action) → is_plain_action a ≡ true → (t : Token) (s : State) → Standing s → Standing (act a t s)
unfolding set_mode save_mode restore_mode push_template_mode pop_template_mode set_template_mode frameset_not_ok
    frameset_not_ok_unless_white set_ignore_lf set_foster_parenting set_head_elem remove_head_elem set_form_elem
    forget_form_elem remove_form_elem keep_text reset_insertion_mode
act-Standing Nothing p t s is = is
act-Standing (Then a b) p t s is = let parts = and_parts (is_plain_action a) (is_plain_action b) p in
    act-Standing b parts.1 t (act a t s) (act-Standing a parts.0 t s is)
act-Standing (When c a) p t s is = choose-Standing (holds c t s) (act a t s) s (act-Standing a p t s is) is
act-Standing ParseError p t s is = parse_error-Standing s is
act-Standing InsertElement p t s is = for_tag-Standing insert_element_for t insert_element_for-Standing s is
act-Standing InsertVoid p t s is = for_tag-Standing insert_and_pop_element_for t void-Standing s is
act-Standing (InsertVoidAs name) p t s is = for_tag-Standing
    (λ tag. insert_and_pop_element_for (record tag { name = name })) t (λ tag. void-Standing (record tag { name = name })) s is
act-Standing InsertFormVoid p t s is = for_tag-Standing insert_form_void t form_void-Standing s is
act-Standing (InsertNew name) p t s is = insert_element-Standing Html name [] false tt s is
act-Standing (InsertNewVoid name) p t s is = put_element-Standing Html name [] false tt s is
act-Standing CreateRoot p t s is = create_root-Standing (attributes_of t) s is
act-Standing CreateNewRoot p t s is = create_root-Standing [] s is
act-Standing AppendText p t s is = append_text-Standing (text_of t) s is
act-Standing AppendReplacement p t s is = append_text-Standing (0xFFFD ∷ []) s is
act-Standing AppendComment p t s is = append_comment-Standing (text_of t) s is
act-Standing AppendCommentToDocument p t s is = append_comment_to_doc-Standing (text_of t) s is
act-Standing AppendCommentToRoot p t s is = append_comment_to_html-Standing (text_of t) s is
act-Standing InsertTemplate p t s is = for_tag-Standing insert_template t insert_template-Standing s is
act-Standing AddAttributesToRoot p t s is = root_attributes-Standing (attributes_of t) s is
act-Standing AddAttributesToBody p t s is = body_attributes-Standing (attributes_of t) s is
act-Standing RemoveBody p t s is = remove_body-Standing s is
act-Standing Pop p t s is = pop_but_root-Standing s is
act-Standing (PopUntil names) p t s is = pop_until-Standing (is_in names) s is
act-Standing (ClearBackTo names) p t s is = pop_until_current-Standing (is_in names) s is
act-Standing (Close names) p t s is = expect_to_close-Standing (is_in names) s is
act-Standing CloseToken p t s is = expect_to_close-Standing (is_named (name_of t)) s is
act-Standing CloseP p t s is = close_p-Standing s is
act-Standing (CloseItem names) p t s is = close_item-Standing names s is
act-Standing ImpliedEndTags p t s is = implied-Standing set.CursoryImpliedEnd s is
act-Standing (ImpliedEndTagsExcept names) p t s is = except-Standing (is_in names) s is
act-Standing ImpliedEndTagsExceptToken p t s is = except-Standing (is_named (name_of t)) s is
act-Standing ImpliedEndTagsThoroughly p t s is = implied-Standing set.ThoroughImpliedEnd s is
act-Standing AnyOtherEndTag p t s is = generic-Standing (name_of t) s is
act-Standing CheckBodyEnd p t s is = check_body_end-Standing s is
act-Standing SetHeadElem p t s is = is
act-Standing PushHeadElem p t s is = absurd (true≢false (sym p))
act-Standing RemoveHeadElem p t s is = remove_from_stack_if-Standing s.head_elem s is
act-Standing SetFormElem p t s is = is
act-Standing RemoveFormElem p t s is = remove_from_stack_if-Standing s.form_elem s is
act-Standing ForgetFormElem p t s is = is
act-Standing Reconstruct p t s is = reconstruct-Standing s is
act-Standing InsertFormatting p t s is = for_tag-Standing create_formatting_element_for t formatting-Standing s is
act-Standing InsertMarker p t s is = marker-Standing s is
act-Standing ClearToMarker p t s is = clear-Standing s is
act-Standing AdoptionAgency p t s is = agency-Standing (name_of t) s is
act-Standing AdoptNobr p t s is = agency-Standing (codes "nobr") s is
act-Standing CloseMisnestedA p t s is = misnested_a-Standing s is
act-Standing (SwitchTo mode) p t s is = is
act-Standing SaveMode p t s is = is
act-Standing RestoreMode p t s is = is
act-Standing ResetMode p t s is = is
act-Standing (PushTemplateMode mode) p t s is = is
act-Standing (SetTemplateMode mode) p t s is = is
act-Standing PopTemplateMode p t s is = is
act-Standing SetQuirks p t s is = quirks-Standing Quirks s is
act-Standing FramesetNotOk p t s is = is
act-Standing FramesetNotOkUnlessWhite p t s is = is
act-Standing IgnoreLineFeed p t s is = is
act-Standing EnableFosterParenting p t s is = is
act-Standing DisableFosterParenting p t s is = is
act-Standing KeepText p t s is = is
act-Standing InsertPendingText p t s is = tell_pending-Standing s is
act-Standing (EnterForeign Html) p t s is = for_tag-Standing (enter_foreign Html) t (λ tag s. enter_foreign-Standing Html tag tt s) s is
act-Standing (EnterForeign MathMl) p t s is = for_tag-Standing (enter_foreign MathMl) t
    (λ tag s. enter_foreign-Standing MathMl tag tt s) s is
act-Standing (EnterForeign Svg) p t s is = for_tag-Standing (enter_foreign Svg) t (λ tag s. enter_foreign-Standing Svg tag tt s) s is
act-Standing (EnterForeign (Other uri)) p t s is = absurd (true≢false (sym p))
act-Standing InsertForeign p t s is = absurd (true≢false (sym p))
act-Standing PopForeign p t s is = pop_foreign-Standing s is
act-Standing CloseForeign p t s is = close_foreign-Standing (name_of t) s is

head-Standing : (n : ℕ) (s : State) → s.head_elem ≡ Some n → element_name (data_of s.forest n) ≡ Some
    (element_name_of Html (codes "head")) → IsClear s.forest n s.open_elems → Standing s → Standing (push_head_elem s)
unfolding push_head_elem
head-Standing n s e named clear is = subst (λ o. Standing (push_head o s)) (sym e) (push_head-Standing s n is named clear)

pub actions-Standing : AreActionsStanding
actions-Standing = record {
  plain = act-Standing;
  foreign = λ tag s own is. foreign_start-Standing tag s own is;
  head = head-Standing;
}
