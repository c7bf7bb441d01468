-- No condition looks at the number of errors, and each action only counts it on.
use Rattle.std.proofs.Common.{◌≡◌, ◌∙◌, ℕ, Bool, true, false, List, [], ◌∷◌, Option, Some, None, refl, ap, codes}
use Rattle.std.specs.Prelude.{not, ◌&&◌}
use Rattle.markup.specs.Forest.{node_count}
use Rattle.markup.specs.TreeLaws.{with_errors}
use Rattle.markup.specs.declared.quirks.QuirksMode.{QuirksMode}
use Rattle.markup.specs.declared.quirks.QuirksMode.TheVariants.{Quirks}
use Rattle.html_tokens.specs.declared.tags.Tag.{Tag}
use Rattle.html_tokens.specs.declared.token.Token.{Token}
use Rattle.html_tokens.specs.declared.token.Token.TheVariants.{DoctypeToken, TagToken, CommentToken, CharacterTokens}
use Rattle.html_tokens.specs.declared.token.Token.TheVariants.{NullCharacterToken, EOFToken, ParseError as ErrorToken}
use Rattle.html_rules.specs.Actions.{act, append_in_body, restore_mode, for_tag, forget_form_elem, frameset_not_ok}
use Rattle.html_rules.specs.Actions.{frameset_not_ok_unless_white, insert_form_void, save_mode, keep_text, pop_template_mode}
use Rattle.html_rules.specs.Actions.{push_head, push_head_elem, push_template_mode, remove_form_elem, remove_from_stack_if}
use Rattle.html_rules.specs.Actions.{remove_head_elem, set_form_elem, set_foster_parenting, set_head_elem, set_ignore_lf}
use Rattle.html_rules.specs.Actions.{set_mode, set_quirks_mode, set_template_mode, insert_pending_text, insert_table_text}
use Rattle.html_rules.specs.Actions.{without_pending_text}
use Rattle.html_rules.specs.Choice.{choose}
use Rattle.html_rules.specs.Conditions.{holds}
use Rattle.html_rules.specs.ForeignContent.{ForeignEnd, Dropped, AsInMode, Closed, close_foreign, close_foreign_by}
use Rattle.html_rules.specs.ForeignContent.{enter_foreign, foreign_end, foreign_start, foreign_start_at, is_foreign}
use Rattle.html_rules.specs.ForeignContent.{is_foreign_at, pop_foreign}
use Rattle.html_rules.specs.Formatting.{create_formatting_element_for, reconstruct_active_formatting_elements}
use Rattle.html_rules.specs.Names.{Namespace, Html}
use Rattle.html_rules.specs.Places.{append_text, insert_and_pop_element_for, insert_element, insert_element_for, open_element, put_element}
use Rattle.html_rules.specs.Renames.{adjust_attributes, adjust_tag_name}
use Rattle.html_rules.specs.Reset.{mode_of, mode_of_context, mode_of_open, reset_insertion_mode}
use Rattle.html_rules.specs.Stack.{parse_error, pop, pop_until_current}
use Rattle.html_rules.specs.State.{Open, State, adjusted_current_node, current_number, is_in, is_named}
use Rattle.html_rules.specs.Table.{Action, Nothing, Then, When, ParseError, InsertElement, InsertVoid, InsertVoidAs, ByStandard}
use Rattle.html_rules.specs.Table.{InsertFormVoid, InsertNew, InsertNewVoid, CreateRoot, CreateNewRoot, AppendText}
use Rattle.html_rules.specs.Table.{AppendReplacement, AppendComment, AppendCommentToDocument, AppendCommentToRoot}
use Rattle.html_rules.specs.Table.{InsertTemplate, AddAttributesToRoot, AddAttributesToBody, RemoveBody, Pop, PopUntil}
use Rattle.html_rules.specs.Table.{ClearBackTo, Close, CloseToken, CloseP, CloseItem, ImpliedEndTags, ImpliedEndTagsExcept}
use Rattle.html_rules.specs.Table.{ImpliedEndTagsExceptToken, ImpliedEndTagsThoroughly, AnyOtherEndTag, CheckBodyEnd}
use Rattle.html_rules.specs.Table.{SetHeadElem, PushHeadElem, RemoveHeadElem, SetFormElem, ForgetFormElem, RemoveFormElem}
use Rattle.html_rules.specs.Table.{Reconstruct, InsertFormatting, InsertMarker, ClearToMarker, AdoptionAgency, AdoptNobr}
use Rattle.html_rules.specs.Table.{CloseMisnestedA, SwitchTo, SaveMode, RestoreMode, ResetMode, PushTemplateMode}
use Rattle.html_rules.specs.Table.{SetTemplateMode, PopTemplateMode, SetQuirks, FramesetNotOk, FramesetNotOkUnlessWhite}
use Rattle.html_rules.specs.Table.{IgnoreLineFeed, EnableFosterParenting, DisableFosterParenting, KeepText, InsertPendingText}
use Rattle.html_rules.specs.Table.{EnterForeign, InsertForeign, PopForeign, CloseForeign, Condition, Always, Not, Both}
use Rattle.html_rules.specs.Table.{ScriptingEnabled, IframeSrcdoc, InFragment, ContextIs, InQuirksMode, FramesetOk, CurrentIs}
use Rattle.html_rules.specs.Table.{CurrentIsToken, RootAlone, SecondIsBody, TemplateOpen, HasTemplateModes, InScope}
use Rattle.html_rules.specs.Table.{TokenInScope, HasFormElem, FormElemInScope, FormElemIsCurrent, AListed, TypeHidden}
use Rattle.html_rules.specs.Table.{FontAttributes, EndsInHtml, ForeignEndError}
use Rattle.html_rules.specs.Templates.{attach_shadow_root, insert_template, may_be_shadow_root, number_of}
use Rattle.html_rules.specs.Tokens.{attributes_of, is_white, name_of, text_of}
use Rattle.html_rules.specs.declared.insertion_mode.InsertionMode.{InsertionMode}
use Rattle.html_rules.specs.declared.insertion_mode.InsertionMode.TheVariants.{InCell, InHead}
use Rattle.html_rules.specs.declared.tag_set.TagSet.TheVariants as set
use Rattle.html_rules_laws.specs.Errors.{Commutes, louder}
use Rattle.html_rules_laws.proofs.ErrorsMonotone.LouderAdoption.{adoption_agency-louder, misnested-louder}
use Rattle.html_rules_laws.proofs.ErrorsMonotone.LouderSteps.{IsLoud, add_attributes_to_body-louder}
use Rattle.html_rules_laws.proofs.ErrorsMonotone.LouderSteps.{add_attributes_to_root-louder, append_comment-louder}
use Rattle.html_rules_laws.proofs.ErrorsMonotone.LouderSteps.{append_comment_to_doc-louder, append_comment_to_html-louder}
use Rattle.html_rules_laws.proofs.ErrorsMonotone.LouderSteps.{append_text-louder, check_body_end-louder, choose-louder}
use Rattle.html_rules_laws.proofs.ErrorsMonotone.LouderSteps.{clear-louder, close_item-louder, close_p-louder}
use Rattle.html_rules_laws.proofs.ErrorsMonotone.LouderSteps.{create_formatting_element_for-louder, create_root-louder}
use Rattle.html_rules_laws.proofs.ErrorsMonotone.LouderSteps.{expect_to_close-louder, generate_implied_end_except-louder}
use Rattle.html_rules_laws.proofs.ErrorsMonotone.LouderSteps.{generate_implied_end_tags-louder, insert_element-louder}
use Rattle.html_rules_laws.proofs.ErrorsMonotone.LouderSteps.{insert_element_for-louder, open_element-louder}
use Rattle.html_rules_laws.proofs.ErrorsMonotone.LouderSteps.{parse_error-louder, pop-louder, pop_but_root-louder}
use Rattle.html_rules_laws.proofs.ErrorsMonotone.LouderSteps.{pop_until-louder, process_end_tag_in_body-louder}
use Rattle.html_rules_laws.proofs.ErrorsMonotone.LouderSteps.{push_marker-louder, put_element-louder, reconstruct-louder}
use Rattle.html_rules_laws.proofs.ErrorsMonotone.LouderSteps.{remove_body-louder, remove_from_stack-louder, same-louder}
use Rattle.html_rules_laws.proofs.ErrorsMonotone.LouderSteps.{then-louder}

module _ (g : ℕ → ℕ) (commutes : Commutes g) where
  pub holds-louder : (c : Condition) (t : Token) (s : State) → holds c t (louder g s) ≡ holds c t s
  unfolding foreign_end
  holds-louder (Not c) t s = ap not (holds-louder c t s)
  holds-louder (Both a b) t s = ap (λ x. x && holds b t (louder g s)) (holds-louder a t s) ∙ ap (λ y. holds a t s && y) (holds-louder b t s)
  holds-louder Always t s = refl
  holds-louder ScriptingEnabled t s = refl
  holds-louder IframeSrcdoc t s = refl
  holds-louder ByStandard t s = refl
  holds-louder InFragment t s = refl
  holds-louder (ContextIs names) t s = refl
  holds-louder InQuirksMode t s = refl
  holds-louder FramesetOk t s = refl
  holds-louder (CurrentIs names) t s = refl
  holds-louder CurrentIsToken t s = refl
  holds-louder RootAlone t s = refl
  holds-louder SecondIsBody t s = refl
  holds-louder TemplateOpen t s = refl
  holds-louder HasTemplateModes t s = refl
  holds-louder (InScope scope names) t s = refl
  holds-louder (TokenInScope scope) t s = refl
  holds-louder HasFormElem t s = refl
  holds-louder FormElemInScope t s = refl
  holds-louder FormElemIsCurrent t s = refl
  holds-louder AListed t s = refl
  holds-louder TypeHidden t s = refl
  holds-louder FontAttributes t s = refl
  holds-louder EndsInHtml t s = refl
  holds-louder ForeignEndError t s = refl

  is_foreign_at-louder : (o : Option Open) (t : Token) (s : State) → is_foreign_at (louder g s) o t ≡ is_foreign_at s o t
  is_foreign_at-louder None t s = refl
  is_foreign_at-louder (Some x) t s = refl

  pub is_foreign-louder : (t : Token) (s : State) → is_foreign (louder g s) t ≡ is_foreign s t
  unfolding is_foreign
  is_foreign-louder EOFToken s = refl
  is_foreign-louder (DoctypeToken d) s = is_foreign_at-louder (adjusted_current_node s) (DoctypeToken d) s
  is_foreign-louder (TagToken tag) s = is_foreign_at-louder (adjusted_current_node s) (TagToken tag) s
  is_foreign-louder (CommentToken text) s = is_foreign_at-louder (adjusted_current_node s) (CommentToken text) s
  is_foreign-louder (CharacterTokens text) s = is_foreign_at-louder (adjusted_current_node s) (CharacterTokens text) s
  is_foreign-louder NullCharacterToken s = is_foreign_at-louder (adjusted_current_node s) NullCharacterToken s
  is_foreign-louder (ErrorToken message) s = is_foreign_at-louder (adjusted_current_node s) (ErrorToken message) s

  -- modes

  mode_of_context-louder : (o : Option Open) (s : State) → mode_of_context (louder g s) o ≡ mode_of_context s o
  mode_of_context-louder None s = refl
  mode_of_context-louder (Some x) s = refl

  before-same : (s : State) (x : Open) (c c' m m' : InsertionMode) → c ≡ c' → m ≡ m' →
      choose (is_in set.TdTh x) (λ _. InCell)
      (λ _. choose (is_in set.Head x) (λ _. InHead) (λ _. choose (is_in set.Html x) (λ _. c) (λ _. mode_of s x (λ _. m))))
      ≡ choose (is_in set.TdTh x) (λ _. InCell)
      (λ _. choose (is_in set.Head x) (λ _. InHead) (λ _. choose (is_in set.Html x) (λ _. c') (λ _. mode_of s x (λ _. m'))))
  before-same s x c c' m m' e e' =
      ap (λ c. choose (is_in set.TdTh x) (λ _. InCell)
      (λ _. choose (is_in set.Head x) (λ _. InHead) (λ _. choose (is_in set.Html x) (λ _. c) (λ _. mode_of s x (λ _. m))))) e
      ∙ ap (λ m. choose (is_in set.TdTh x) (λ _. InCell)
      (λ _. choose (is_in set.Head x) (λ _. InHead) (λ _. choose (is_in set.Html x) (λ _. c') (λ _. mode_of s x (λ _. m))))) e'

  mode_of_open-louder : (xs : List Open) (s : State) → mode_of_open (louder g s) xs ≡ mode_of_open s xs
  mode_of_open-louder [] s = refl
  mode_of_open-louder (x ∷ xs) s = before-same s x _ _ _ _ (mode_of_context-louder s.context_elem s) (mode_of_open-louder xs s)

  reset-louder : IsLoud g commutes reset_insertion_mode
  unfolding reset_insertion_mode
  reset-louder s = ap (λ m. record (louder g s) { mode = m }) (mode_of_open-louder s.open_elems s)

  pub set_mode-louder : (m : InsertionMode) → IsLoud g commutes (set_mode m)
  unfolding set_mode
  set_mode-louder m s = refl

  pub restore_mode-louder : IsLoud g commutes restore_mode
  unfolding restore_mode
  restore_mode-louder s = refl

  pub set_ignore_lf-louder : (b : Bool) → IsLoud g commutes (set_ignore_lf b)
  unfolding set_ignore_lf
  set_ignore_lf-louder b s = refl

  pub set_quirks_mode-louder : (mode : QuirksMode) → IsLoud g commutes (set_quirks_mode mode)
  unfolding set_quirks_mode
  set_quirks_mode-louder mode s = refl

  set_foster-louder : (b : Bool) → IsLoud g commutes (set_foster_parenting b)
  unfolding set_foster_parenting
  set_foster-louder b s = refl

  unless_white-louder : (text : List ℕ) → IsLoud g commutes (frameset_not_ok_unless_white text)
  unfolding frameset_not_ok_unless_white
  unless_white-louder text s = refl

  -- text of tables

  append_in_body-louder : (text : List ℕ) → IsLoud g commutes (append_in_body text)
  append_in_body-louder text =
      then-louder g commutes (λ s. frameset_not_ok_unless_white text (reconstruct_active_formatting_elements s)) (append_text text)
      (then-louder g commutes reconstruct_active_formatting_elements (frameset_not_ok_unless_white text)
      (reconstruct-louder g commutes) (unless_white-louder text))
      (append_text-louder g commutes text)

  fostered-louder : (text : List ℕ)
      → IsLoud g commutes (λ s. set_foster_parenting false (append_in_body text (set_foster_parenting true (parse_error s))))
  fostered-louder text =
      then-louder g commutes (λ s. append_in_body text (set_foster_parenting true (parse_error s))) (set_foster_parenting false)
      (then-louder g commutes (λ s. set_foster_parenting true (parse_error s)) (append_in_body text)
      (then-louder g commutes parse_error (set_foster_parenting true) (parse_error-louder g commutes) (set_foster-louder true))
      (append_in_body-louder text))
      (set_foster-louder false)

  insert_table_text-louder : (text : List ℕ) → IsLoud g commutes (insert_table_text text)
  insert_table_text-louder text s = choose-louder g commutes (is_white text) (append_text text)
      (λ s. set_foster_parenting false (append_in_body text (set_foster_parenting true (parse_error s))))
      (append_text-louder g commutes text) (fostered-louder text) s

  tell_pending-louder : IsLoud g commutes insert_pending_text
  unfolding insert_pending_text
  tell_pending-louder s = ap without_pending_text (insert_table_text-louder s.pending_table_text s)

  -- pointers

  push_head-louder : (o : Option ℕ) → IsLoud g commutes (push_head o)
  push_head-louder None s = refl
  push_head-louder (Some n) s = refl

  remove_from_stack_if-louder : (o : Option ℕ) → IsLoud g commutes (remove_from_stack_if o)
  remove_from_stack_if-louder None s = refl
  remove_from_stack_if-louder (Some n) s = remove_from_stack-louder g commutes n s

  -- foreign content

  enter_foreign-louder : (namespace : Namespace) (tag : Tag) → IsLoud g commutes (enter_foreign namespace tag)
  unfolding enter_foreign
  enter_foreign-louder namespace tag s =
      choose-louder g commutes tag.self_closing
      (put_element namespace tag.name (adjust_attributes namespace tag.attrs) tag.had_duplicate_attributes)
      (insert_element namespace tag.name (adjust_attributes namespace tag.attrs) tag.had_duplicate_attributes)
      (put_element-louder g commutes namespace tag.name (adjust_attributes namespace tag.attrs) tag.had_duplicate_attributes)
      (insert_element-louder g commutes namespace tag.name (adjust_attributes namespace tag.attrs) tag.had_duplicate_attributes) s

  foreign_start_at-louder : (o : Option Open) (tag : Tag) → IsLoud g commutes (foreign_start_at o tag)
  foreign_start_at-louder None tag s = refl
  foreign_start_at-louder (Some x) tag s = enter_foreign-louder x.namespace (record tag { name = adjust_tag_name x.namespace tag.name }) s

  close_foreign_by-louder : (e : ForeignEnd) → IsLoud g commutes (close_foreign_by e)
  close_foreign_by-louder Dropped s = refl
  close_foreign_by-louder AsInMode s = refl
  close_foreign_by-louder (Closed left) s = refl

  -- templates

  attach-louder : (tag : Tag) (host : ℕ) → IsLoud g commutes (attach_shadow_root tag host)
  attach-louder tag host opened =
      choose-louder g commutes (opened.answers.attaches_shadow (with_errors 0 opened.forest) host
      (current_number opened.open_elems) tag.attrs) (λ s. s) (λ s. insert_element_for tag (pop s))
      (same-louder g commutes) (then-louder g commutes pop (insert_element_for tag) (pop-louder g commutes)
      (insert_element_for-louder g commutes tag)) opened

  insert_template-louder : (tag : Tag) → IsLoud g commutes (insert_template tag)
  unfolding insert_template
  insert_template-louder tag s =
      choose-louder g commutes (may_be_shadow_root tag s)
      (λ r. attach_shadow_root tag (number_of (adjusted_current_node s))
      (open_element Html tag.name tag.attrs tag.had_duplicate_attributes r)) (insert_element_for tag)
      (then-louder g commutes (open_element Html tag.name tag.attrs tag.had_duplicate_attributes)
      (attach_shadow_root tag (number_of (adjusted_current_node s)))
      (open_element-louder g commutes Html tag.name tag.attrs tag.had_duplicate_attributes)
      (attach-louder tag (number_of (adjusted_current_node s))))
      (insert_element_for-louder g commutes tag) s

  -- an action for a tag

  for_tag-louder : (step : Tag → State → State) (t : Token) → ((tag : Tag) → IsLoud g commutes (step tag))
      → IsLoud g commutes (for_tag step t)
  for_tag-louder step (TagToken tag) is s = is tag s
  for_tag-louder step _ is s = refl

  void-louder : (tag : Tag) → IsLoud g commutes (insert_and_pop_element_for tag)
  void-louder tag = put_element-louder g commutes Html tag.name tag.attrs tag.had_duplicate_attributes

  form_void-louder : (tag : Tag) → IsLoud g commutes (insert_form_void tag)
  form_void-louder tag s = ap {A = State} (λ made. record made { form_elem = Some (node_count s.forest) }) (void-louder tag s)

  when-louder : (b : Bool) (b' : Bool) (f : State → State) → b' ≡ b → IsLoud g commutes f → (s : State)
      → choose b' (λ _. f (louder g s)) (λ _. louder g s) ≡ louder g (choose b (λ _. f s) (λ _. s))
  when-louder b b' f e is s = ap (λ b. choose b (λ _. f (louder g s)) (λ _. louder g s)) e
      ∙ choose-louder g commutes b f (λ s. s) is (same-louder g commutes) s

  pub act-louder : (a : Action) (t : Token) → IsLoud g commutes (act a t)
  unfolding save_mode push_template_mode pop_template_mode set_template_mode frameset_not_ok set_head_elem
      push_head_elem remove_head_elem set_form_elem forget_form_elem remove_form_elem keep_text foreign_start
      pop_foreign close_foreign foreign_end pop_until_current
  act-louder Nothing t s = refl
  act-louder (Then a b) t s = then-louder g commutes (act a t) (act b t) (act-louder a t) (act-louder b t) s
  act-louder (When c a) t s = when-louder (holds c t s) (holds c t (louder g s)) (act a t) (holds-louder c t s) (act-louder a t) s
  act-louder ParseError t s = parse_error-louder g commutes s
  act-louder InsertElement t s = for_tag-louder insert_element_for t (insert_element_for-louder g commutes) s
  act-louder InsertVoid t s = for_tag-louder insert_and_pop_element_for t void-louder s
  act-louder (InsertVoidAs name) t s =
      for_tag-louder (λ tag. insert_and_pop_element_for (record tag { name = name })) t (λ tag. void-louder (record tag { name = name })) s
  act-louder InsertFormVoid t s = for_tag-louder insert_form_void t form_void-louder s
  act-louder (InsertNew name) t s = insert_element-louder g commutes Html name [] false s
  act-louder (InsertNewVoid name) t s = put_element-louder g commutes Html name [] false s
  act-louder CreateRoot t s = create_root-louder g commutes (attributes_of t) s
  act-louder CreateNewRoot t s = create_root-louder g commutes [] s
  act-louder AppendText t s = append_text-louder g commutes (text_of t) s
  act-louder AppendReplacement t s = append_text-louder g commutes (0xFFFD ∷ []) s
  act-louder AppendComment t s = append_comment-louder g commutes (text_of t) s
  act-louder AppendCommentToDocument t s = append_comment_to_doc-louder g commutes (text_of t) s
  act-louder AppendCommentToRoot t s = append_comment_to_html-louder g commutes (text_of t) s
  act-louder InsertTemplate t s = for_tag-louder insert_template t insert_template-louder s
  act-louder AddAttributesToRoot t s = add_attributes_to_root-louder g commutes (attributes_of t) s
  act-louder AddAttributesToBody t s = add_attributes_to_body-louder g commutes (attributes_of t) s
  act-louder RemoveBody t s = remove_body-louder g commutes s
  act-louder Pop t s = pop_but_root-louder g commutes s
  act-louder (PopUntil names) t s = pop_until-louder g commutes (is_in names) s
  act-louder (ClearBackTo names) t s = refl
  act-louder (Close names) t s = expect_to_close-louder g commutes (is_in names) s
  act-louder CloseToken t s = expect_to_close-louder g commutes (is_named (name_of t)) s
  act-louder CloseP t s = close_p-louder g commutes s
  act-louder (CloseItem names) t s = close_item-louder g commutes names s
  act-louder ImpliedEndTags t s = generate_implied_end_tags-louder g commutes set.CursoryImpliedEnd s
  act-louder (ImpliedEndTagsExcept names) t s = generate_implied_end_except-louder g commutes (is_in names) s
  act-louder ImpliedEndTagsExceptToken t s = generate_implied_end_except-louder g commutes (is_named (name_of t)) s
  act-louder ImpliedEndTagsThoroughly t s = generate_implied_end_tags-louder g commutes set.ThoroughImpliedEnd s
  act-louder AnyOtherEndTag t s = process_end_tag_in_body-louder g commutes (name_of t) s
  act-louder CheckBodyEnd t s = check_body_end-louder g commutes s
  act-louder SetHeadElem t s = refl
  act-louder PushHeadElem t s = push_head-louder s.head_elem s
  act-louder RemoveHeadElem t s = remove_from_stack_if-louder s.head_elem s
  act-louder SetFormElem t s = refl
  act-louder RemoveFormElem t s = remove_from_stack_if-louder s.form_elem s
  act-louder ForgetFormElem t s = refl
  act-louder Reconstruct t s = reconstruct-louder g commutes s
  act-louder InsertFormatting t s = for_tag-louder create_formatting_element_for t (create_formatting_element_for-louder g commutes) s
  act-louder InsertMarker t s = push_marker-louder g commutes s
  act-louder ClearToMarker t s = clear-louder g commutes s
  act-louder AdoptionAgency t s = adoption_agency-louder g commutes (name_of t) s
  act-louder AdoptNobr t s = adoption_agency-louder g commutes (codes "nobr") s
  act-louder CloseMisnestedA t s = misnested-louder g commutes s
  act-louder (SwitchTo mode) t s = set_mode-louder mode s
  act-louder SaveMode t s = refl
  act-louder RestoreMode t s = restore_mode-louder s
  act-louder ResetMode t s = reset-louder s
  act-louder (PushTemplateMode mode) t s = refl
  act-louder (SetTemplateMode mode) t s = refl
  act-louder PopTemplateMode t s = refl
  act-louder SetQuirks t s = set_quirks_mode-louder Quirks s
  act-louder FramesetNotOk t s = refl
  act-louder FramesetNotOkUnlessWhite t s = unless_white-louder (text_of t) s
  act-louder IgnoreLineFeed t s = set_ignore_lf-louder true s
  act-louder EnableFosterParenting t s = set_foster-louder true s
  act-louder DisableFosterParenting t s = set_foster-louder false s
  act-louder KeepText t s = refl
  act-louder InsertPendingText t s = tell_pending-louder s
  act-louder (EnterForeign namespace) t s = for_tag-louder (enter_foreign namespace) t (enter_foreign-louder namespace) s
  act-louder InsertForeign t s = for_tag-louder foreign_start t (λ tag s. foreign_start_at-louder (adjusted_current_node s) tag s) s
  act-louder PopForeign t s = refl
  act-louder CloseForeign t s = close_foreign_by-louder (foreign_end (name_of t) s) s
