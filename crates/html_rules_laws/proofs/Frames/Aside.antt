-- What actions on the tree, the stack and the list leave as it is.
use Rattle.std.proofs.Common.{◌≡◌, ◌∙◌, ℕ, Bool, true, false, List, [], ◌∷◌, Option, Some, None, refl, codes}
use Rattle.std.specs.Prelude.{◌&&◌}
use Rattle.std.proofs.lemmas.Bool.{and_parts}
use Rattle.markup.specs.Forest.{Forest}
use Rattle.markup.specs.declared.attributes.Attribute.{Attribute}
use Rattle.html_tokens.specs.declared.tags.Tag.{Tag}
use Rattle.html_tokens.specs.declared.token.Token.{Token}
use Rattle.html_tokens.specs.declared.token.Token.TheVariants.{TagToken}
use Rattle.html_rules.specs.Actions.{act, restore_mode, for_tag, forget_form_elem, frameset_not_ok}
use Rattle.html_rules.specs.Actions.{frameset_not_ok_unless_white, insert_form_void, save_mode, keep_text, pop_template_mode}
use Rattle.html_rules.specs.Actions.{push_head, push_head_elem, push_template_mode, remove_form_elem, remove_head_elem}
use Rattle.html_rules.specs.Actions.{set_foster_parenting, set_form_elem, set_head_elem, set_ignore_lf, set_mode}
use Rattle.html_rules.specs.Actions.{set_quirks_mode, set_template_mode, insert_pending_text, without_first}
use Rattle.html_rules.specs.Adoption.{adopt_from, handle_misnested_a_tags}
use Rattle.html_rules.specs.Choice.{choose}
use Rattle.html_rules.specs.Conditions.{holds}
use Rattle.html_rules.specs.ForeignContent.{close_foreign, ends_foreign, ends_foreign_in, enter_foreign, foreign_end, foreign_start, pop_foreign}
use Rattle.html_rules.specs.Formatting.{Listed, clear_active_formatting_to_marker, create_formatting_element_for, last_named, push_marker}
use Rattle.html_rules.specs.Names.{Html}
use Rattle.html_rules.specs.Places.{append_comment, append_comment_to_doc, append_comment_to_html, append_text, create_root}
use Rattle.html_rules.specs.Places.{insert_and_pop_element_for, insert_element, insert_element_for, open_element, put_element}
use Rattle.html_rules.specs.Reset.{reset_insertion_mode}
use Rattle.html_rules.specs.Stack.{add_attributes_to, add_attributes_to_body, add_attributes_to_root, body_elem, close_item}
use Rattle.html_rules.specs.Stack.{expect_to_close, generate_implied_end_tags, parse_error, pop_but_root, pop_until}
use Rattle.html_rules.specs.Stack.{pop_until_current, remove_body, remove_if}
use Rattle.html_rules.specs.State.{Open, Entry, State, adjusted_current_node, is_in, is_named}
use Rattle.html_rules.specs.Table.{Action, Nothing, Then, When, ParseError, InsertElement, InsertVoid, InsertVoidAs}
use Rattle.html_rules.specs.Table.{InsertFormVoid, InsertNew, InsertNewVoid, CreateRoot, CreateNewRoot, AppendText}
use Rattle.html_rules.specs.Table.{AppendReplacement, AppendComment, AppendCommentToDocument, AppendCommentToRoot}
use Rattle.html_rules.specs.Table.{InsertTemplate, AddAttributesToRoot, AddAttributesToBody, RemoveBody, Pop, PopUntil}
use Rattle.html_rules.specs.Table.{ClearBackTo, Close, CloseToken, CloseP, CloseItem, ImpliedEndTags, ImpliedEndTagsExcept}
use Rattle.html_rules.specs.Table.{ImpliedEndTagsExceptToken, ImpliedEndTagsThoroughly, AnyOtherEndTag, CheckBodyEnd}
use Rattle.html_rules.specs.Table.{SetHeadElem, PushHeadElem, RemoveHeadElem, SetFormElem, ForgetFormElem, RemoveFormElem}
use Rattle.html_rules.specs.Table.{Reconstruct, InsertFormatting, InsertMarker, ClearToMarker, AdoptionAgency, AdoptNobr}
use Rattle.html_rules.specs.Table.{CloseMisnestedA, SwitchTo, SaveMode, RestoreMode, ResetMode, PushTemplateMode}
use Rattle.html_rules.specs.Table.{SetTemplateMode, PopTemplateMode, SetQuirks, FramesetNotOk, FramesetNotOkUnlessWhite}
use Rattle.html_rules.specs.Table.{IgnoreLineFeed, EnableFosterParenting, DisableFosterParenting, KeepText, InsertPendingText}
use Rattle.html_rules.specs.Table.{EnterForeign, InsertForeign, PopForeign, CloseForeign}
use Rattle.html_rules.specs.Templates.{insert_template}
use Rattle.html_rules.specs.Tokens.{attributes_of, name_of, text_of}
use Rattle.html_rules.specs.declared.insertion_mode.InsertionMode.{InsertionMode}
use Rattle.html_rules.specs.declared.tag_set.TagSet.TheVariants as set
use Rattle.html_rules_laws.specs.Settled.{are_template_modes, is_template_mode}
use Rattle.html_rules_laws.proofs.Frames.KeptBySteps.{IsKeptBySteps, agency-keeps, check-keeps, close_by-keeps}
use Rattle.html_rules_laws.proofs.Frames.KeptBySteps.{close_item-keeps, close_p-keeps, enter-keeps, except-keeps}
use Rattle.html_rules_laws.proofs.Frames.KeptBySteps.{expect_to_close-keeps, for_tag-keeps, foreign-keeps, generic-keeps}
use Rattle.html_rules_laws.proofs.Frames.KeptBySteps.{insert-keeps, list-keeps, misnested-keeps, pop_until-keeps}
use Rattle.html_rules_laws.proofs.Frames.KeptBySteps.{pop_until_current-keeps, push_head-keeps, reconstruct-keeps, tell-keeps}
use Rattle.html_rules_laws.proofs.Frames.KeptBySteps.{template-keeps, unopened-keeps}

-- the modes, the head, the context and the end are as they were
pub record IsAside (s r : State) : Type 0 where
  pub mode : r.mode ≡ s.mode
  pub original : r.orig_mode ≡ s.orig_mode
  pub modes : r.template_modes ≡ s.template_modes
  pub head : r.head_elem ≡ s.head_elem
  pub context : r.context_elem ≡ s.context_elem
  pub ended : r.has_ended ≡ s.has_ended

abbrev pub Asides : (State → State) → Type 0
Asides f = (s : State) → IsAside s (f s)

pub same : (s : State) → IsAside s s
same s = record { mode = refl; original = refl; modes = refl; head = refl; context = refl; ended = refl }

-- another tree, other open elements, another list, other flags
pub other : (s : State) (f : Forest) (xs : List Open) (entries : List Entry) (ok foster : Bool)
    → IsAside s (record s { forest = f; open_elems = xs; active_formatting = entries; frameset_ok = ok; foster_parenting = foster })
other s f xs entries ok foster = record { mode = refl; original = refl; modes = refl; head = refl; context = refl; ended = refl }

pub after : (s r q : State) → IsAside s r → IsAside r q → IsAside s q
after s r q h k = record {
  mode = k.mode ∙ h.mode;
  original = k.original ∙ h.original;
  modes = k.modes ∙ h.modes;
  head = k.head ∙ h.head;
  context = k.context ∙ h.context;
  ended = k.ended ∙ h.ended;
}

from-aside : (fe : Listed) (o : Option Open) (s : State) → IsAside s (adopt_from fe o s).state
from-aside fe None s = other s _ _ _ _ _
from-aside fe (Some block) s = other s _ _ _ _ _

body-aside : (o : Option ℕ) (attributes : List Attribute) → Asides (add_attributes_to o attributes)
body-aside None attributes s = same s
body-aside (Some n) attributes s = other s _ _ _ _ _

remove_if-aside : (o : Option ℕ) → Asides (remove_if o)
remove_if-aside None s = same s
remove_if-aside (Some n) s = other s _ _ _ _ _

pub aside_kept : IsKeptBySteps IsAside
unfolding parse_error append_text put_element insert_element open_element frameset_not_ok_unless_white
aside_kept = record {
  same = same;
  after = after;
  stacks = λ s xs entries foster. other s _ xs entries _ foster;
  framesets = λ text s. other s _ _ _ _ _;
  errs = λ s. other s _ _ _ _ _;
  texts = λ text s. other s _ _ _ _ _;
  puts = λ namespace name attributes dup s. other s _ _ _ _ _;
  inserts = λ namespace name attributes dup s. other s _ _ _ _ _;
  opens = λ namespace name attributes dup s. other s _ _ _ _ _;
  adopts = from-aside;
  adds = body-aside;
  removes = remove_if-aside;
}

-- actions

-- template modes that an action sets are such that a template may have
abbrev pub sets_template_modes : Action → Bool
sets_template_modes (Then a b) = sets_template_modes a && sets_template_modes b
sets_template_modes (When c a) = sets_template_modes a
sets_template_modes (PushTemplateMode mode) = is_template_mode mode
sets_template_modes (SetTemplateMode mode) = is_template_mode mode
sets_template_modes a = true

-- what every action keeps
pub record IsRest (s r : State) : Type 0 where
  pub context : r.context_elem ≡ s.context_elem
  pub ended : r.has_ended ≡ s.has_ended
  pub modes : are_template_modes s.template_modes ≡ true → are_template_modes r.template_modes ≡ true

pub rest-after : (s r q : State) → IsRest s r → IsRest r q → IsRest s q
rest-after s r q h k = record { context = k.context ∙ h.context; ended = k.ended ∙ h.ended; modes = λ m. k.modes (h.modes m) }

pub rest-either : (b : Bool) (s x y : State) → IsRest s x → IsRest s y → IsRest s (choose b (λ _. x) (λ _. y))
rest-either true s x y h k = h
rest-either false s x y h k = k

pub rest-same : (s : State) → IsRest s s
rest-same s = record { context = refl; ended = refl; modes = λ m. m }

aside-rest : (s r : State) → IsAside s r → IsRest s r
aside-rest s r h = record { context = h.context; ended = h.ended; modes = λ m. rw h.modes m }

pub first-modes : (modes : List InsertionMode) → are_template_modes modes ≡ true → are_template_modes (without_first modes) ≡ true
first-modes [] h = refl
first-modes (m ∷ modes) h = (and_parts (is_template_mode m) (are_template_modes modes) h).1

pub form-rest : (tag : Tag) (s : State) → IsRest s (insert_form_void tag s)
unfolding put_element
form-rest tag s = record { context = refl; ended = refl; modes = λ m. m }

tagged-rest : (step : Tag → State → State) (t : Token) → ((tag : Tag) (s : State) → IsRest s (step tag s))
    → (s : State) → IsRest s (for_tag step t s)
tagged-rest step (TagToken tag) h s = h tag s
tagged-rest step t h s = rest-same s

tag-rest : (step : Tag → State → State) (t : Token) → ((tag : Tag) → Asides (step tag)) → (s : State) → IsRest s (for_tag step t s)
tag-rest step t h s = aside-rest s _ (for_tag-keeps aside_kept step t h s)

pub act-rest : (a : Action) → sets_template_modes a ≡ true → (t : Token) (s : State) → IsRest s (act a t s)
unfolding append_comment append_comment_to_doc append_comment_to_html create_root add_attributes_to_root
    add_attributes_to_body remove_body generate_implied_end_tags pop_but_root push_head_elem remove_head_elem
    remove_form_elem create_formatting_element_for push_marker clear_active_formatting_to_marker
    handle_misnested_a_tags set_mode save_mode restore_mode push_template_mode pop_template_mode set_template_mode
    set_quirks_mode frameset_not_ok frameset_not_ok_unless_white set_ignore_lf set_foster_parenting set_head_elem
    set_form_elem forget_form_elem keep_text insert_pending_text reset_insertion_mode foreign_start pop_foreign close_foreign
act-rest Nothing p t s = rest-same s
act-rest (Then a b) p t s = let parts = and_parts (sets_template_modes a) (sets_template_modes b) p in
    rest-after s (act a t s) _ (act-rest a parts.0 t s) (act-rest b parts.1 t (act a t s))
act-rest (When c a) p t s = rest-either (holds c t s) s (act a t s) s (act-rest a p t s) (rest-same s)
act-rest ParseError p t s = aside-rest s _ (aside_kept.errs s)
act-rest InsertElement p t s = tag-rest insert_element_for t (insert-keeps aside_kept) s
act-rest InsertVoid p t s = tag-rest insert_and_pop_element_for t
    (λ tag s. aside_kept.puts Html tag.name tag.attrs tag.had_duplicate_attributes s) s
act-rest (InsertVoidAs name) p t s = tag-rest (λ tag. insert_and_pop_element_for (record tag { name = name })) t
    (λ tag s. aside_kept.puts Html name tag.attrs tag.had_duplicate_attributes s) s
act-rest InsertFormVoid p t s = tagged-rest insert_form_void t form-rest s
act-rest (InsertNew name) p t s = aside-rest s _ (aside_kept.inserts Html name [] false s)
act-rest (InsertNewVoid name) p t s = aside-rest s _ (aside_kept.puts Html name [] false s)
act-rest CreateRoot p t s = aside-rest s _ (other s _ _ _ _ _)
act-rest CreateNewRoot p t s = aside-rest s _ (other s _ _ _ _ _)
act-rest AppendText p t s = aside-rest s _ (aside_kept.texts (text_of t) s)
act-rest AppendReplacement p t s = aside-rest s _ (aside_kept.texts (0xFFFD ∷ []) s)
act-rest AppendComment p t s = aside-rest s _ (other s _ _ _ _ _)
act-rest AppendCommentToDocument p t s = aside-rest s _ (other s _ _ _ _ _)
act-rest AppendCommentToRoot p t s = aside-rest s _ (other s _ _ _ _ _)
act-rest InsertTemplate p t s = tag-rest insert_template t (template-keeps aside_kept) s
act-rest AddAttributesToRoot p t s = aside-rest s _ (other s _ _ _ _ _)
act-rest AddAttributesToBody p t s = aside-rest s _ (aside_kept.adds (body_elem s.open_elems) (attributes_of t) s)
act-rest RemoveBody p t s = aside-rest s _ (after s _ _ (aside_kept.removes (body_elem s.open_elems) s)
    (pop_until_current-keeps aside_kept (is_in set.Html) (remove_if (body_elem s.open_elems) s)))
act-rest Pop p t s = aside-rest s _ (other s _ _ _ _ _)
act-rest (PopUntil names) p t s = aside-rest s _ (pop_until-keeps aside_kept (is_in names) s)
act-rest (ClearBackTo names) p t s = aside-rest s _ (pop_until_current-keeps aside_kept (is_in names) s)
act-rest (Close names) p t s = aside-rest s _ (expect_to_close-keeps aside_kept (is_in names) s)
act-rest CloseToken p t s = aside-rest s _ (expect_to_close-keeps aside_kept (is_named (name_of t)) s)
act-rest CloseP p t s = aside-rest s _ (close_p-keeps aside_kept s)
act-rest (CloseItem names) p t s = aside-rest s _ (close_item-keeps aside_kept names s)
act-rest ImpliedEndTags p t s = aside-rest s _ (other s _ _ _ _ _)
act-rest (ImpliedEndTagsExcept names) p t s = aside-rest s _ (except-keeps aside_kept (is_in names) s)
act-rest ImpliedEndTagsExceptToken p t s = aside-rest s _ (except-keeps aside_kept (is_named (name_of t)) s)
act-rest ImpliedEndTagsThoroughly p t s = aside-rest s _ (other s _ _ _ _ _)
act-rest AnyOtherEndTag p t s = aside-rest s _ (generic-keeps aside_kept (name_of t) s)
act-rest CheckBodyEnd p t s = aside-rest s _ (check-keeps aside_kept s)
act-rest SetHeadElem p t s = record { context = refl; ended = refl; modes = λ m. m }
act-rest PushHeadElem p t s = aside-rest s _ (push_head-keeps aside_kept s.head_elem s)
act-rest RemoveHeadElem p t s = aside-rest s _ (unopened-keeps aside_kept s.head_elem s)
act-rest SetFormElem p t s = record { context = refl; ended = refl; modes = λ m. m }
act-rest RemoveFormElem p t s = aside-rest s _ (unopened-keeps aside_kept s.form_elem s)
act-rest ForgetFormElem p t s = record { context = refl; ended = refl; modes = λ m. m }
act-rest Reconstruct p t s = aside-rest s _ (reconstruct-keeps aside_kept s)
act-rest InsertFormatting p t s = tag-rest create_formatting_element_for t
    (λ tag s. after s _ _ (other s _ _ _ _ _) (list-keeps aside_kept tag _)) s
act-rest InsertMarker p t s = aside-rest s _ (other s _ _ _ _ _)
act-rest ClearToMarker p t s = aside-rest s _ (other s _ _ _ _ _)
act-rest AdoptionAgency p t s = aside-rest s _ (agency-keeps aside_kept (name_of t) s)
act-rest AdoptNobr p t s = aside-rest s _ (agency-keeps aside_kept (codes "nobr") s)
act-rest CloseMisnestedA p t s = aside-rest s _ (misnested-keeps aside_kept (last_named (codes "a") s.active_formatting) s)
act-rest (SwitchTo mode) p t s = record { context = refl; ended = refl; modes = λ m. m }
act-rest SaveMode p t s = record { context = refl; ended = refl; modes = λ m. m }
act-rest RestoreMode p t s = record { context = refl; ended = refl; modes = λ m. m }
act-rest ResetMode p t s = record { context = refl; ended = refl; modes = λ m. m }
act-rest (PushTemplateMode mode) p t s = record { context = refl; ended = refl; modes = λ m. rw p m }
act-rest (SetTemplateMode mode) p t s = record { context = refl; ended = refl; modes = λ m. rw p (first-modes s.template_modes m) }
act-rest PopTemplateMode p t s = record { context = refl; ended = refl; modes = first-modes s.template_modes }
act-rest SetQuirks p t s = record { context = refl; ended = refl; modes = λ m. m }
act-rest FramesetNotOk p t s = record { context = refl; ended = refl; modes = λ m. m }
act-rest FramesetNotOkUnlessWhite p t s = record { context = refl; ended = refl; modes = λ m. m }
act-rest IgnoreLineFeed p t s = record { context = refl; ended = refl; modes = λ m. m }
act-rest EnableFosterParenting p t s = record { context = refl; ended = refl; modes = λ m. m }
act-rest DisableFosterParenting p t s = record { context = refl; ended = refl; modes = λ m. m }
act-rest KeepText p t s = record { context = refl; ended = refl; modes = λ m. m }
act-rest InsertPendingText p t s = let told = tell-keeps aside_kept s.pending_table_text s in
    record { context = told.context; ended = told.ended; modes = λ m. rw told.modes m }
act-rest (EnterForeign namespace) p t s = tag-rest (enter_foreign namespace) t (enter-keeps aside_kept namespace) s
act-rest InsertForeign p t s = tag-rest foreign_start t (λ tag s. foreign-keeps aside_kept (adjusted_current_node s) tag s) s
act-rest PopForeign p t s = aside-rest s _ (pop_until_current-keeps aside_kept (ends_foreign_in s) s)
act-rest CloseForeign p t s = aside-rest s _ (close_by-keeps aside_kept (foreign_end (name_of t) s) s)
