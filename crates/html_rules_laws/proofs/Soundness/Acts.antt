-- Actions that change the stack such that any element may come next, and leave modes, head and context as they are.
use Rattle.std.proofs.Common.{◌≡◌, ◌∙◌, ℕ, Bool, true, false, List, [], ◌∷◌, refl, sym, true≢false, codes}
use Rattle.std.specs.Prelude.{◌&&◌, not}
use Rattle.std.proofs.lemmas.Bool.{and_parts}
use Rattle.html_tokens.specs.declared.tags.Tag.{Tag}
use Rattle.html_tokens.specs.declared.token.Token.{Token}
use Rattle.html_tokens.specs.declared.token.Token.TheVariants.{TagToken}
use Rattle.html_rules.specs.Actions.{act, for_tag, forget_form_elem, frameset_not_ok, frameset_not_ok_unless_white}
use Rattle.html_rules.specs.Actions.{insert_form_void, keep_text, remove_form_elem, remove_head_elem, set_foster_parenting}
use Rattle.html_rules.specs.Actions.{set_form_elem, set_ignore_lf, set_quirks_mode, insert_pending_text}
use Rattle.html_rules.specs.Adoption.{handle_misnested_a_tags}
use Rattle.html_rules.specs.Conditions.{holds}
use Rattle.html_rules.specs.ForeignContent.{close_foreign, ends_foreign, ends_foreign_in, ends_foreign_in, enter_foreign, foreign_end, is_start_tag, is_end_tag, pop_foreign}
use Rattle.html_rules.specs.Formatting.{clear_active_formatting_to_marker, create_formatting_element_for, last_named, push_marker}
use Rattle.html_rules.specs.Names.{Html, is_html}
use Rattle.html_rules.specs.Places.{append_comment, append_comment_to_doc, append_comment_to_html, insert_and_pop_element_for}
use Rattle.html_rules.specs.Places.{insert_element_for}
use Rattle.html_rules.specs.Sets.{is_among, names_of}
use Rattle.html_rules.specs.Stack.{add_attributes_to_body, add_attributes_to_root, body_elem, generate_implied_end_tags}
use Rattle.html_rules.specs.Stack.{pop_but_root, remove_body, remove_if}
use Rattle.html_rules.specs.State.{State, is_in, is_named}
use Rattle.html_rules.specs.Table.{Action, Nothing, Then, When, ParseError, InsertElement, InsertVoid, InsertVoidAs}
use Rattle.html_rules.specs.Table.{InsertFormVoid, InsertNew, InsertNewVoid, AppendText, AppendReplacement, AppendComment}
use Rattle.html_rules.specs.Table.{AppendCommentToDocument, AppendCommentToRoot, AddAttributesToRoot, AddAttributesToBody}
use Rattle.html_rules.specs.Table.{RemoveBody, Pop, PopUntil, ClearBackTo, Close, CloseToken, CloseP, CloseItem, ImpliedEndTags}
use Rattle.html_rules.specs.Table.{ImpliedEndTagsExcept, ImpliedEndTagsExceptToken, ImpliedEndTagsThoroughly, AnyOtherEndTag}
use Rattle.html_rules.specs.Table.{CheckBodyEnd, RemoveHeadElem, SetFormElem, ForgetFormElem, RemoveFormElem, Reconstruct}
use Rattle.html_rules.specs.Table.{InsertFormatting, InsertMarker, ClearToMarker, AdoptionAgency, AdoptNobr, CloseMisnestedA}
use Rattle.html_rules.specs.Table.{SetQuirks, FramesetNotOk, FramesetNotOkUnlessWhite, IgnoreLineFeed, EnableFosterParenting}
use Rattle.html_rules.specs.Table.{DisableFosterParenting, KeepText, InsertPendingText, EnterForeign, PopForeign, CloseForeign}
use Rattle.html_rules.specs.Tokens.{attributes_of, name_of, text_of}
use Rattle.html_rules.specs.declared.rules.Rules.{Rules}
use Rattle.html_rules.specs.declared.tag_set.TagSet.{TagSet}
use Rattle.html_rules.specs.declared.tag_set.TagSet.TheVariants as set
use Rattle.html_rules_laws.proofs.Frames.Aside.{Asides, after, aside_kept, other, same}
use Rattle.html_rules_laws.proofs.Names.{disjoint, shares_name}
use Rattle.html_rules_laws.proofs.SetFacts.{all_among, among-all}
use Rattle.html_rules_laws.proofs.Termination.Kinds.{Kind, Starts, StartsBut, Ends, EndsBut, is_of}
use Rattle.html_rules_laws.proofs.Frames.Firm.{IsOrdinary}
use Rattle.html_rules_laws.proofs.TreePreserved.Standing.{part-but_root, part-same}
use Rattle.html_rules_laws.proofs.TreePreserved.StandingActions.{foreign_end-part}
use Rattle.html_rules_laws.proofs.Frames.Tame.{Tames, after-tame, agency-tame, append_text-tame, behind-listed, body-tame}
use Rattle.html_rules_laws.proofs.Frames.Tame.{check-tame, close_by-tame, close_item-tame, close_p-tame, either-tame}
use Rattle.html_rules_laws.proofs.Frames.Tame.{enter-tame, except-tame, expect_to_close-tame, formatting-tame, generic-tame}
use Rattle.html_rules_laws.proofs.Frames.Tame.{implied-tame, insert_element-tame, misnested-tame, parse_error-tame, part-tame}
use Rattle.html_rules_laws.proofs.Frames.Tame.{plain-name, pop_until-tame, pop_until_current-tame, put_element-tame}
use Rattle.html_rules_laws.proofs.Frames.Tame.{reconstruct-tame, remove_if-tame, same-tame, special_names, tell-tame}
use Rattle.html_rules_laws.proofs.Frames.Tame.{unopened-tame}
use Rattle.html_rules_laws.proofs.Bools.{no, not_true}
use Rattle.html_rules_laws.proofs.Frames.KeptBySteps.{agency-keeps, check-keeps, close_by-keeps, close_item-keeps}
use Rattle.html_rules_laws.proofs.Frames.KeptBySteps.{close_p-keeps, enter-keeps, except-keeps, expect_to_close-keeps}
use Rattle.html_rules_laws.proofs.Frames.KeptBySteps.{for_tag-keeps, generic-keeps, insert-keeps, list-keeps, misnested-keeps}
use Rattle.html_rules_laws.proofs.Frames.KeptBySteps.{pop_until-keeps, pop_until_current-keeps, reconstruct-keeps, tell-keeps}
use Rattle.html_rules_laws.proofs.Frames.KeptBySteps.{unopened-keeps, either-keeps}

-- kinds of tokens none of which is a tag `html`, `head` or `template`
abbrev pub plain_kind : Kind → Bool
plain_kind (Starts names) = not (shares_name names special_names)
plain_kind (Ends names) = not (shares_name names special_names)
plain_kind (StartsBut names) = all_among special_names names
plain_kind (EndsBut names) = all_among special_names names
plain_kind kind = true

-- kinds of tags that are all for formatting elements
abbrev pub formatting_kind : Kind → Bool
formatting_kind (Starts names) = all_among names (names_of set.FormattingEnd)
formatting_kind (Ends names) = all_among names (names_of set.FormattingEnd)
formatting_kind (StartsBut names) = false
formatting_kind (EndsBut names) = false
formatting_kind kind = true

out_of : (name : List ℕ) (names : List (List ℕ)) → all_among special_names names ≡ true
    → is_among name names ≡ false → is_among name special_names ≡ false
out_of name names h k = by (is_among name special_names) refl where
  by : (b : Bool) → is_among name special_names ≡ b → is_among name special_names ≡ false
  by true e = absurd (true≢false (sym (among-all name special_names names h e) ∙ k))
  by false e = e

pub plain-of : (kind : Kind) (tag : Tag) → plain_kind kind ≡ true → is_of kind (TagToken tag) ≡ true → (n : ℕ) (rules : Rules)
    → IsOrdinary (record { number = n; namespace = Html; name = tag.name; rules = rules })
plain-of (Starts names) tag h k n rules = plain-name tag.name
    (disjoint tag.name names special_names (not_true _ h) (and_parts (is_start_tag tag.kind) _ k).1) n rules
plain-of (Ends names) tag h k n rules = plain-name tag.name
    (disjoint tag.name names special_names (not_true _ h) (and_parts (is_end_tag tag.kind) _ k).1) n rules
plain-of (StartsBut names) tag h k n rules = plain-name tag.name
    (out_of tag.name names h (not_true _ (and_parts (is_start_tag tag.kind) _ k).1)) n rules
plain-of (EndsBut names) tag h k n rules = plain-name tag.name (out_of tag.name names h (not_true _ (and_parts (is_end_tag tag.kind) _ k).1)) n rules
plain-of kind tag h k n rules = no k

pub formatting-of : (kind : Kind) (tag : Tag) → formatting_kind kind ≡ true → is_of kind (TagToken tag) ≡ true
    → is_among tag.name (names_of set.FormattingEnd) ≡ true
formatting-of (Starts names) tag h k = among-all tag.name names (names_of set.FormattingEnd) h (and_parts (is_start_tag tag.kind) _ k).1
formatting-of (Ends names) tag h k = among-all tag.name names (names_of set.FormattingEnd) h (and_parts (is_end_tag tag.kind) _ k).1
formatting-of (StartsBut names) tag h k = no h
formatting-of (EndsBut names) tag h k = no h
formatting-of kind tag h k = no k

abbrev pub tame_in : Kind → Action → Bool
tame_in kind (Then a b) = tame_in kind a && tame_in kind b
tame_in kind (When c a) = tame_in kind a
tame_in kind Nothing = true
tame_in kind ParseError = true
tame_in kind InsertElement = plain_kind kind
tame_in kind InsertVoid = true
tame_in kind (InsertVoidAs name) = true
tame_in kind InsertFormVoid = true
tame_in kind (InsertNew name) = not (is_among name special_names)
tame_in kind (InsertNewVoid name) = true
tame_in kind AppendText = true
tame_in kind AppendReplacement = true
tame_in kind AppendComment = true
tame_in kind AppendCommentToDocument = true
tame_in kind AppendCommentToRoot = true
tame_in kind AddAttributesToRoot = true
tame_in kind AddAttributesToBody = true
tame_in kind RemoveBody = true
tame_in kind Pop = true
tame_in kind (PopUntil names) = true
tame_in kind (ClearBackTo names) = true
tame_in kind (Close names) = true
tame_in kind CloseToken = true
tame_in kind CloseP = true
tame_in kind (CloseItem names) = true
tame_in kind ImpliedEndTags = true
tame_in kind (ImpliedEndTagsExcept names) = true
tame_in kind ImpliedEndTagsExceptToken = true
tame_in kind ImpliedEndTagsThoroughly = true
tame_in kind AnyOtherEndTag = true
tame_in kind CheckBodyEnd = true
tame_in kind RemoveHeadElem = true
tame_in kind SetFormElem = true
tame_in kind RemoveFormElem = true
tame_in kind ForgetFormElem = true
tame_in kind Reconstruct = true
tame_in kind InsertFormatting = formatting_kind kind
tame_in kind InsertMarker = true
tame_in kind ClearToMarker = true
tame_in kind AdoptionAgency = true
tame_in kind AdoptNobr = true
tame_in kind CloseMisnestedA = true
tame_in kind SetQuirks = true
tame_in kind FramesetNotOk = true
tame_in kind FramesetNotOkUnlessWhite = true
tame_in kind IgnoreLineFeed = true
tame_in kind EnableFosterParenting = true
tame_in kind DisableFosterParenting = true
tame_in kind KeepText = true
tame_in kind InsertPendingText = true
tame_in kind (EnterForeign namespace) = not (is_html namespace)
tame_in kind PopForeign = true
tame_in kind CloseForeign = true
tame_in kind a = false

tag-tame : (step : Tag → State → State) (kind : Kind) (t : Token) → is_of kind t ≡ true
    → ((tag : Tag) → is_of kind (TagToken tag) ≡ true → Tames (step tag)) → Tames (for_tag step t)
tag-tame step kind (TagToken tag) f h s l = h tag f s l
tag-tame step kind t f h s l = same-tame s l

form_void-tame : (tag : Tag) → Tames (insert_form_void tag)
form_void-tame tag s l = let made = put_element-tame Html tag.name tag.attrs tag.had_duplicate_attributes s l in
    record { firm = made.firm; listed = made.listed }

form_void-aside : (tag : Tag) → Asides (insert_form_void tag)
form_void-aside tag s = let made = aside_kept.puts Html tag.name tag.attrs tag.had_duplicate_attributes s in
    record { mode = made.mode; original = made.original; modes = made.modes; head = made.head; context = made.context; ended = made.ended }

formatting-aside : (tag : Tag) → Asides (create_formatting_element_for tag)
unfolding create_formatting_element_for
formatting-aside tag s = after s _ _ (other s _ _ _ _ _) (list-keeps aside_kept tag _)

implied-aside : (implied : TagSet) → Asides (generate_implied_end_tags implied)
unfolding generate_implied_end_tags
implied-aside implied s = other s _ _ _ _ _

pending-tame : Tames insert_pending_text
unfolding insert_pending_text
pending-tame s l = let told = tell-tame s.pending_table_text s l in record { firm = told.firm; listed = told.listed }

pending-aside : Asides insert_pending_text
unfolding insert_pending_text
pending-aside s = let told = tell-keeps aside_kept s.pending_table_text s in record {
  mode = told.mode;
  original = told.original;
  modes = told.modes;
  head = told.head;
  context = told.context;
  ended = told.ended;
}

pub act-tame : (kind : Kind) (a : Action) → tame_in kind a ≡ true → (t : Token) → is_of kind t ≡ true → Tames (act a t)
unfolding append_comment append_comment_to_doc append_comment_to_html add_attributes_to_root add_attributes_to_body
    remove_body pop_but_root remove_head_elem remove_form_elem push_marker clear_active_formatting_to_marker
    handle_misnested_a_tags set_quirks_mode frameset_not_ok frameset_not_ok_unless_white set_ignore_lf
    set_foster_parenting set_form_elem forget_form_elem keep_text pop_foreign close_foreign foreign_end
act-tame kind (Then a b) p t f s l =
    let parts = and_parts (tame_in kind a) (tame_in kind b) p in
    after-tame s (act a t s) _ (act-tame kind a parts.0 t f s l) (act-tame kind b parts.1 t f (act a t s))
act-tame kind (When c a) p t f s l = either-tame (holds c t s) s (act a t s) s (act-tame kind a p t f s l) (same-tame s l)
act-tame kind Nothing p t f s l = same-tame s l
act-tame kind ParseError p t f s l = parse_error-tame s l
act-tame kind InsertElement p t f s l = tag-tame insert_element_for kind t f
    (λ tag n. insert_element-tame Html tag.name tag.attrs tag.had_duplicate_attributes (plain-of kind tag p n)) s l
act-tame kind InsertVoid p t f s l = tag-tame insert_and_pop_element_for kind t f
    (λ tag n. put_element-tame Html tag.name tag.attrs tag.had_duplicate_attributes) s l
act-tame kind (InsertVoidAs name) p t f s l =
    tag-tame (λ tag. insert_and_pop_element_for (record tag { name = name })) kind t f
    (λ tag n. put_element-tame Html name tag.attrs tag.had_duplicate_attributes) s l
act-tame kind InsertFormVoid p t f s l = tag-tame insert_form_void kind t f (λ tag n s l. form_void-tame tag s l) s l
act-tame kind (InsertNew name) p t f s l = insert_element-tame Html name [] false (plain-name name (not_true _ p)) s l
act-tame kind (InsertNewVoid name) p t f s l = put_element-tame Html name [] false s l
act-tame kind AppendText p t f s l = append_text-tame (text_of t) s l
act-tame kind AppendReplacement p t f s l = append_text-tame (0xFFFD ∷ []) s l
act-tame kind AppendComment p t f s l = part-tame s _ (part-same s.open_elems) l
act-tame kind AppendCommentToDocument p t f s l = part-tame s _ (part-same s.open_elems) l
act-tame kind AppendCommentToRoot p t f s l = part-tame s _ (part-same s.open_elems) l
act-tame kind AddAttributesToRoot p t f s l = part-tame s _ (part-same s.open_elems) l
act-tame kind AddAttributesToBody p t f s l = body-tame (body_elem s.open_elems) (attributes_of t) s l
act-tame kind RemoveBody p t f s l = after-tame s (remove_if (body_elem s.open_elems) s) _
    (remove_if-tame (body_elem s.open_elems) s l) (pop_until_current-tame (is_in set.Html) (remove_if (body_elem s.open_elems) s))
act-tame kind Pop p t f s l = part-tame s _ (part-but_root s.open_elems) l
act-tame kind (PopUntil names) p t f s l = pop_until-tame (is_in names) s l
act-tame kind (ClearBackTo names) p t f s l = pop_until_current-tame (is_in names) s l
act-tame kind (Close names) p t f s l = expect_to_close-tame (is_in names) s l
act-tame kind CloseToken p t f s l = expect_to_close-tame (is_named (name_of t)) s l
act-tame kind CloseP p t f s l = close_p-tame s l
act-tame kind (CloseItem names) p t f s l = close_item-tame names s l
act-tame kind ImpliedEndTags p t f s l = implied-tame set.CursoryImpliedEnd s l
act-tame kind (ImpliedEndTagsExcept names) p t f s l = except-tame (is_in names) s l
act-tame kind ImpliedEndTagsExceptToken p t f s l = except-tame (is_named (name_of t)) s l
act-tame kind ImpliedEndTagsThoroughly p t f s l = implied-tame set.ThoroughImpliedEnd s l
act-tame kind AnyOtherEndTag p t f s l = generic-tame (name_of t) s l
act-tame kind CheckBodyEnd p t f s l = check-tame s l
act-tame kind RemoveHeadElem p t f s l = unopened-tame s.head_elem s l
act-tame kind SetFormElem p t f s l = part-tame s _ (part-same s.open_elems) l
act-tame kind RemoveFormElem p t f s l = unopened-tame s.form_elem s l
act-tame kind ForgetFormElem p t f s l = part-tame s _ (part-same s.open_elems) l
act-tame kind Reconstruct p t f s l = reconstruct-tame s l
act-tame kind InsertFormatting p t f s l = tag-tame create_formatting_element_for kind t f
    (λ tag n. formatting-tame tag (formatting-of kind tag p n)) s l
act-tame kind InsertMarker p t f s l = part-tame s _ (part-same s.open_elems) l
act-tame kind ClearToMarker p t f s l = part-tame s _ (part-same s.open_elems) (behind-listed s.active_formatting l)
act-tame kind AdoptionAgency p t f s l = agency-tame (name_of t) s l
act-tame kind AdoptNobr p t f s l = agency-tame (codes "nobr") s l
act-tame kind CloseMisnestedA p t f s l = misnested-tame (last_named (codes "a") s.active_formatting) s l
act-tame kind SetQuirks p t f s l = part-tame s _ (part-same s.open_elems) l
act-tame kind FramesetNotOk p t f s l = part-tame s _ (part-same s.open_elems) l
act-tame kind FramesetNotOkUnlessWhite p t f s l = part-tame s _ (part-same s.open_elems) l
act-tame kind IgnoreLineFeed p t f s l = part-tame s _ (part-same s.open_elems) l
act-tame kind EnableFosterParenting p t f s l = part-tame s _ (part-same s.open_elems) l
act-tame kind DisableFosterParenting p t f s l = part-tame s _ (part-same s.open_elems) l
act-tame kind KeepText p t f s l = part-tame s _ (part-same s.open_elems) l
act-tame kind InsertPendingText p t f s l = pending-tame s l
act-tame kind (EnterForeign namespace) p t f s l = tag-tame (enter_foreign namespace) kind t f
    (λ tag n. enter-tame namespace tag (not_true _ p)) s l
act-tame kind PopForeign p t f s l = pop_until_current-tame (ends_foreign_in s) s l
act-tame kind CloseForeign p t f s l = close_by-tame (foreign_end (name_of t) s) s (foreign_end-part true (name_of t) s.open_elems) l
act-tame kind a p t f s l = no p

pub act-aside : (kind : Kind) (a : Action) → tame_in kind a ≡ true → (t : Token) → Asides (act a t)
unfolding append_comment append_comment_to_doc append_comment_to_html add_attributes_to_root add_attributes_to_body
    remove_body pop_but_root remove_head_elem remove_form_elem push_marker clear_active_formatting_to_marker
    handle_misnested_a_tags set_quirks_mode frameset_not_ok frameset_not_ok_unless_white set_ignore_lf
    set_foster_parenting set_form_elem forget_form_elem keep_text pop_foreign close_foreign foreign_end
act-aside kind (Then a b) p t s =
    let parts = and_parts (tame_in kind a) (tame_in kind b) p in
    after s (act a t s) _ (act-aside kind a parts.0 t s) (act-aside kind b parts.1 t (act a t s))
act-aside kind (When c a) p t s = either-keeps aside_kept (holds c t s) s (act a t s) s (act-aside kind a p t s) (same s)
act-aside kind Nothing p t s = same s
act-aside kind ParseError p t s = aside_kept.errs s
act-aside kind InsertElement p t s = for_tag-keeps aside_kept insert_element_for t (insert-keeps aside_kept) s
act-aside kind InsertVoid p t s = for_tag-keeps aside_kept insert_and_pop_element_for t
    (λ tag s. aside_kept.puts Html tag.name tag.attrs tag.had_duplicate_attributes s) s
act-aside kind (InsertVoidAs name) p t s = for_tag-keeps aside_kept
    (λ tag. insert_and_pop_element_for (record tag { name = name })) t
    (λ tag s. aside_kept.puts Html name tag.attrs tag.had_duplicate_attributes s) s
act-aside kind InsertFormVoid p t s = for_tag-keeps aside_kept insert_form_void t form_void-aside s
act-aside kind (InsertNew name) p t s = aside_kept.inserts Html name [] false s
act-aside kind (InsertNewVoid name) p t s = aside_kept.puts Html name [] false s
act-aside kind AppendText p t s = aside_kept.texts (text_of t) s
act-aside kind AppendReplacement p t s = aside_kept.texts (0xFFFD ∷ []) s
act-aside kind AppendComment p t s = other s _ _ _ _ _
act-aside kind AppendCommentToDocument p t s = other s _ _ _ _ _
act-aside kind AppendCommentToRoot p t s = other s _ _ _ _ _
act-aside kind AddAttributesToRoot p t s = other s _ _ _ _ _
act-aside kind AddAttributesToBody p t s = aside_kept.adds (body_elem s.open_elems) (attributes_of t) s
act-aside kind RemoveBody p t s = after s _ _ (aside_kept.removes (body_elem s.open_elems) s)
    (pop_until_current-keeps aside_kept (is_in set.Html) (remove_if (body_elem s.open_elems) s))
act-aside kind Pop p t s = other s _ _ _ _ _
act-aside kind (PopUntil names) p t s = pop_until-keeps aside_kept (is_in names) s
act-aside kind (ClearBackTo names) p t s = pop_until_current-keeps aside_kept (is_in names) s
act-aside kind (Close names) p t s = expect_to_close-keeps aside_kept (is_in names) s
act-aside kind CloseToken p t s = expect_to_close-keeps aside_kept (is_named (name_of t)) s
act-aside kind CloseP p t s = close_p-keeps aside_kept s
act-aside kind (CloseItem names) p t s = close_item-keeps aside_kept names s
act-aside kind ImpliedEndTags p t s = implied-aside set.CursoryImpliedEnd s
act-aside kind (ImpliedEndTagsExcept names) p t s = except-keeps aside_kept (is_in names) s
act-aside kind ImpliedEndTagsExceptToken p t s = except-keeps aside_kept (is_named (name_of t)) s
act-aside kind ImpliedEndTagsThoroughly p t s = implied-aside set.ThoroughImpliedEnd s
act-aside kind AnyOtherEndTag p t s = generic-keeps aside_kept (name_of t) s
act-aside kind CheckBodyEnd p t s = check-keeps aside_kept s
act-aside kind RemoveHeadElem p t s = unopened-keeps aside_kept s.head_elem s
act-aside kind SetFormElem p t s = record { mode = refl; original = refl; modes = refl; head = refl; context = refl; ended = refl }
act-aside kind RemoveFormElem p t s = unopened-keeps aside_kept s.form_elem s
act-aside kind ForgetFormElem p t s = record { mode = refl; original = refl; modes = refl; head = refl; context = refl; ended = refl }
act-aside kind Reconstruct p t s = reconstruct-keeps aside_kept s
act-aside kind InsertFormatting p t s = for_tag-keeps aside_kept create_formatting_element_for t formatting-aside s
act-aside kind InsertMarker p t s = other s _ _ _ _ _
act-aside kind ClearToMarker p t s = other s _ _ _ _ _
act-aside kind AdoptionAgency p t s = agency-keeps aside_kept (name_of t) s
act-aside kind AdoptNobr p t s = agency-keeps aside_kept (codes "nobr") s
act-aside kind CloseMisnestedA p t s = misnested-keeps aside_kept (last_named (codes "a") s.active_formatting) s
act-aside kind SetQuirks p t s = record { mode = refl; original = refl; modes = refl; head = refl; context = refl; ended = refl }
act-aside kind FramesetNotOk p t s = record { mode = refl; original = refl; modes = refl; head = refl; context = refl; ended = refl }
act-aside kind FramesetNotOkUnlessWhite p t s = record {
  mode = refl;
  original = refl;
  modes = refl;
  head = refl;
  context = refl;
  ended = refl;
}
act-aside kind IgnoreLineFeed p t s = record { mode = refl; original = refl; modes = refl; head = refl; context = refl; ended = refl }
act-aside kind EnableFosterParenting p t s = record {
  mode = refl;
  original = refl;
  modes = refl;
  head = refl;
  context = refl;
  ended = refl;
}
act-aside kind DisableFosterParenting p t s = record {
  mode = refl;
  original = refl;
  modes = refl;
  head = refl;
  context = refl;
  ended = refl;
}
act-aside kind KeepText p t s = record { mode = refl; original = refl; modes = refl; head = refl; context = refl; ended = refl }
act-aside kind InsertPendingText p t s = pending-aside s
act-aside kind (EnterForeign namespace) p t s = for_tag-keeps aside_kept (enter_foreign namespace) t (enter-keeps aside_kept namespace) s
act-aside kind PopForeign p t s = pop_until_current-keeps aside_kept (ends_foreign_in s) s
act-aside kind CloseForeign p t s = close_by-keeps aside_kept (foreign_end (name_of t) s) s
act-aside kind a p t s = no p
