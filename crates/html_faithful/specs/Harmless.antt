-- What the rules of tree construction (HTML Standard, section 13.2.6) make of a token at a spot, where they do nothing but put one node
-- there, or close the current node.
use Rattle.std.specs.Prelude.{ℕ, zero, suc, Bool, true, false, ◌&&◌, ◌||◌, not, List, ◌∷◌, Option, Some, None, is_none, codes}
use Rattle.std.specs.List.{list_all, list_any}
use Rattle.markup.specs.declared.attributes.Attribute.{Attribute}
use Rattle.html_tokens.specs.declared.states.RawKind.{RawKind}
use Rattle.html_tokens.specs.declared.tags.Tag.{Tag}
use Rattle.html_tokens.specs.declared.token.Token.{Token}
use Rattle.html_tokens.specs.declared.token.Token.TheVariants.{TagToken}
use Rattle.html_rules.specs.Actions.{or_mode, without_first}
use Rattle.html_rules.specs.Choice.{choose}
use Rattle.html_rules.specs.Conditions.{form_is_current, holds, is_alone, is_nonempty}
use Rattle.html_rules.specs.ForeignContent.{is_end_tag, is_foreign, is_named_any_case}
use Rattle.html_rules.specs.Modes.Foreign.{in_foreign_content}
use Rattle.html_rules.specs.Names.{Namespace, Html}
use Rattle.html_rules.specs.Renames.{adjust_attributes, adjust_tag_name}
use Rattle.html_rules.specs.Reset.{mode_of_open}
use Rattle.html_rules.specs.Rules.{first_fit, rows}
use Rattle.html_rules.specs.Stack.{has_open, in_scope, item_name, without_current}
use Rattle.html_rules.specs.State.{Open, current_is, current_node, is_in, is_named}
use Rattle.html_rules.specs.Table.{Action, Conclusion, Condition, Row}
use Rattle.html_rules.specs.Table as table
use Rattle.html_rules.specs.Tokens.{is_shadow_mode, is_white, name_of, text_of}
use Rattle.html_rules.specs.declared.insertion_mode.InsertionMode.{InsertionMode}
use Rattle.html_rules.specs.declared.tag_set.TagSet.{TagSet}
use Rattle.html_rules.specs.declared.tag_set.TagSet.TheVariants as set
use Rattle.html_faithful.specs.Spots.{Spot, form_of, hollow, opened_at}

-- what was put into the tree: an element, which was opened or was not; a text or a comment, last in the current node; a comment, last in
-- the root or in the document
pub data Put : Type 0 where
  Element : (namespace : Namespace) (name : List ℕ) (attributes : List Attribute) (opened : Bool) → Put
  TextHere : Put
  CommentHere : Put
  InRoot : Put
  InDocument : Put

-- what became of the list of active formatting elements
pub data Change : Type 0 where
  Unchanged : Change
  EntryPushed : Change
  MarkerPushed : Change
  EntryLeft : Change
  MarkerLeft : Change

-- what became of the form element pointer
pub data FormChange : Type 0 where
  FormKept : FormChange
  FormSet : FormChange
  FormForgotten : FormChange

-- what came of a token so far
pub record Made : Type 0 where
  pub spot : Spot
  pub put : Option Put
  -- whether the current node was closed
  pub closed : Bool
  pub change : Change
  pub form : FormChange
  -- the raw text that follows; whether a line feed that comes next is dropped
  pub raw : Option RawKind
  pub drops_line_feed : Bool

abbrev pub nothing_yet : Spot → Made
nothing_yet p = record { spot = p; put = None; closed = false; change = Unchanged; form = FormKept; raw = None; drops_line_feed = false }

abbrev pub and_then : {A B : Type 0} → Option A → (A → Option B) → Option B
and_then None f = None
and_then (Some x) f = f x

abbrev pub provided : Bool → Made → Option Made
provided true made = Some made
provided false made = None

abbrev pub is_unchanged : Change → Bool
is_unchanged Unchanged = true
is_unchanged change = false

-- nothing was put or closed yet
abbrev pub is_fresh : Made → Bool
is_fresh made = is_none made.put && not made.closed

abbrev pub is_opened : Option Put → Bool
is_opened (Some (Element namespace name attributes opened)) = opened
is_opened put = false

-- nor did the list change
abbrev pub is_untouched : Made → Bool
is_untouched made = is_fresh made && is_unchanged made.change

-- the list changes once
abbrev pub changes : Change → Made → Option Made
changes change made = provided (is_unchanged made.change) (record made { change = change })

-- conditions on the form element pointer and on the list
abbrev pub asks_pointers : Condition → Bool
asks_pointers (table.Not c) = asks_pointers c
asks_pointers (table.Both c d) = asks_pointers c || asks_pointers d
asks_pointers table.HasFormElem = true
asks_pointers table.FormElemInScope = true
asks_pointers table.FormElemIsCurrent = true
asks_pointers table.AListed = true
asks_pointers c = false

-- THE SPOT

abbrev pub at_mode : InsertionMode → Made → Made
at_mode mode made = record made { spot = record made.spot { mode = mode } }

abbrev pub with_template_modes : List InsertionMode → Made → Made
with_template_modes modes made = record made { spot = record made.spot { template_modes = modes } }

-- WHAT IS PUT, AND WHAT IS CLOSED

-- one node is put for a token, and no other
abbrev pub puts : Put → Made → Option Made
puts put made = provided (is_fresh made) (record made { put = Some put })

-- an element is put, and opened
abbrev pub opens : Namespace → List ℕ → List Attribute → Made → Option Made
opens namespace name attributes made =
    puts (Element namespace name attributes true)
    (record made { spot = record made.spot { path = opened_at made.spot.rules namespace name made.spot.path ∷ made.spot.path } })

-- for a start tag that does not close itself
abbrev pub for_start : (Tag → Made → Option Made) → Token → Made → Option Made
for_start step (TagToken tag) made = choose (is_end_tag tag.kind || tag.self_closing) (λ _. None) (λ _. step tag made)
for_start step t made = None

-- an element of foreign content, in the namespace of the current node
abbrev pub opens_foreign : Option Open → Tag → Made → Option Made
opens_foreign None tag made = None
opens_foreign (Some x) tag made =
    opens x.namespace (adjust_tag_name x.namespace tag.name) (adjust_attributes x.namespace tag.attrs) made

-- whether a token is the end tag of the current node
abbrev pub ends_current : Token → List Open → Bool
ends_current (TagToken tag) path = is_end_tag tag.kind && current_is (is_named_any_case tag.name) path
ends_current t path = false

-- the current node, which passes, is closed by its own end tag, once
abbrev pub closes_if : (Open → Bool) → Token → Made → Option Made
closes_if p t made =
    choose (current_is p made.spot.path && ends_current t made.spot.path)
    (λ _. provided (is_fresh made) (record made { closed = true; spot = record made.spot { path = without_current made.spot.path } }))
    (λ _. None)

-- whether end tags would be implied here
abbrev pub implies : TagSet → (Open → Bool) → Made → Bool
implies implied except made = current_is (λ x. is_in implied x && not (except x)) made.spot.path

-- an action that only puts one node, closes the current node, or moves what no tree shows
abbrev pub does : Action → Token → Made → Option Made
does table.Nothing t made = Some made
does (table.Then a b) t made = and_then (does a t made) (λ made. does b t made)
does (table.When c a) t made =
    choose (asks_pointers c && not (is_untouched made)) (λ _. None)
    (λ _. choose (holds c t (hollow made.spot)) (λ _. does a t made) (λ _. Some made))
-- an element, a text, a comment is put
does table.CreateRoot t made =
    for_start (λ tag made. choose (is_nonempty made.spot.path) (λ _. None) (λ _. opens Html (codes "html") tag.attrs made)) t made
does table.InsertElement t made = for_start (λ tag made. opens Html tag.name tag.attrs made) t made
does table.InsertFormatting t made =
    for_start (λ tag made. and_then (opens Html tag.name tag.attrs made) (λ made. changes EntryPushed made)) t made
does table.InsertTemplate t made =
    for_start (λ tag made. choose (list_any is_shadow_mode tag.attrs) (λ _. None) (λ _. opens Html tag.name tag.attrs made)) t made
does table.InsertVoid t made = for_start (λ tag made. puts (Element Html tag.name tag.attrs false) made) t made
does (table.EnterForeign namespace) t made = for_start (λ tag made. opens namespace tag.name
    (adjust_attributes namespace tag.attrs) made) t made
does table.InsertForeign t made = for_start (λ tag made. opens_foreign (current_node made.spot.path) tag made) t made
does table.AppendText t made = puts TextHere made
does table.AppendComment t made = puts CommentHere made
does table.AppendCommentToRoot t made = puts InRoot made
does table.AppendCommentToDocument t made = puts InDocument made
-- the current node is closed
does table.CloseP t made = choose (in_scope set.ButtonScope (is_in set.P) made.spot.path)
    (λ _. closes_if (is_in set.P) t made) (λ _. Some made)
does (table.PopUntil names) t made = closes_if (is_in names) t made
does (table.Close names) t made = closes_if (is_in names) t made
does table.CloseToken t made = closes_if (is_named (name_of t)) t made
does table.AnyOtherEndTag t made = closes_if (is_named (name_of t)) t made
does table.AdoptionAgency t made =
    choose (is_untouched made) (λ _. and_then (closes_if (is_named (name_of t)) t made) (λ made. changes EntryLeft made)) (λ _. None)
does table.Pop t made = closes_if (λ x. not (is_in set.Html x)) t made
does table.RemoveFormElem t made = choose (is_untouched made && form_is_current (form_of made.spot.path) made.spot.path)
    (λ _. closes_if (is_in set.Form) t made) (λ _. None)
does table.CloseForeign t made = choose (is_alone made.spot.path) (λ _. None) (λ _. closes_if (is_named_any_case (name_of t)) t made)
-- nothing else would be closed
does (table.CloseItem items) t made = provided (is_none (item_name items made.spot.path)) made
does (table.ClearBackTo names) t made = provided (current_is (is_in names) made.spot.path) made
does table.ImpliedEndTags t made = provided (not (implies set.CursoryImpliedEnd (λ x. false) made)) made
does (table.ImpliedEndTagsExcept names) t made = provided (not (implies set.CursoryImpliedEnd (is_in names) made)) made
does table.ImpliedEndTagsExceptToken t made = provided (not (implies set.CursoryImpliedEnd (is_named (name_of t)) made)) made
does table.ImpliedEndTagsThoroughly t made = provided (not (implies set.ThoroughImpliedEnd (λ x. false) made)) made
does table.CheckBodyEnd t made = provided (list_all (is_in set.BodyEnd) made.spot.path) made
-- the list of formatting elements is that of the path, so nothing is opened again
does table.Reconstruct t made = provided (is_untouched made) made
does table.InsertMarker t made = changes MarkerPushed made
does table.ClearToMarker t made = changes MarkerLeft made
-- so is the form element pointer
does table.SetFormElem t made = provided (is_opened made.put && not made.closed) (record made { form = FormSet })
does table.ForgetFormElem t made = provided made.closed (record made { form = FormForgotten })
does table.FramesetNotOk t made = Some (record made { spot = record made.spot { frameset_ok = false } })
does table.FramesetNotOkUnlessWhite t made =
    Some (record made { spot = record made.spot { frameset_ok = made.spot.frameset_ok && is_white (text_of t) } })
-- modes and flags
does (table.SwitchTo mode) t made = Some (at_mode mode made)
does table.SaveMode t made = Some (record made { spot = record made.spot { orig_mode = Some made.spot.mode } })
does table.RestoreMode t made =
    Some (record made { spot = record made.spot { mode = or_mode made.spot.orig_mode made.spot.mode; orig_mode = None } })
does table.ResetMode t made = Some (at_mode (mode_of_open (hollow made.spot) made.spot.path) made)
does (table.PushTemplateMode mode) t made = Some (with_template_modes (mode ∷ made.spot.template_modes) made)
does (table.SetTemplateMode mode) t made = Some (with_template_modes (mode ∷ without_first made.spot.template_modes) made)
does table.PopTemplateMode t made = Some (with_template_modes (without_first made.spot.template_modes) made)
does table.SetHeadElem t made = Some (record made { spot = record made.spot { has_head = true } })
does table.IgnoreLineFeed t made = Some (record made { drops_line_feed = true })
-- all else does more, or is an error
does a t made = None

abbrev pub with_raw : Option RawKind → Made → Made
with_raw raw made = record made { raw = raw }

-- the token is taken again in another mode, by the rules of that mode
abbrev pub may_go_on : Token → Made → Bool
may_go_on t made = is_untouched made && (not (is_foreign (hollow made.spot) t) && not (has_open set.AnnotationXml made.spot.path))

-- how a row ends; `again` has what other rows make of the token
abbrev pub concludes : (List Row → Made → Option Made) → Token → Conclusion → Made → Option Made
concludes again t table.Done made = Some (with_raw None made)
concludes again t table.Acknowledged made = Some (with_raw None made)
concludes again t table.ReportEncoding made = Some (with_raw None made)
concludes again t table.RunScript made = Some (with_raw None made)
concludes again t (table.RawText kind) made = Some (with_raw (Some kind) made)
concludes again t (table.Using mode) made = choose (is_untouched made) (λ _. again (rows mode) made) (λ _. None)
concludes again t (table.Reprocess mode) made =
    let m = at_mode mode made in choose (may_go_on t m) (λ _. again (rows mode) m) (λ _. None)
concludes again t ends made = None

-- the row that the rules meet does no harm, nor does one that it leads to
unfoldable pub by_rows : ℕ → List Row → Token → Made → Option Made
by_rows zero table t made = None
by_rows (suc n) table t made =
    let r = first_fit table t (hollow made.spot) in
    and_then (does r.does t made) (λ made. concludes (λ table made. by_rows n table t made) t r.ends made)

-- what the rules make of a token, where they do no harm
unfoldable pub made_of : Token → Spot → Option Made
made_of t p = by_rows 4 (choose (is_foreign (hollow p) t) (λ _. in_foreign_content) (λ _. rows p.mode)) t (nothing_yet p)
