-- The path of the spot that comes of a token.
use Rattle.std.proofs.Common.{◌≡◌, ◌∙◌, ℕ, zero, suc, Bool, true, false, not, List, ◌∷◌, Option, Some, None, refl, sym, ap, true≢false}
use Rattle.std.specs.List.{list_all, list_any}
use Rattle.std.specs.Prelude.{◌&&◌, ◌||◌, IfSome, codes, is_none}
use Rattle.markup.specs.declared.attributes.Attribute.{Attribute}
use Rattle.html_tokens.specs.declared.tags.Tag.{Tag}
use Rattle.html_tokens.specs.declared.token.Token.{Token}
use Rattle.html_tokens.specs.declared.token.Token.TheVariants.{TagToken}
use Rattle.html_rules.specs.Choice.{choose}
use Rattle.html_rules.specs.Conditions.{form_is_current, holds, is_alone, is_nonempty}
use Rattle.html_rules.specs.ForeignContent.{is_end_tag, is_foreign, is_named_any_case}
use Rattle.html_rules.specs.Modes.Foreign.{in_foreign_content}
use Rattle.html_rules.specs.Names.{Html, Namespace}
use Rattle.html_rules.specs.Renames.{adjust_attributes, adjust_tag_name}
use Rattle.html_rules.specs.Rules.{first_fit, rows}
use Rattle.html_rules.specs.Stack.{in_scope, item_name, without_current}
use Rattle.html_rules.specs.State.{Open, current_is, current_node, is_in, is_named}
use Rattle.html_rules.specs.Table.{Action, Conclusion, Row}
use Rattle.html_rules.specs.Table as table
use Rattle.html_rules.specs.Tokens.{is_shadow_mode, name_of}
use Rattle.html_rules.specs.declared.rules.Rules.{Rules}
use Rattle.html_rules.specs.declared.tag_set.TagSet.TheVariants as set
use Rattle.html_faithful.specs.Harmless.{Change, EntryLeft, EntryPushed, FormForgotten, FormSet, Made, MarkerLeft, MarkerPushed, Put}
use Rattle.html_faithful.specs.Harmless.{Unchanged}
use Rattle.html_faithful.specs.Harmless.{CommentHere, InDocument, InRoot, TextHere}
use Rattle.html_faithful.specs.Harmless.{and_then, asks_pointers, at_mode, by_rows, changes, closes_if, concludes, does, ends_current}
use Rattle.html_faithful.specs.Harmless.{for_start, implies, is_fresh}
use Rattle.html_faithful.specs.Harmless.{is_opened, is_unchanged, is_untouched, made_of, may_go_on, nothing_yet, opens, opens_foreign}
use Rattle.html_faithful.specs.Harmless.{provided, puts}
use Rattle.html_faithful.specs.Harmless as put
use Rattle.html_faithful.specs.Spots.{Spot, form_of, hollow, opened_at}
use Rattle.html_faithful.specs.Ways.{path_by}

bind : (o : Option Made) (f : Made → Option Made) (P : Made → Type 0) → IfSome o P
    → ((m : Made) → P m → IfSome (f m) P) → IfSome (and_then o f) P
bind None f P h g = tt
bind (Some m) f P h g = g m h

if-so : (b : Bool) (m : Made) (P : Made → Type 0) → (b ≡ true → P m) → IfSome (provided b m) P
if-so true m P h = h refl
if-so false m P h = tt

either : (b : Bool) (x y : Option Made) (P : Made → Type 0) → IfSome x P → IfSome y P → IfSome (choose b (λ _. x) (λ _. y)) P
either true x y P h g = h
either false x y P h g = g

-- where nothing was put or closed yet
fresh-path : (rules : Rules) (put : Option Put) (closed : Bool) (path : List Open) → (is_none put && not closed) ≡ true → path_by rules put closed path ≡ path
fresh-path rules None false path h = refl
fresh-path rules None true path h = absurd (true≢false (sym h))
fresh-path rules (Some x) closed path h = absurd (true≢false (sym h))

still-open : (put : Option Put) (closed : Bool) → (is_none put && not closed) ≡ true → closed ≡ false
still-open None false h = refl
still-open None true h = absurd (true≢false (sym h))
still-open (Some x) closed h = absurd (true≢false (sym h))

module _ (path : List Open) where
  abbrev pub OnWay : Made → Type 0
  OnWay made = made.spot.path ≡ path_by made.spot.rules made.put made.closed path

  changed : (change : Change) (made : Made) → OnWay made → IfSome (changes change made) OnWay
  changed change made h = if-so (is_unchanged made.change) (record made { change = change }) OnWay (λ e. h)

  put-so : (node : Put) (made : Made) → path_by made.spot.rules (Some node) false path ≡ path → OnWay made → IfSome (puts node made) OnWay
  put-so node made plain h =
      if-so (is_fresh made) (record made { put = Some node }) OnWay
      (λ e. h ∙ (fresh-path made.spot.rules made.put made.closed path e ∙ (sym plain
      ∙ sym (ap (λ c. path_by made.spot.rules (Some node) c path) (still-open made.put made.closed e)))))

  opened-so : (namespace : Namespace) (name : List ℕ) (attributes : List Attribute) (made : Made) → OnWay made
      → IfSome (opens namespace name attributes made) OnWay
  opened-so namespace name attributes made h =
      if-so (is_fresh made) (record made {
        put = Some (put.Element namespace name attributes true);
        spot = record made.spot { path = opened_at made.spot.rules namespace name made.spot.path ∷ made.spot.path };
      }) OnWay
      (λ e. ap (λ xs. opened_at made.spot.rules namespace name xs ∷ xs) (h ∙ fresh-path made.spot.rules made.put made.closed path e)
      ∙ sym (ap (λ c. path_by made.spot.rules (Some (put.Element namespace name attributes true)) c path) (still-open made.put made.closed e)))

  foreign-so : (o : Option Open) (tag : Tag) (made : Made) → OnWay made → IfSome (opens_foreign o tag made) OnWay
  foreign-so None tag made h = tt
  foreign-so (Some x) tag made h = opened-so x.namespace (adjust_tag_name x.namespace tag.name)
      (adjust_attributes x.namespace tag.attrs) made h

  start-so : (t : Token) (step : Tag → Made → Option Made) (made : Made) → ((tag : Tag) → IfSome (step tag made) OnWay)
      → IfSome (for_start step t made) OnWay
  start-so (TagToken tag) step made h = either (is_end_tag tag.kind || tag.self_closing) None (step tag made) OnWay tt (h tag)
  start-so t step made h = tt

  closed-so : (q : Open → Bool) (t : Token) (made : Made) → OnWay made → IfSome (closes_if q t made) OnWay
  closed-so q t made h =
      let after = record made { closed = true; spot = record made.spot { path = without_current made.spot.path } } in
      either (current_is q made.spot.path && ends_current t made.spot.path) (provided (is_fresh made) after) None OnWay
      (if-so (is_fresh made) after OnWay (λ e. ap without_current (h ∙ fresh-path made.spot.rules made.put made.closed path e))) tt

  module _ (t : Token) where
    pub ways : (a : Action) (made : Made) → OnWay made → IfSome (does a t made) OnWay
    ways table.Nothing made h = h
    ways (table.Then a b) made h = bind (does a t made) (λ m. does b t m) OnWay (ways a made h) (λ m g. ways b m g)
    ways (table.When c a) made h =
        either (asks_pointers c && not (is_untouched made)) None
        (choose (holds c t (hollow made.spot)) (λ _. does a t made) (λ _. Some made)) OnWay tt
        (either (holds c t (hollow made.spot)) (does a t made) (Some made) OnWay (ways a made h) h)
    ways table.CreateRoot made h =
        start-so t (λ tag made. choose (is_nonempty made.spot.path) (λ _. None) (λ _. opens Html (codes "html") tag.attrs made)) made
        (λ tag. either (is_nonempty made.spot.path) None (opens Html (codes "html") tag.attrs made) OnWay tt
        (opened-so Html (codes "html") tag.attrs made h))
    ways table.InsertElement made h =
        start-so t (λ tag made. opens Html tag.name tag.attrs made) made (λ tag. opened-so Html tag.name tag.attrs made h)
    ways table.InsertFormatting made h =
        start-so t (λ tag made. and_then (opens Html tag.name tag.attrs made) (λ made. changes EntryPushed made)) made
        (λ tag. bind (opens Html tag.name tag.attrs made) (λ made. changes EntryPushed made) OnWay
        (opened-so Html tag.name tag.attrs made h) (λ m g. changed EntryPushed m g))
    ways table.InsertTemplate made h =
        start-so t (λ tag made. choose (list_any is_shadow_mode tag.attrs) (λ _. None) (λ _. opens Html tag.name tag.attrs made)) made
        (λ tag. either (list_any is_shadow_mode tag.attrs) None (opens Html tag.name tag.attrs made) OnWay tt
        (opened-so Html tag.name tag.attrs made h))
    ways table.InsertVoid made h =
        start-so t (λ tag made. puts (put.Element Html tag.name tag.attrs false) made) made
        (λ tag. put-so (put.Element Html tag.name tag.attrs false) made refl h)
    ways (table.EnterForeign namespace) made h =
        start-so t (λ tag made. opens namespace tag.name (adjust_attributes namespace tag.attrs) made) made
        (λ tag. opened-so namespace tag.name (adjust_attributes namespace tag.attrs) made h)
    ways table.InsertForeign made h =
        start-so t (λ tag made. opens_foreign (current_node made.spot.path) tag made) made
        (λ tag. foreign-so (current_node made.spot.path) tag made h)
    ways table.AppendText made h = put-so TextHere made refl h
    ways table.AppendComment made h = put-so CommentHere made refl h
    ways table.AppendCommentToRoot made h = put-so InRoot made refl h
    ways table.AppendCommentToDocument made h = put-so InDocument made refl h
    ways table.CloseP made h =
        either (in_scope set.ButtonScope (is_in set.P) made.spot.path) (closes_if (is_in set.P) t made) (Some made) OnWay
        (closed-so (is_in set.P) t made h) h
    ways (table.PopUntil names) made h = closed-so (is_in names) t made h
    ways (table.Close names) made h = closed-so (is_in names) t made h
    ways table.CloseToken made h = closed-so (is_named (name_of t)) t made h
    ways table.AnyOtherEndTag made h = closed-so (is_named (name_of t)) t made h
    ways table.AdoptionAgency made h =
        either (is_untouched made) (and_then (closes_if (is_named (name_of t)) t made) (λ made. changes EntryLeft made)) None OnWay
        (bind (closes_if (is_named (name_of t)) t made) (λ made. changes EntryLeft made) OnWay
        (closed-so (is_named (name_of t)) t made h) (λ m g. changed EntryLeft m g)) tt
    ways table.Pop made h = closed-so (λ x. not (is_in set.Html x)) t made h
    ways table.RemoveFormElem made h =
        either (is_untouched made && form_is_current (form_of made.spot.path) made.spot.path) (closes_if (is_in set.Form) t made) None OnWay
        (closed-so (is_in set.Form) t made h) tt
    ways table.CloseForeign made h =
        either (is_alone made.spot.path) None (closes_if (is_named_any_case (name_of t)) t made) OnWay tt
        (closed-so (is_named_any_case (name_of t)) t made h)
    ways (table.CloseItem items) made h = if-so (is_none (item_name items made.spot.path)) made OnWay (λ e. h)
    ways (table.ClearBackTo names) made h = if-so (current_is (is_in names) made.spot.path) made OnWay (λ e. h)
    ways table.ImpliedEndTags made h = if-so (not (implies set.CursoryImpliedEnd (λ x. false) made)) made OnWay (λ e. h)
    ways (table.ImpliedEndTagsExcept names) made h = if-so (not (implies set.CursoryImpliedEnd (is_in names) made)) made OnWay (λ e. h)
    ways table.ImpliedEndTagsExceptToken made h =
        if-so (not (implies set.CursoryImpliedEnd (is_named (name_of t)) made)) made OnWay (λ e. h)
    ways table.ImpliedEndTagsThoroughly made h = if-so (not (implies set.ThoroughImpliedEnd (λ x. false) made)) made OnWay (λ e. h)
    ways table.CheckBodyEnd made h = if-so (list_all (is_in set.BodyEnd) made.spot.path) made OnWay (λ e. h)
    ways table.Reconstruct made h = if-so (is_untouched made) made OnWay (λ e. h)
    ways table.InsertMarker made h = changed MarkerPushed made h
    ways table.ClearToMarker made h = changed MarkerLeft made h
    ways table.SetFormElem made h = if-so (is_opened made.put && not made.closed) (record made { form = FormSet }) OnWay (λ e. h)
    ways table.ForgetFormElem made h = if-so made.closed (record made { form = FormForgotten }) OnWay (λ e. h)
    ways table.FramesetNotOk made h = h
    ways table.FramesetNotOkUnlessWhite made h = h
    ways (table.SwitchTo mode) made h = h
    ways table.SaveMode made h = h
    ways table.RestoreMode made h = h
    ways table.ResetMode made h = h
    ways (table.PushTemplateMode mode) made h = h
    ways (table.SetTemplateMode mode) made h = h
    ways table.PopTemplateMode made h = h
    ways table.SetHeadElem made h = h
    ways table.IgnoreLineFeed made h = h
    ways a made h = tt

    concluded-so : (again : List Row → Made → Option Made) → ((rs : List Row) (m : Made) → OnWay m → IfSome (again rs m) OnWay)
        → (c : Conclusion) (made : Made) → OnWay made → IfSome (concludes again t c made) OnWay
    concluded-so again law table.Done made h = h
    concluded-so again law table.Acknowledged made h = h
    concluded-so again law table.ReportEncoding made h = h
    concluded-so again law table.RunScript made h = h
    concluded-so again law (table.RawText kind) made h = h
    concluded-so again law (table.Using mode) made h =
        either (is_untouched made) (again (rows mode) made) None OnWay (law (rows mode) made h) tt
    concluded-so again law (table.Reprocess mode) made h =
        either (may_go_on t (at_mode mode made)) (again (rows mode) (at_mode mode made)) None OnWay
        (law (rows mode) (at_mode mode made) h) tt
    concluded-so again law c made h = tt

    rows-so : (n : ℕ) (rs : List Row) (made : Made) → OnWay made → IfSome (by_rows n rs t made) OnWay
    unfolding by_rows
    rows-so zero rs made h = tt
    rows-so (suc n) rs made h =
        let r = first_fit rs t (hollow made.spot) in
        bind (does r.does t made) (λ made. concludes (λ rs made. by_rows n rs t made) t r.ends made) OnWay (ways r.does made h)
        (λ m g. concluded-so (λ rs made. by_rows n rs t made) (λ rs m k. rows-so n rs m k) r.ends m g)

pub paths-followed : (t : Token) (p : Spot) → IfSome (made_of t p) (λ made. made.spot.path ≡ path_by made.spot.rules made.put made.closed p.path)
unfolding made_of
paths-followed t p = rows-so p.path t 4 (choose (is_foreign (hollow p) t) (λ _. in_foreign_content) (λ _. rows p.mode)) (nothing_yet p) refl
