-- What is made of a start tag does not depend on its attributes, but for what rules ask of them.
use Rattle.std.proofs.Common.{◌≡◌, ◌∙◌, ℕ, zero, suc, Bool, true, false, not, List, [], ◌∷◌, Option, Some, None, refl, sym, ap, ap₂}
use Rattle.std.specs.Prelude.{◌&&◌, codes, is_none}
use Rattle.std.specs.List.{list_all, list_any}
use Rattle.markup.specs.declared.attributes.Attribute.{Attribute}
use Rattle.html_tokens.specs.Tags.{named}
use Rattle.html_tokens.specs.declared.tags.TagKind.TheVariants.{StartTag}
use Rattle.html_tokens.specs.declared.token.Token.{Token}
use Rattle.html_tokens.specs.declared.token.Token.TheVariants.{TagToken}
use Rattle.html_rules.specs.Choice.{choose}
use Rattle.html_rules.specs.Conditions.{form_is_current, holds, is_alone, is_nonempty}
use Rattle.html_rules.specs.ForeignContent.{is_font_attribute, is_foreign, is_foreign_at, is_named_any_case}
use Rattle.html_rules.specs.Modes.Foreign.{in_foreign_content}
use Rattle.html_rules.specs.Names.{Html, Namespace}
use Rattle.html_rules.specs.Renames.{adjust_attributes}
use Rattle.html_rules.specs.Renames.{adjust_tag_name}
use Rattle.html_rules.specs.Rules.{first_fit, fits, rows}
use Rattle.html_rules.specs.Stack.{has_open, in_scope, item_name, without_current}
use Rattle.html_rules.specs.State.{Open, State, adjusted_current_node, current_is, current_node, is_in, is_named}
use Rattle.html_rules.specs.Table as table
use Rattle.html_rules.specs.Table.{Action, Class, Condition, Conclusion, Row}
use Rattle.html_rules.specs.Tokens.{class_fits, is_shadow_mode, is_type_hidden}
use Rattle.html_rules.specs.declared.tag_set.TagSet.TheVariants as set
use Rattle.html_faithful.specs.Harmless.{Change, Made, Put, and_then, by_rows, changes, closes_if, concludes, does, ends_current}
use Rattle.html_faithful.specs.Harmless.{is_fresh, is_opened}
use Rattle.html_faithful.specs.Harmless.{asks_pointers, at_mode, implies, is_unchanged, is_untouched, made_of, may_go_on, nothing_yet}
use Rattle.html_faithful.specs.Harmless.{opens, opens_foreign, provided, puts}
use Rattle.html_faithful.specs.Harmless as put
use Rattle.html_faithful.specs.Spots.{Spot, form_of, hollow, opened_at}

-- WHAT IS PUT

abbrev pub put_with : (List Attribute → List Attribute) → Option Put → Option Put
put_with dress (Some (put.Element namespace name attributes opened)) =
    Some (put.Element namespace name (dress attributes) opened)
put_with dress what = what

abbrev pub made_with : (List Attribute → List Attribute) → Made → Made
made_with dress made = record made { put = put_with dress made.put }

abbrev pub option_with : (List Attribute → List Attribute) → Option Made → Option Made
option_with dress None = None
option_with dress (Some made) = Some (made_with dress made)

module _ (dress : List Attribute → List Attribute) where
  choose-with : (b : Bool) (x y : Option Made) → option_with dress (choose b (λ _. x) (λ _. y))
      ≡ choose b (λ _. option_with dress x) (λ _. option_with dress y)
  choose-with true x y = refl
  choose-with false x y = refl

  provided-with : (b : Bool) (made : Made) → option_with dress (provided b made) ≡ provided b (made_with dress made)
  provided-with true made = refl
  provided-with false made = refl

  no-put : (what : Option Put) → is_none (put_with dress what) ≡ is_none what
  no-put None = refl
  no-put (Some (put.Element namespace name attributes opened)) = refl
  no-put (Some put.TextHere) = refl
  no-put (Some put.CommentHere) = refl
  no-put (Some put.InRoot) = refl
  no-put (Some put.InDocument) = refl

  pub same-opened : (what : Option Put) → is_opened (put_with dress what) ≡ is_opened what
  same-opened None = refl
  same-opened (Some (put.Element namespace name attributes opened)) = refl
  same-opened (Some put.TextHere) = refl
  same-opened (Some put.CommentHere) = refl
  same-opened (Some put.InRoot) = refl
  same-opened (Some put.InDocument) = refl

  then-with : (o : Option Made) (f g : Made → Option Made) → ((made : Made) → option_with dress (f made) ≡ g (made_with dress made))
      → option_with dress (and_then o f) ≡ and_then (option_with dress o) g
  then-with None f g h = refl
  then-with (Some made) f g h = h made

-- ACTIONS

abbrev pub start_of : List ℕ → List Attribute → Token
start_of name attributes = TagToken (record (named StartTag name) { attrs = attributes })

module _ (dress : List Attribute → List Attribute) (name : List ℕ) (attributes : List Attribute)
    (adjusted : (namespace : Namespace) (xs : List Attribute)
    → dress (adjust_attributes namespace xs) ≡ adjust_attributes namespace (dress xs))
    (hidden : is_type_hidden (start_of name attributes) ≡ is_type_hidden (start_of name (dress attributes)))
    (font : list_any is_font_attribute attributes ≡ list_any is_font_attribute (dress attributes))
    (shadow : list_any is_shadow_mode attributes ≡ list_any is_shadow_mode (dress attributes)) where
  abbrev one : Token
  one = start_of name attributes

  abbrev other : Token
  other = start_of name (dress attributes)

  abbrev Same : Option Made → Option Made → Type 0
  Same o p = option_with dress o ≡ p

  -- conditions ask the same
  holds-same : (c : Condition) (s : State) → holds c one s ≡ holds c other s
  holds-same (table.Not c) s = ap not (holds-same c s)
  holds-same (table.Both c d) s = ap₂ (λ a b. a && b) (holds-same c s) (holds-same d s)
  holds-same table.TypeHidden s = hidden
  holds-same table.FontAttributes s = font
  holds-same c s = refl

  class-same : (c : Class) → class_fits c one ≡ class_fits c other
  class-same (table.StartTags names) = refl
  class-same (table.EndTags names) = refl
  class-same table.AnyStartTag = refl
  class-same table.AnyEndTag = refl
  class-same c = refl

  fits-same : (r : Row) (s : State) → fits r one s ≡ fits r other s
  fits-same r s = ap₂ (λ a b. choose a (λ _. b) (λ _. false)) (class-same r.on) (holds-same r.when s)

  row-same : (rows : List Row) (s : State) → first_fit rows one s ≡ first_fit rows other s
  row-same [] s = refl
  row-same (r ∷ rows) s = ap₂ (λ a q. choose a (λ _. r) (λ _. q)) (fits-same r s) (row-same rows s)

  fresh-same : (made : Made) → is_fresh (made_with dress made) ≡ is_fresh made
  fresh-same made = ap (λ b. b && not made.closed) (no-put dress made.put)

  untouched-same : (made : Made) → is_untouched (made_with dress made) ≡ is_untouched made
  untouched-same made = ap (λ b. b && is_unchanged made.change) (fresh-same made)

  -- where a flag says whether something is done, that is kept so or not
  kept-with : (b : Bool) (done : Made) → Same (provided b done) (provided b (made_with dress done))
  kept-with b done = provided-with dress b done

  provided-so : (a b : Bool) (done : Made) → b ≡ a → Same (provided a done) (provided b (made_with dress done))
  provided-so a b done e = provided-with dress a done ∙ ap (λ b. provided b (made_with dress done)) (sym e)

  -- a node is put
  puts-with : (what : Put) (made : Made) → put_with dress (Some what) ≡ Some what
      → Same (puts what made) (puts what (made_with dress made))
  puts-with what made e =
      provided-so (is_fresh made) (is_fresh (made_with dress made)) (record made { put = Some what }) (fresh-same made)
      ∙ ap (λ (w : Option Put). provided (is_fresh (made_with dress made)) (record made { put = w })) e

  abbrev element : Namespace → List ℕ → List Attribute → Bool → Made → Made
  element namespace name attributes opened made = record made { put = Some (put.Element namespace name attributes opened) }

  void-with : (made : Made) → Same (puts (put.Element Html name attributes false) made)
      (puts (put.Element Html name (dress attributes) false) (made_with dress made))
  void-with made = provided-so (is_fresh made) (is_fresh (made_with dress made))
      (element Html name attributes false made) (fresh-same made)

  opens-with : (namespace : Namespace) (local : List ℕ) (first second : List Attribute) (made : Made)
      → dress first ≡ second
      → Same (opens namespace local first made) (opens namespace local second (made_with dress made))
  opens-with namespace local first second made e =
      provided-so (is_fresh made) (is_fresh (made_with dress made))
      (record (element namespace local first true made) {
        spot = record made.spot { path = opened_at made.spot.rules namespace local made.spot.path ∷ made.spot.path };
      }) (fresh-same made)
      ∙ ap (λ (xs : List Attribute). provided (is_fresh (made_with dress made)) (record (element namespace local xs true made) {
        spot = record made.spot { path = opened_at made.spot.rules namespace local made.spot.path ∷ made.spot.path };
      })) e

  foreign-with : (o : Option Open) (made : Made)
      → Same (opens_foreign o (record (named StartTag name) { attrs = attributes }) made)
      (opens_foreign o (record (named StartTag name) { attrs = dress attributes }) (made_with dress made))
  foreign-with None made = refl
  foreign-with (Some x) made =
      opens-with x.namespace (adjust_tag_name x.namespace name) (adjust_attributes x.namespace attributes)
      (adjust_attributes x.namespace (dress attributes)) made (adjusted x.namespace attributes)

  -- the current node is closed
  closes-with : (q : Open → Bool) (made : Made) → Same (closes_if q one made) (closes_if q other (made_with dress made))
  closes-with q made =
      choose-with dress (current_is q made.spot.path && ends_current one made.spot.path)
      (provided (is_fresh made) (record made { closed = true; spot = record made.spot { path = without_current made.spot.path } })) None
      ∙ ap (λ x. choose (current_is q made.spot.path && ends_current one made.spot.path) (λ _. x) (λ _. None))
      (provided-so (is_fresh made) (is_fresh (made_with dress made))
      (record made { closed = true; spot = record made.spot { path = without_current made.spot.path } }) (fresh-same made))

  change-with : (change : Change) (made : Made) → Same (changes change made) (changes change (made_with dress made))
  change-with change made = provided-with dress (is_unchanged made.change) (record made { change = change })

  choose-so : (a b : Bool) (x y : Option Made) (v w : Option Made) → a ≡ b → Same x v → Same y w
      → Same (choose a (λ _. x) (λ _. y)) (choose b (λ _. v) (λ _. w))
  choose-so a b x y v w e h k =
      choose-with dress a x y ∙ (ap₂ (λ s t. choose a (λ _. s) (λ _. t)) h k ∙ ap (λ c. choose c (λ _. v) (λ _. w)) e)

  both-with : (o : Option Made) (v : Option Made) (change : Change) → Same o v
      → Same (and_then o (λ made. changes change made)) (and_then v (λ made. changes change made))
  both-with o v change h =
      then-with dress o (λ made. changes change made) (λ made. changes change made) (λ made. change-with change made)
      ∙ ap (λ x. and_then x (λ made. changes change made)) h

  does-same : (a : Action) (made : Made) → Same (does a one made) (does a other (made_with dress made))
  does-same table.Nothing made = refl
  does-same (table.Then a b) made =
      then-with dress (does a one made) (λ m. does b one m) (λ m. does b other m) (λ m. does-same b m)
      ∙ ap (λ o. and_then o (λ m. does b other m)) (does-same a made)
  does-same (table.When c a) made =
      choose-so (asks_pointers c && not (is_untouched made)) (asks_pointers c && not (is_untouched (made_with dress made))) None
      (choose (holds c one (hollow made.spot)) (λ _. does a one made) (λ _. Some made)) None
      (choose (holds c other (hollow made.spot)) (λ _. does a other (made_with dress made)) (λ _. Some (made_with dress made)))
      (ap (λ b. asks_pointers c && not b) (sym (untouched-same made))) refl
      (choose-so (holds c one (hollow made.spot)) (holds c other (hollow made.spot)) (does a one made) (Some made)
      (does a other (made_with dress made)) (Some (made_with dress made)) (holds-same c (hollow made.spot)) (does-same a made) refl)
  does-same table.CreateRoot made =
      choose-so (is_nonempty made.spot.path) (is_nonempty made.spot.path) None (opens Html (codes "html") attributes made) None
      (opens Html (codes "html") (dress attributes) (made_with dress made)) refl refl
      (opens-with Html (codes "html") attributes (dress attributes) made refl)
  does-same table.InsertElement made = opens-with Html name attributes (dress attributes) made refl
  does-same table.InsertFormatting made =
      both-with (opens Html name attributes made) (opens Html name (dress attributes) (made_with dress made)) put.EntryPushed
      (opens-with Html name attributes (dress attributes) made refl)
  does-same table.InsertTemplate made =
      choose-so (list_any is_shadow_mode attributes) (list_any is_shadow_mode (dress attributes)) None
      (opens Html name attributes made) None (opens Html name (dress attributes) (made_with dress made)) shadow refl
      (opens-with Html name attributes (dress attributes) made refl)
  does-same table.InsertVoid made = void-with made
  does-same (table.EnterForeign namespace) made =
      opens-with namespace name (adjust_attributes namespace attributes) (adjust_attributes namespace (dress attributes)) made
      (adjusted namespace attributes)
  does-same table.InsertForeign made = foreign-with (current_node made.spot.path) made
  does-same table.AppendText made = puts-with put.TextHere made refl
  does-same table.AppendComment made = puts-with put.CommentHere made refl
  does-same table.AppendCommentToRoot made = puts-with put.InRoot made refl
  does-same table.AppendCommentToDocument made = puts-with put.InDocument made refl
  does-same table.CloseP made =
      choose-so (in_scope set.ButtonScope (is_in set.P) made.spot.path) (in_scope set.ButtonScope (is_in set.P) made.spot.path)
      (closes_if (is_in set.P) one made) (Some made) (closes_if (is_in set.P) other (made_with dress made)) (Some (made_with dress made))
      refl (closes-with (is_in set.P) made) refl
  does-same (table.PopUntil names) made = closes-with (is_in names) made
  does-same (table.Close names) made = closes-with (is_in names) made
  does-same table.CloseToken made = closes-with (is_named name) made
  does-same table.AnyOtherEndTag made = closes-with (is_named name) made
  does-same table.AdoptionAgency made =
      choose-so (is_untouched made) (is_untouched (made_with dress made))
      (and_then (closes_if (is_named name) one made) (λ made. changes put.EntryLeft made)) None
      (and_then (closes_if (is_named name) other (made_with dress made)) (λ made. changes put.EntryLeft made)) None
      (sym (untouched-same made))
      (both-with (closes_if (is_named name) one made) (closes_if (is_named name) other (made_with dress made)) put.EntryLeft
      (closes-with (is_named name) made)) refl
  does-same table.Pop made = closes-with (λ x. not (is_in set.Html x)) made
  does-same table.RemoveFormElem made =
      choose-so (is_untouched made && form_is_current (form_of made.spot.path) made.spot.path)
      (is_untouched (made_with dress made) && form_is_current (form_of made.spot.path) made.spot.path)
      (closes_if (is_in set.Form) one made) None (closes_if (is_in set.Form) other (made_with dress made)) None
      (ap (λ b. b && form_is_current (form_of made.spot.path) made.spot.path) (sym (untouched-same made)))
      (closes-with (is_in set.Form) made) refl
  does-same table.CloseForeign made =
      choose-so (is_alone made.spot.path) (is_alone made.spot.path) None (closes_if (is_named_any_case name) one made) None
      (closes_if (is_named_any_case name) other (made_with dress made)) refl refl (closes-with (is_named_any_case name) made)
  does-same (table.CloseItem items) made = provided-with dress (is_none (item_name items made.spot.path)) made
  does-same (table.ClearBackTo names) made = provided-with dress (current_is (is_in names) made.spot.path) made
  does-same table.ImpliedEndTags made = provided-with dress (not (implies set.CursoryImpliedEnd (λ x. false) made)) made
  does-same (table.ImpliedEndTagsExcept names) made = provided-with dress (not (implies set.CursoryImpliedEnd (is_in names) made)) made
  does-same table.ImpliedEndTagsExceptToken made = provided-with dress (not (implies set.CursoryImpliedEnd (is_named name) made)) made
  does-same table.ImpliedEndTagsThoroughly made = provided-with dress (not (implies set.ThoroughImpliedEnd (λ x. false) made)) made
  does-same table.CheckBodyEnd made = provided-with dress (list_all (is_in set.BodyEnd) made.spot.path) made
  does-same table.Reconstruct made = provided-so (is_untouched made) (is_untouched (made_with dress made)) made (untouched-same made)
  does-same table.InsertMarker made = change-with put.MarkerPushed made
  does-same table.ClearToMarker made = change-with put.MarkerLeft made
  does-same table.SetFormElem made =
      provided-so (is_opened made.put && not made.closed) (is_opened (put_with dress made.put) && not made.closed)
      (record made { form = put.FormSet }) (ap (λ b. b && not made.closed) (same-opened dress made.put))
  does-same table.ForgetFormElem made = provided-with dress made.closed (record made { form = put.FormForgotten })
  does-same a made = refl

  -- CONCLUSIONS AND ROWS

  foreign-at : (s : State) (o : Option Open) → is_foreign_at s o one ≡ is_foreign_at s o other
  foreign-at s None = refl
  foreign-at s (Some x) = refl

  foreign-same : (s : State) → is_foreign s one ≡ is_foreign s other
  unfolding is_foreign
  foreign-same s = foreign-at s (adjusted_current_node s)

  go-same : (made : Made) → may_go_on one made ≡ may_go_on other (made_with dress made)
  go-same made = ap₂ (λ a b. a && (not b && not (has_open set.AnnotationXml made.spot.path))) (sym (untouched-same made))
      (foreign-same (hollow made.spot))

  concludes-same : (again then : List Row → Made → Option Made)
      → ((rows : List Row) (made : Made) → Same (again rows made) (then rows (made_with dress made)))
      → (ends : Conclusion) (made : Made) → Same (concludes again one ends made) (concludes then other ends (made_with dress made))
  concludes-same again then h (table.Using m) made =
      choose-so (is_untouched made) (is_untouched (made_with dress made)) (again (rows m) made) None
      (then (rows m) (made_with dress made)) None
      (sym (untouched-same made)) (h (rows m) made) refl
  concludes-same again then h (table.Reprocess m) made =
      choose-so (may_go_on one (at_mode m made)) (may_go_on other (at_mode m (made_with dress made)))
      (again (rows m) (at_mode m made)) None
      (then (rows m) (at_mode m (made_with dress made))) None (go-same (at_mode m made)) (h (rows m) (at_mode m made)) refl
  concludes-same again then h ends made = refl

  rows-same : (n : ℕ) (table : List Row) (made : Made) → Same (by_rows n table one made) (by_rows n table other (made_with dress made))
  unfolding by_rows
  rows-same zero table made = refl
  rows-same (suc n) table made =
      let r = first_fit table one (hollow made.spot) in
      let again = λ (rows : List Row) (made : Made). by_rows n rows one made in
      let then = λ (rows : List Row) (made : Made). by_rows n rows other made in
      then-with dress (does r.does one made) (λ made. concludes again one r.ends made) (λ made. concludes then other r.ends made)
      (λ made. concludes-same again then (λ rows made. rows-same n rows made) r.ends made)
      ∙ (ap (λ o. and_then o (λ made. concludes then other r.ends made)) (does-same r.does made)
      ∙ ap (λ (r : Row). and_then (does r.does other (made_with dress made)) (λ made. concludes then other r.ends made))
      (row-same table (hollow made.spot)))

  -- so the same is made of a tag with other attributes, but for these
  pub made-same : (p : Spot) → option_with dress (made_of one p) ≡ made_of other p
  unfolding made_of
  made-same p =
      rows-same 4 (choose (is_foreign (hollow p) one) (λ _. in_foreign_content) (λ _. rows p.mode)) (nothing_yet p)
      ∙ ap (λ b. by_rows 4 (choose b (λ _. in_foreign_content) (λ _. rows p.mode)) other (nothing_yet p)) (foreign-same (hollow p))
