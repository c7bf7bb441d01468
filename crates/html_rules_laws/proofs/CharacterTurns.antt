-- Characters leave a ready state ready.
use Rattle.std.proofs.Common.{◌≡◌, ◌∙◌, ℕ, zero, suc, Bool, true, false, List, [], ◌∷◌, Option, refl, sym, ap, subst, true≢false}
use Rattle.std.specs.Prelude.{◌&&◌, ◌+◌, not, is_some, length, nat_eq}
use Rattle.std.proofs.lemmas.Bool.{and_parts}
use Rattle.html_tokens.specs.declared.token.Token.{Token}
use Rattle.html_tokens.specs.declared.token.Token.TheVariants.{CharacterTokens}
use Rattle.html_rules.specs.Actions.{append_in_body, frameset_not_ok_unless_white, save_mode, keep_text, set_foster_parenting}
use Rattle.html_rules.specs.Actions.{set_head_elem, set_mode, set_quirks_mode}
use Rattle.html_rules.specs.Choice.{choose}
use Rattle.html_rules.specs.Conditions.{context_is, holds, is_nonempty}
use Rattle.html_rules.specs.ForeignContent.{is_foreign}
use Rattle.html_rules.specs.Modes.Foreign.{in_foreign_content}
use Rattle.html_rules.specs.Places.{append_text, create_root, insert_element}
use Rattle.html_rules.specs.Rules.{Ending, Finished, Again, Replied, Settled, Turn, check_acknowledged, first_fit}
use Rattle.html_rules.specs.Rules.{four_for_each, rows, settle, settled_by, turn, turn_by_row, using_rules_for, within}
use Rattle.html_rules.specs.Names.{Namespace, Html, MathMl, Svg, Other}
use Rattle.html_rules.specs.Sets.{is_among, mathml_names_of, names_in, names_of, svg_names_of}
use Rattle.html_rules.specs.Shape.{fits_in, fits_mode, has_root, has_template_modes, is_at_root, one_if}
use Rattle.html_rules.specs.Stack.{open_templates, parse_error, pop_but_root, without_current_but_root}
use Rattle.html_rules.specs.State.{Open, State, current_is, is_in}
use Rattle.html_rules.specs.Step.{followed_by, text_taken}
use Rattle.html_rules.specs.Table.{Row, row, Class, WhiteSpace, Character, AnythingElse, Nothing, Done, Condition, Always}
use Rattle.html_rules.specs.Tokens.{class_fits}
use Rattle.html_rules.specs.declared.insertion_mode.InsertionMode.{InsertionMode}
use Rattle.html_rules.specs.declared.insertion_mode.InsertionMode.TheVariants.{Initial, BeforeHtml, BeforeHead, InHead}
use Rattle.html_rules.specs.declared.insertion_mode.InsertionMode.TheVariants.{InHeadNoscript, AfterHead, InBody, Text, InTable}
use Rattle.html_rules.specs.declared.insertion_mode.InsertionMode.TheVariants.{InTableText, InCaption, InColumnGroup}
use Rattle.html_rules.specs.declared.insertion_mode.InsertionMode.TheVariants.{InTableBody, InRow, InCell, InTemplate}
use Rattle.html_rules.specs.declared.insertion_mode.InsertionMode.TheVariants.{AfterBody, InFrameset, AfterFrameset}
use Rattle.html_rules.specs.declared.insertion_mode.InsertionMode.TheVariants.{AfterAfterBody, AfterAfterFrameset}
use Rattle.html_rules.specs.declared.tag_set.TagSet.{TagSet}
use Rattle.html_rules.specs.declared.tag_set.TagSet.TheVariants as set
use Rattle.html_rules_laws.specs.Ready.{IsReady, Ready, fits_head, is_over_head, is_over_root}
use Rattle.html_rules_laws.proofs.Reopened.{Flows, ReadyIn, cell-reopened, reconstruct-Ready, root-reopened}
use Rattle.html_rules_laws.proofs.Names.{disjoint, shares_name}
use Rattle.html_rules_laws.proofs.Bools.{both, not_true}

abbrev character : ℕ → Token
character c = CharacterTokens (c ∷ [])

ready-of : (m : InsertionMode) (s : State) → ReadyIn m s → Ready s
ready-of m s is = subst (λ k. IsReady k s.orig_mode s.open_elems s.head_elem s.template_modes s.active_formatting
    s.context_elem s.ignore_lf s.has_ended) (sym is.mode) is.ready

-- which rows may take a character, and which take each

abbrev takes_text : Class → Bool
takes_text WhiteSpace = true
takes_text Character = true
takes_text AnythingElse = true
takes_text _ = false

abbrev takes_all_text : Class → Bool
takes_all_text Character = true
takes_all_text AnythingElse = true
takes_all_text _ = false

abbrev is_always : Condition → Bool
is_always Always = true
is_always _ = false

abbrev EachOf : Bool → Bool → Type 0 → Type 0 → Type 0
EachOf false all here rest = rest
EachOf true true here rest = here
EachOf true false here rest = here × rest

-- what is to be shown of rows that may take a character, up to one that takes each
abbrev Each : (Row → Type 0) → ℕ → State → List Row → Type 0
Each P c s [] = Unit {0}
Each P c s (r ∷ rs) = EachOf (takes_text r.on) (takes_all_text r.on && is_always r.when)
    (class_fits r.on (character c) ≡ true → holds r.when (character c) s ≡ true → P r) (Each P c s rs)

not_text : (d : Class) (c : ℕ) → takes_text d ≡ false → class_fits d (character c) ≡ false
not_text WhiteSpace c h = absurd (true≢false h)
not_text Character c h = absurd (true≢false h)
not_text AnythingElse c h = absurd (true≢false h)
not_text _ c h = refl

all_text : (d : Class) (c : ℕ) → takes_all_text d ≡ true → class_fits d (character c) ≡ true
all_text Character c h = refl
all_text AnythingElse c h = refl
all_text _ c h = absurd (true≢false (sym h))

always_holds : (k : Condition) (t : Token) (s : State) → is_always k ≡ true → holds k t s ≡ true
always_holds Always t s h = refl
always_holds _ t s h = absurd (true≢false (sym h))

by_fit : (P : Row → Type 0) (r other : Row) (class : Bool) (condition : Bool)
    → (class ≡ true → condition ≡ true → P r) → P other → P (choose (choose class (λ _. condition) (λ _. false)) (λ _. r) (λ _. other))
by_fit P r other true true f h = f refl refl
by_fit P r other true false f h = h
by_fit P r other false k f h = h

each-by : (P : Row → Type 0) (c : ℕ) (s : State) (r : Row) (rs : List Row) (a b : Bool) → takes_text r.on ≡ a
    → (takes_all_text r.on && is_always r.when) ≡ b
    → (Each P c s rs → P (first_fit rs (character c) s))
    → EachOf a b (class_fits r.on (character c) ≡ true → holds r.when (character c) s ≡ true → P r) (Each P c s rs)
    → P (first_fit (r ∷ rs) (character c) s)
each-by P c s r rs false b e k go h = rw (not_text r.on c e) (go h)
each-by P c s r rs true true e k go h =
    let parts = and_parts (takes_all_text r.on) (is_always r.when) k in
    let class = all_text r.on c parts.0 in
    let condition = always_holds r.when (character c) s parts.1 in
    rw (class, condition) (h class condition)
each-by P c s r rs true false e k go h = by_fit P r (first_fit rs (character c) s) (class_fits r.on (character c))
    (holds r.when (character c) s) h.0 (go h.1)

each : (P : Row → Type 0) (c : ℕ) (s : State) (rs : List Row) → P (row AnythingElse Nothing Done) → Each P c s rs
    → P (first_fit rs (character c) s)
each P c s [] base h = base
each P c s (r ∷ rs) base h = each-by P c s r rs (takes_text r.on) (takes_all_text r.on && is_always r.when) refl refl (each P c s rs base) h

-- a row leaves a state ready
abbrev Leaves : ℕ → ℕ → State → Row → Type 0
Leaves n c s r = Ready (turn_by_row (using_rules_for n) r (character c) s).state

-- a mode that asks for a root alone
plain-Flows : (m : InsertionMode)
    → ((original : Option InsertionMode) (xs : List Open) (head : Option ℕ) (modes : List InsertionMode)
    → fits_mode m original xs head modes ≡ has_root xs) → ((xs : List Open) → fits_head m xs ≡ true) → Flows m
plain-Flows m e k rules n tag h original xs head modes f g =
    (e original _ head modes ∙ root-reopened rules n tag xs h ∙ sym (e original xs head modes) ∙ f, k _)

body-Flows : Flows InBody
body-Flows = plain-Flows InBody (λ o xs h ms. refl) (λ xs. refl)

table-Flows : Flows InTable
table-Flows = plain-Flows InTable (λ o xs h ms. refl) (λ xs. refl)

table_body-Flows : Flows InTableBody
table_body-Flows = plain-Flows InTableBody (λ o xs h ms. refl) (λ xs. refl)

row-Flows : Flows InRow
row-Flows = plain-Flows InRow (λ o xs h ms. refl) (λ xs. refl)

caption-Flows : Flows InCaption
caption-Flows = plain-Flows InCaption (λ o xs h ms. refl) (λ xs. refl)

after_body-Flows : Flows AfterBody
after_body-Flows = plain-Flows AfterBody (λ o xs h ms. refl) (λ xs. refl)

after_after_body-Flows : Flows AfterAfterBody
after_after_body-Flows = plain-Flows AfterAfterBody (λ o xs h ms. refl) (λ xs. refl)

after_after_frameset-Flows : Flows AfterAfterFrameset
after_after_frameset-Flows = plain-Flows AfterAfterFrameset (λ o xs h ms. refl) (λ xs. refl)

template-Flows : Flows InTemplate
template-Flows rules n tag h original xs head modes f g = (ap (λ b. b && is_nonempty modes) (root-reopened rules n tag xs h) ∙ f, refl)

cell-Flows : Flows InCell
cell-Flows rules n tag h original xs head modes f g = (rw (root-reopened rules n tag xs h, cell-reopened rules n tag xs h) f, refl)

-- by the rules for a body, in a mode that flows
body-keeps : (n : ℕ) (m : InsertionMode) → Flows m → (c : ℕ) (s : State) → ReadyIn m s
    → Ready (using_rules_for (suc n) InBody (character c) s).state
unfolding using_rules_for rows append_text frameset_not_ok_unless_white
body-keeps n m flows c s is =
    each (Leaves n c s) c s (rows InBody) (ready-of m s is)
    (λ a b. let made = reconstruct-Ready m flows s is in ready-of m (append_in_body (c ∷ []) s)
    (record { mode = made.mode; ready = made.ready }))

-- by the rules for a table
table-keeps : (n : ℕ) (m : InsertionMode) → Flows m
    → ((original : Option InsertionMode) (xs : List Open) (head : Option ℕ) (modes : List InsertionMode)
    → fits_mode m original xs head modes ≡ true → fits_in m xs head modes ≡ true)
    → (c : ℕ) (s : State) → ReadyIn m s → Ready (using_rules_for (suc (suc n)) InTable (character c) s).state
unfolding using_rules_for rows set_mode save_mode set_foster_parenting parse_error
table-keeps n m flows plain c s is =
    let foster : State = set_foster_parenting true (parse_error s) in
    let fostered = body-keeps n m flows c foster (record { mode = is.mode; ready = is.ready }) in
    each (Leaves (suc n) c s) c s (rows InTable) (ready-of m s is) (
      λ a b. record {
        fit = rw is.mode (plain s.orig_mode s.open_elems s.head_elem s.template_modes is.ready.fit);
        templates = is.ready.templates;
        in_head = refl;
        listed = is.ready.listed;
        kept_lf = is.ready.kept_lf;
        going = is.ready.going;
      },
      λ a b. fostered,
    )

abbrev at : InsertionMode → State → State
at m r = record r { mode = m }

-- a ready state that goes to another mode, which its open elements fit
moved : (m m' : InsertionMode) (r : State) → Ready (at m r) → fits_mode m' r.orig_mode r.open_elems r.head_elem
    r.template_modes ≡ true → fits_head m' r.open_elems ≡ true → Ready (at m' r)
moved m m' r h fit head = record {
  fit = fit;
  templates = h.templates;
  in_head = head;
  listed = h.listed;
  kept_lf = h.kept_lf;
  going = h.going;
}

-- the element that stands just over the root leaves it alone
record OverRoot (xs : List Open) (head : Option ℕ) (modes : List InsertionMode) (context : Option Open) : Type 0 where
  fit : (has_root xs && is_some head && is_at_root xs) ≡ true
  templates : has_template_modes modes xs context ≡ true

over-root : (xs : List Open) (head : Option ℕ) (modes : List InsertionMode) (context : Option Open)
    → (has_root xs && is_some head && not (is_at_root xs)) ≡ true → is_over_root xs ≡ true → has_template_modes modes xs context ≡ true
    → OverRoot (without_current_but_root xs) head modes context
over-root [] head modes context f o t = absurd (true≢false (sym o))
over-root (x ∷ xs) head modes context f o t =
    let outer = and_parts (has_root (x ∷ xs) && is_some head) (not (is_at_root (x ∷ xs))) f in
    let inner = and_parts (has_root (x ∷ xs)) (is_some head) outer.0 in
    let html = not_true (is_in set.Html x) outer.1 in
    let over = and_parts (not (is_in set.Template x)) (is_at_root xs) o in
    let template = not_true (is_in set.Template x) over.0 in
    let root : has_root xs ≡ true = subst (λ b. choose b (λ _. not (is_nonempty xs)) (λ _. has_root xs) ≡ true) html inner.0 in
    let count : has_template_modes modes xs context ≡ true =
    subst (λ b. nat_eq (length modes) (choose b (λ _. suc (open_templates xs)) (λ _. open_templates xs) + one_if
    (context_is set.Template context)) ≡ true) template t in
    rw html (record {
      fit = both (has_root xs && is_some head) (is_at_root xs)
          (both (has_root xs) (is_some head) root inner.1) over.1;
      templates = count;
    })

-- the element over that which stands just over the root leaves that
record OverHead (xs : List Open) (head : Option ℕ) (modes : List InsertionMode) (context : Option Open) : Type 0 where
  fit : (has_root xs && is_some head && not (is_at_root xs)) ≡ true
  over : is_over_root xs ≡ true
  templates : has_template_modes modes xs context ≡ true

not_at_root : (xs : List Open) → has_root xs ≡ true → is_over_root xs ≡ true → not (is_at_root xs) ≡ true
not_at_root [] r o = absurd (true≢false (sym o))
not_at_root (x ∷ []) r o = absurd (true≢false (sym (and_parts (not (is_in set.Template x)) false o).1))
not_at_root (x ∷ y ∷ ys) r o = by (is_in set.Html x) r where
  by : (b : Bool) → choose b (λ _. false) (λ _. has_root (y ∷ ys)) ≡ true → not b ≡ true
  by true h = h
  by false h = refl

over-head : (xs : List Open) (head : Option ℕ) (modes : List InsertionMode) (context : Option Open)
    → (has_root xs && is_some head && not (is_at_root xs)) ≡ true → is_over_head xs ≡ true → has_template_modes modes xs context ≡ true
    → OverHead (without_current_but_root xs) head modes context
over-head [] head modes context f o t = absurd (true≢false (sym o))
over-head (x ∷ xs) head modes context f o t =
    let outer = and_parts (has_root (x ∷ xs) && is_some head) (not (is_at_root (x ∷ xs))) f in
    let inner = and_parts (has_root (x ∷ xs)) (is_some head) outer.0 in
    let html = not_true (is_in set.Html x) outer.1 in
    let over = and_parts (not (is_in set.Template x)) (is_over_root xs) o in
    let template = not_true (is_in set.Template x) over.0 in
    let root : has_root xs ≡ true = subst (λ b. choose b (λ _. not (is_nonempty xs)) (λ _. has_root xs) ≡ true) html inner.0 in
    let count : has_template_modes modes xs context ≡ true =
    subst (λ b. nat_eq (length modes) (choose b (λ _. suc (open_templates xs)) (λ _. open_templates xs) + one_if
    (context_is set.Template context)) ≡ true) template t in
    rw html (record {
      fit = both (has_root xs && is_some head) (not (is_at_root xs))
          (both (has_root xs) (is_some head) root inner.1) (not_at_root xs root over.1);
      over = over.1;
      templates = count;
    })

-- a colgroup is in no set without that name
not_colgroup_in : (namespace : Namespace) (name : List ℕ) (other : TagSet) → shares_name (names_of set.Colgroup)
    (names_of other) ≡ false → is_among name (names_in namespace set.Colgroup) ≡ true → is_among name (names_in namespace other) ≡ false
unfolding mathml_names_of svg_names_of
not_colgroup_in Html name other d h = disjoint name (names_of set.Colgroup) (names_of other) d h
not_colgroup_in MathMl name other d h = absurd (true≢false (sym h))
not_colgroup_in Svg name other d h = absurd (true≢false (sym h))
not_colgroup_in (Other uri) name other d h = absurd (true≢false (sym h))

not_html_colgroup : (x : Open) → is_in set.Colgroup x ≡ true → is_in set.Html x ≡ false
unfolding names_of
not_html_colgroup x h = not_colgroup_in x.namespace x.name set.Html refl h

not_template_colgroup : (x : Open) → is_in set.Colgroup x ≡ true → is_in set.Template x ≡ false
unfolding names_of
not_template_colgroup x h = not_colgroup_in x.namespace x.name set.Template refl h

-- a colgroup that is popped
record Popped (xs : List Open) (modes : List InsertionMode) (context : Option Open) : Type 0 where
  fit : has_root xs ≡ true
  templates : has_template_modes modes xs context ≡ true

pop-colgroup : (xs : List Open) (modes : List InsertionMode) (context : Option Open) → has_root xs ≡ true
    → current_is (is_in set.Colgroup) xs ≡ true → has_template_modes modes xs context ≡ true
    → Popped (without_current_but_root xs) modes context
pop-colgroup [] modes context f c t = absurd (true≢false (sym c))
pop-colgroup (x ∷ xs) modes context f c t =
    let html = not_html_colgroup x c in
    let template = not_template_colgroup x c in
    let root : has_root xs ≡ true = subst (λ b. choose b (λ _. not (is_nonempty xs)) (λ _. has_root xs) ≡ true) html f in
    let count : has_template_modes modes xs context ≡ true =
    subst (λ b. nat_eq (length modes) (choose b (λ _. suc (open_templates xs)) (λ _. open_templates xs) + one_if
    (context_is set.Template context)) ≡ true) template t in
    rw html (record { fit = root; templates = count })

in_mode : (m : InsertionMode) (r : State) → Ready (at m r) → ReadyIn m (at m r)
in_mode m r h = record { mode = refl; ready = h }

-- a character of white space in the head
white-in_head : (n c : ℕ) (s : State) → class_fits WhiteSpace (character c) ≡ true → Ready s
    → Ready (using_rules_for (suc n) InHead (character c) s).state
unfolding using_rules_for rows append_text
white-in_head n c s w h = rw w h

keeps_in : (m : InsertionMode) (c : ℕ) (r : State) → Ready (at m r) → Ready (using_rules_for 4 m (character c) (at m r)).state
unfolding using_rules_for rows set_mode set_quirks_mode parse_error create_root insert_element set_head_elem
    append_text pop_but_root keep_text names_of
keeps_in Initial c r h = each (Leaves 3 c (at Initial r)) c (at Initial r) (rows Initial) h
    (λ w k. h, (λ a b. moved Initial BeforeHtml r h h.fit refl, λ a b. moved Initial BeforeHtml r h h.fit refl))
keeps_in BeforeHtml c r h =
    each (Leaves 3 c (at BeforeHtml r)) c (at BeforeHtml r) (rows BeforeHtml) h (
      λ w k. h,
      λ a b. record {
        fit = h.fit;
        templates = h.templates;
        in_head = refl;
        listed = h.listed;
        kept_lf = h.kept_lf;
        going = h.going;
      },
    )
keeps_in BeforeHead c r h =
    each (Leaves 3 c (at BeforeHead r)) c (at BeforeHead r) (rows BeforeHead) h (
      λ w k. h,
      λ a b. record {
        fit = rw h.fit refl;
        templates = h.templates;
        in_head = h.in_head;
        listed = h.listed;
        kept_lf = h.kept_lf;
        going = h.going;
      },
    )
keeps_in InHead c r h =
    let over = over-root r.open_elems r.head_elem r.template_modes r.context_elem h.fit h.in_head h.templates in
    each (Leaves 3 c (at InHead r)) c (at InHead r) (rows InHead) h (
      λ w k. h,
      λ a b. record {
        fit = over.fit;
        templates = over.templates;
        in_head = refl;
        listed = h.listed;
        kept_lf = h.kept_lf;
        going = h.going;
      },
    )
keeps_in InHeadNoscript c r h =
    let over = over-head r.open_elems r.head_elem r.template_modes r.context_elem h.fit h.in_head h.templates in
    each (Leaves 3 c (at InHeadNoscript r)) c (at InHeadNoscript r) (rows InHeadNoscript) h (
      λ w k. white-in_head 2 c (at InHeadNoscript r) w h,
      λ a b. record {
        fit = over.fit;
        templates = over.templates;
        in_head = over.over;
        listed = h.listed;
        kept_lf = h.kept_lf;
        going = h.going;
      },
    )
keeps_in AfterHead c r h =
    let parts = and_parts (has_root r.open_elems && is_some r.head_elem) (is_at_root r.open_elems) h.fit in
    each (Leaves 3 c (at AfterHead r)) c (at AfterHead r) (rows AfterHead) h (
      λ w k. h,
      λ a b. record {
        fit = (and_parts (has_root r.open_elems) (is_some r.head_elem) parts.0).0;
        templates = h.templates;
        in_head = refl;
        listed = h.listed;
        kept_lf = h.kept_lf;
        going = h.going;
      },
    )
keeps_in InBody c r h = body-keeps 3 InBody body-Flows c (at InBody r) (in_mode InBody r h)
keeps_in Text c r h = each (Leaves 3 c (at Text r)) c (at Text r) (rows Text) h (λ a b. h)
keeps_in InTable c r h = table-keeps 2 InTable table-Flows (λ o xs hd ms f. f) c (at InTable r) (in_mode InTable r h)
keeps_in InTableText c r h = each (Leaves 3 c (at InTableText r)) c (at InTableText r) (rows InTableText) h (λ a b. h)
keeps_in InCaption c r h = each (Leaves 3 c (at InCaption r)) c (at InCaption r) (rows InCaption) h
    (λ a b. body-keeps 2 InCaption caption-Flows c (at InCaption r) (in_mode InCaption r h))
keeps_in InColumnGroup c r h =
    each (Leaves 3 c (at InColumnGroup r)) c (at InColumnGroup r) (rows InColumnGroup) h (
      λ w k. h,
      (
        λ a b. let popped = pop-colgroup r.open_elems r.template_modes r.context_elem h.fit b h.templates in
            record {
              fit = popped.fit;
              templates = popped.templates;
              in_head = refl;
              listed = h.listed;
              kept_lf = h.kept_lf;
              going = h.going;
            },
        λ a b. h,
      ),
    )
keeps_in InTableBody c r h = each (Leaves 3 c (at InTableBody r)) c (at InTableBody r) (rows InTableBody) h
    (λ a b. table-keeps 1 InTableBody table_body-Flows (λ o xs hd ms f. f) c (at InTableBody r) (in_mode InTableBody r h))
keeps_in InRow c r h = each (Leaves 3 c (at InRow r)) c (at InRow r) (rows InRow) h
    (λ a b. table-keeps 1 InRow row-Flows (λ o xs hd ms f. f) c (at InRow r) (in_mode InRow r h))
keeps_in InCell c r h = each (Leaves 3 c (at InCell r)) c (at InCell r) (rows InCell) h
    (λ a b. body-keeps 2 InCell cell-Flows c (at InCell r) (in_mode InCell r h))
keeps_in InTemplate c r h = each (Leaves 3 c (at InTemplate r)) c (at InTemplate r) (rows InTemplate) h
    (λ a b. body-keeps 2 InTemplate template-Flows c (at InTemplate r) (in_mode InTemplate r h))
keeps_in AfterBody c r h =
    each (Leaves 3 c (at AfterBody r)) c (at AfterBody r) (rows AfterBody) h (
      λ w k. body-keeps 2 AfterBody after_body-Flows c (at AfterBody r) (in_mode AfterBody r h),
      λ a b. moved AfterBody InBody r h h.fit refl,
    )
keeps_in InFrameset c r h = each (Leaves 3 c (at InFrameset r)) c (at InFrameset r) (rows InFrameset) h (λ w k. h, λ a b. h)
keeps_in AfterFrameset c r h = each (Leaves 3 c (at AfterFrameset r)) c (at AfterFrameset r) (rows AfterFrameset) h (λ w k. h, λ a b. h)
keeps_in AfterAfterBody c r h =
    each (Leaves 3 c (at AfterAfterBody r)) c (at AfterAfterBody r) (rows AfterAfterBody) h (
      λ w k. body-keeps 2 AfterAfterBody after_after_body-Flows c (at AfterAfterBody r) (in_mode AfterAfterBody r h),
      λ a b. moved AfterAfterBody InBody r h h.fit refl,
    )
keeps_in AfterAfterFrameset c r h =
    each (Leaves 3 c (at AfterAfterFrameset r)) c (at AfterAfterFrameset r) (rows AfterAfterFrameset) h (
      λ w k. body-keeps 2 AfterAfterFrameset after_after_frameset-Flows c (at AfterAfterFrameset r)
          (in_mode AfterAfterFrameset r h),
      λ a b. h,
    )

foreign-keeps : (c : ℕ) (s : State) → Ready s
    → Ready (turn_by_row (using_rules_for 4) (first_fit in_foreign_content (character c) s) (character c) s).state
unfolding append_text frameset_not_ok_unless_white
foreign-keeps c s h = each (Leaves 4 c s) c s in_foreign_content h (λ a b. h)

either-Ready : (b : Bool) (x y : Turn) → Ready x.state → Ready y.state → Ready (choose b (λ _. x) (λ _. y)).state
either-Ready true x y h k = h
either-Ready false x y h k = k

turn-keeps : (c : ℕ) (s : State) → Ready s → Ready (turn (character c) s).state
unfolding turn
turn-keeps c s h = either-Ready (is_foreign s (character c)) _ _ (foreign-keeps c s h) (keeps_in s.mode c s h)

acknowledged-keeps : (b : Bool) (c : ℕ) (s : State) → Ready s → Ready (check_acknowledged b (character c) s)
acknowledged-keeps true c s h = h
acknowledged-keeps false c s h = h

settled-keeps : (again : State → Settled) (c : ℕ) → ((s : State) → Ready s → Ready (again s).state)
    → (e : Ending) (s : State) → Ready s → Ready (settled_by again e (character c) s).state
settled-keeps again c go (Finished acknowledged) s h = acknowledged-keeps acknowledged c s h
settled-keeps again c go Again s h = go s h
settled-keeps again c go (Replied r) s h = h

within-keeps : (n : ℕ) (beyond : State → Settled) (c : ℕ) → ((s : State) → Ready s → Ready (beyond s).state)
    → (s : State) → Ready s → Ready (within n beyond (character c) s).state
unfolding within
within-keeps zero beyond c go s h = go s h
within-keeps (suc n) beyond c go s h =
    settled-keeps (within n beyond (character c)) c (within-keeps n beyond c go) (turn (character c) s).ends
    (turn (character c) s).state (turn-keeps c s h)

four-keeps : (xs : List Open) (c : ℕ) (s : State) → Ready s → Ready (four_for_each xs (character c) s).state
unfolding four_for_each
four-keeps [] c s h = h
four-keeps (x ∷ xs) c s h = within-keeps 4 (four_for_each xs (character c)) c (four-keeps xs c) s h

pub settle-keeps : (c : ℕ) (s : State) → Ready s → Ready (settle (character c) s).state
unfolding settle
settle-keeps c s h = within-keeps 16 (four_for_each s.open_elems (character c)) c (four-keeps s.open_elems c) s h

-- text leaves a ready state ready
pub text-keeps : (text : List ℕ) (before : Settled) → Ready before.state → Ready (text_taken text before).state
text-keeps [] before h = h
text-keeps (c ∷ cs) before h = text-keeps cs (followed_by before (settle (character c) before.state)) (settle-keeps c before.state h)
