-- Turns in foreign content leave the parts nested.
use Rattle.std.proofs.Common.{◌≡◌, ◌∙◌, ℕ, Bool, true, false, List, [], ◌∷◌, Option, Some, None, refl, sym, subst}
use Rattle.std.specs.Prelude.{◌||◌, ◌&&◌, IfSome}
use Rattle.std.proofs.lemmas.Bool.{and_parts}
use Rattle.markup.specs.Forest.{data_of, element_name}
use Rattle.markup.specs.declared.names.QualName.{QualName}
use Rattle.html_tokens.specs.declared.tags.Tag.{Tag}
use Rattle.html_tokens.specs.declared.token.Token.{Token}
use Rattle.html_tokens.specs.declared.token.Token.TheVariants.{TagToken}
use Rattle.html_rules.specs.Actions.{act}
use Rattle.html_rules.specs.Choice.{choose}
use Rattle.html_rules.specs.Conditions.{context_is, holds}
use Rattle.html_rules.specs.ForeignContent.{close_foreign, foreign_end, pop_foreign, foreign_start, foreign_start_at}
use Rattle.html_rules.specs.ForeignContent.{is_foreign, is_html_element}
use Rattle.html_rules.specs.Modes.Foreign.{in_foreign_content}
use Rattle.html_rules.specs.Names.{is_html}
use Rattle.html_rules.specs.Rules.{concluded, first_fit, most_modes, turn, turn_by_row, using_rules_for}
use Rattle.html_rules.specs.Sets.{mathml_names_of, names_of, svg_names_of}
use Rattle.html_rules.specs.Rules.{rows}
use Rattle.html_rules.specs.Stack.{parse_error, pop_until_current}
use Rattle.html_rules.specs.State.{Open, State, adjusted_by, adjusted_current_node, current_number}
use Rattle.html_rules.specs.Table.{Row, ForeignEndError, Action, Then, When, ParseError, InsertForeign, PopForeign}
use Rattle.html_rules.specs.Table.{CloseForeign, Conclusion, Done, Acknowledged, UsingCurrentMode}
use Rattle.html_rules.specs.Tokens.{name_of}
use Rattle.html_rules.specs.declared.insertion_mode.InsertionMode.{InsertionMode}
use Rattle.html_rules.specs.declared.insertion_mode.InsertionMode.TheVariants as mode
use Rattle.html_rules.specs.declared.tag_set.TagSet.TheVariants as set
use Rattle.html_rules_laws.specs.Nesting.{Part, Ground, IsNested, base, ground_of, has_base}
use Rattle.html_rules_laws.specs.Upright.{MayCome}
use Rattle.html_rules_laws.proofs.Frames.Aside.{IsAside, aside_kept}
use Rattle.html_rules_laws.proofs.Termination.Kinds.{Kind, is_of}
use Rattle.html_rules_laws.proofs.Soundness.Scan.{scan, scan-holds}
use Rattle.html_rules_laws.proofs.Soundness.Steps.{foreign-there}
use Rattle.html_rules_laws.proofs.Soundness.Tokens.{is_insert_foreign}
use Rattle.html_rules_laws.proofs.TreePreserved.StandingActions.{own-by}
use Rattle.html_rules_laws.proofs.Soundness.Acts.{act-aside}
use Rattle.html_rules_laws.proofs.TreePreserved.Acts.{act-eased}
use Rattle.html_rules_laws.proofs.TreePreserved.Poised.{Poised, tame-poised}
use Rattle.html_rules_laws.proofs.TreePreserved.Steps.{foreign_start_at-eased}
use Rattle.html_rules_laws.proofs.TreePreserved.Turns.{foreign-poised}
use Rattle.html_rules_laws.proofs.ModesPreserved.Bodies.{is_bodily}
use Rattle.html_rules_laws.proofs.ModesPreserved.Fluid.{Fluid, fluid-changed, fluid-flow}
use Rattle.html_rules_laws.proofs.Frames.Framed as framed
use Rattle.html_rules_laws.proofs.Frames.Framed.{IsFramed}
use Rattle.html_rules_laws.proofs.ModesPreserved.Flows.{foreign-flow}
use Rattle.html_rules_laws.proofs.ModesPreserved.Rows.{Extra, bodily-fluid, bodily-turn, each-part, each_kind, each_part}
use Rattle.html_rules_laws.proofs.ModesPreserved.Rows.{fits_at, kind-of, loose_at, own-nested, run-nested, uses-sound}
use Rattle.html_rules_laws.proofs.ModesPreserved.Rows.{uses_nested}
use Rattle.html_rules_laws.proofs.ModesPreserved.Runs.{runs}
use Rattle.html_rules_laws.proofs.ModesPreserved.Smooth.{NoGuard}
use Rattle.html_rules_laws.proofs.ModesPreserved.Steps.{IsFlow, close_foreign-flow, flow-same}
use Rattle.html_rules_laws.proofs.Bools.{no, or_by}
use Rattle.html_rules_laws.proofs.Frames.KeptBySteps.{close_by-keeps, foreign-keeps}

-- after a step under which loose elements alone come and go
flowed : (g : Ground) (template : Bool) (b : Part) (m : InsertionMode) (s r : State)
    → Fluid g template (loose_at m b) s → IsFlow g s.open_elems r.open_elems → Poised r → IsAside s r → IsFramed s r
    → ((n : ℕ) (name : QualName) → element_name (data_of s.forest n) ≡ Some name
    → element_name (data_of r.forest n) ≡ Some name) → Fluid g template (loose_at m b) r
flowed g template b m s r h flow poised aside fr names =
    let after = flow.flow h.nested (rw h.base h.takes) in
    fluid-changed g template (loose_at m b) (loose_at m b) s r h poised aside fr names after.0 (after.1.0 ∙ h.base)
    (λ e. no e) h.takes refl h.in_template after.1.1

adjusted-two : (context : Option Open) (xs : List Open) (x y : Open) (ys : List Open)
    → IfSome (adjusted_by context xs) (λ x. is_html x.namespace ≡ false) → xs ≡ x ∷ y ∷ ys → is_html_element x ≡ false
adjusted-two context [] x y ys h e = absurd (cc)
adjusted-two context (z ∷ []) x y ys h e = absurd (cc)
adjusted-two None (z ∷ w ∷ zs) x y ys h e = let same : z ≡ x = cc in subst (λ x. is_html_element x ≡ false) same h
adjusted-two (Some c) (z ∷ w ∷ zs) x y ys h e = let same : z ≡ x = cc in subst (λ x. is_html_element x ≡ false) same h

error-same : (s : State) → (parse_error s).open_elems ≡ s.open_elems
unfolding parse_error
error-same s = refl

abbrev is_close : Action → Bool
is_close (Then (When ForeignEndError ParseError) CloseForeign) = true
is_close a = false

abbrev is_pop : Action → Bool
is_pop (Then ParseError PopForeign) = true
is_pop ParseError = true
is_pop a = false

start-flow : (g : Ground) (o : Option Open) (tag : Tag) (s : State) → IfSome o (λ x. is_html x.namespace ≡ false)
    → IsFlow g s.open_elems (foreign_start_at o tag s).open_elems
start-flow g None tag s h = flow-same g s.open_elems
start-flow g (Some x) tag s h = foreign-flow g x.namespace _ h s

close-framed : (t : Token) (s : State) → IsFramed s (act CloseForeign t s)
unfolding close_foreign
close-framed t s = close_by-keeps framed.framed_kept (foreign_end (name_of t) s) s

module _ (g : Ground) (template : Bool) (t : Token) (m : InsertionMode) (b : Part) (bodily : is_bodily m ≡ true)
    (base-is : has_base m b ≡ true) where
  closed-fluid : (kind : Kind) → is_of kind t ≡ true → (s : State)
      → ((x : Open) (y : Open) (ys : List Open) → s.open_elems ≡ x ∷ y ∷ ys → is_html_element x ≡ false)
      → Fluid g template (loose_at m b) s → Fluid g template (loose_at m b) (act CloseForeign t s)
  closed-fluid kind k s h fluid =
      flowed g template b m s (act CloseForeign t s) fluid (close_foreign-flow g (name_of t) s h)
      (tame-poised kind CloseForeign refl refl t k s fluid.poised) (act-aside kind CloseForeign refl t s) (close-framed t s)
      (act-eased kind CloseForeign refl refl t k s fluid.poised.listed fluid.poised.upright.standing).names

  error-fluid : (kind : Kind) → is_of kind t ≡ true → (s : State) → Fluid g template (loose_at m b) s
      → Fluid g template (loose_at m b) (parse_error s)
  error-fluid kind k s fluid = fluid-flow g template (loose_at m b) kind NoGuard ParseError refl refl refl t k s tt fluid

  close-nested : (kind : Kind) (a : Action) → is_close a ≡ true → is_of kind t ≡ true → (s : State)
      → is_foreign s t ≡ true → Fluid g template (loose_at m b) s → IsNested (act a t s)
  close-nested kind (Then (When ForeignEndError ParseError) CloseForeign) h k s f fluid = by (holds ForeignEndError t s) where
    two : (x : Open) (y : Open) (ys : List Open) → s.open_elems ≡ x ∷ y ∷ ys → is_html_element x ≡ false
    two x y ys e = adjusted-two s.context_elem s.open_elems x y ys (foreign-there s t f) e

    by : (c : Bool) → IsNested (act CloseForeign t (choose c (λ _. parse_error s) (λ _. s)))
    by true = own-nested g template t m b bodily base-is (act CloseForeign t (parse_error s))
        (closed-fluid kind k (parse_error s) (λ x y ys e. two x y ys (sym (error-same s) ∙ e)) (error-fluid kind k s fluid))
    by false = own-nested g template t m b bodily base-is (act CloseForeign t s) (closed-fluid kind k s two fluid)
  close-nested kind a h k s f fluid = no h

  insert-nested : (a : Action) → is_insert_foreign a ≡ true → (s : State) → is_foreign s t ≡ true
      → Fluid g template (loose_at m b) s → IsNested (act a t s)
  unfolding foreign_start
  insert-nested InsertForeign h s f fluid = by t refl where
    by : (u : Token) → t ≡ u → IsNested (act InsertForeign u s)
    by (TagToken tag) e =
        let foreign : is_foreign s (TagToken tag) ≡ true = subst (λ u. is_foreign s u ≡ true) e f in
        let o : Option Open = adjusted_current_node s in
        own-nested g template t m b bodily base-is (foreign_start_at o tag s)
        (flowed g template b m s (foreign_start_at o tag s) fluid
        (start-flow g o tag s (foreign-there s (TagToken tag) foreign))
        (foreign-poised tag s foreign fluid.poised) (foreign-keeps aside_kept o tag s) ((foreign-keeps framed.framed_kept) o tag s)
        (foreign_start_at-eased o tag (own-by s.forest s.context_elem s.open_elems fluid.poised.upright.context
        fluid.poised.upright.standing.opened) (foreign-there s (TagToken tag) foreign) s fluid.poised.upright.standing).names)
    by u e = own-nested g template t m b bodily base-is s fluid
  insert-nested a h s f fluid = no h

  popped-fluid : (kind : Kind) (a : Action) → is_pop a ≡ true → is_of kind t ≡ true → (s : State)
      → Fluid g template (loose_at m b) s → Fluid g template (loose_at m b) (act a t s)
  popped-fluid kind (Then ParseError PopForeign) h k s fluid = fluid-flow g template (loose_at m b) kind NoGuard
      PopForeign refl refl refl t k (parse_error s) tt (error-fluid kind k s fluid)
  popped-fluid kind ParseError h k s fluid = error-fluid kind k s fluid
  popped-fluid kind a h k s fluid = no h

  popped-extra : (a : Action) → is_pop a ≡ true → (s : State) → Extra s → Extra (act a t s)
  unfolding parse_error pop_foreign pop_until_current
  popped-extra (Then ParseError PopForeign) h s e = record { modes = e.modes }
  popped-extra ParseError h s e = record { modes = e.modes }
  popped-extra a h s e = no h

abbrev foreign_ends : InsertionMode → Part → Kind → Action → Conclusion → Bool
foreign_ends m b kind a Done = runs kind NoGuard a (loose_at m b) fits_at || is_close a
foreign_ends m b kind a Acknowledged = is_insert_foreign a
foreign_ends m b kind a UsingCurrentMode = is_pop a && uses_nested 4 m b kind m
foreign_ends m b kind a e = false

abbrev foreign_row : InsertionMode → Part → Kind → Row → Bool
foreign_row m b kind r = foreign_ends m b kind r.does r.ends

mode_foreign : InsertionMode → Part → Kind → Bool
mode_foreign m b kind = scan (foreign_row m b) kind in_foreign_content

modes_foreign : (m : InsertionMode) → is_bodily m ≡ true → each_part m (λ b. each_kind (mode_foreign m b)) ≡ true
unfolding mode_foreign uses_nested rows names_of mathml_names_of svg_names_of
modes_foreign mode.InBody h = refl
modes_foreign mode.AfterBody h = refl
modes_foreign mode.AfterAfterBody h = refl
modes_foreign mode.InTable h = refl
modes_foreign mode.InTableBody h = refl
modes_foreign mode.InRow h = refl
modes_foreign mode.InCell h = refl
modes_foreign mode.InCaption h = refl
modes_foreign mode.InColumnGroup h = refl
modes_foreign mode.InTemplate h = refl
modes_foreign m h = no h

foreign-sound : (g : Ground) (template : Bool) (t : Token) (m : InsertionMode) (b : Part) → is_bodily m ≡ true
    → has_base m b ≡ true → (kind : Kind) (a : Action) (e : Conclusion) → foreign_ends m b kind a e ≡ true
    → is_of kind t ≡ true → (s : State) → is_foreign s t ≡ true → Fluid g template (loose_at m b) s → Extra s → (script : ℕ)
    → IsNested (concluded (using_rules_for 4) e t script (act a t s)).state
foreign-sound g template t m b bodily base-is kind a Done h k s f fluid extra script =
    or_by (runs kind NoGuard a (loose_at m b) fits_at) _ h
    (λ h. run-nested g template t m b bodily base-is kind NoGuard a h k s tt fluid)
    (λ h. close-nested g template t m b bodily base-is kind a h k s f fluid)
foreign-sound g template t m b bodily base-is kind a Acknowledged h k s f fluid extra script =
    insert-nested g template t m b bodily base-is a h s f fluid
foreign-sound g template t m b bodily base-is kind a UsingCurrentMode h k s f fluid extra script =
    let tests = and_parts (is_pop a) _ h in
    let popped = popped-fluid g template t m b bodily base-is kind a tests.0 k s fluid in
    subst (λ n. IsNested (using_rules_for 4 n t (act a t s)).state) (sym popped.at_mode)
    (uses-sound g template t m b bodily base-is 4 kind m tests.1 k (act a t s) popped
    (popped-extra g template t m b bodily base-is a tests.0 s extra))
foreign-sound g template t m b bodily base-is kind a e h k s f fluid extra script = no h

-- a turn in such a mode
pub body-turn : (t : Token) (s : State) → MayCome t s → IsNested s → is_bodily s.mode ≡ true → IsNested (turn t s).state
unfolding turn mode_foreign
body-turn t s may h bodily = by (is_foreign s t) refl where
  by : (c : Bool) → is_foreign s t ≡ c
      → IsNested (choose c (λ _. turn_by_row (using_rules_for most_modes) (first_fit in_foreign_content t s) t s)
      (λ _. using_rules_for most_modes s.mode t s)).state
  by true f =
      let g : Ground = ground_of s.context_elem in
      let template : Bool = context_is set.Template s.context_elem in
      let b : Part = base s.open_elems in
      let fluid = bodily-fluid t s may h bodily in
      let tests = each-part s.mode (λ b. each_kind (mode_foreign s.mode b)) (modes_foreign s.mode bodily) b fluid.0 in
      let kind = kind-of (mode_foreign s.mode b) tests t in
      scan-holds (foreign_row s.mode b) (λ r. IsNested (turn_by_row (using_rules_for 4) r t s).state) t s
      (λ inner r k of fits o. foreign-sound g template t s.mode b bodily fluid.0 inner r.does r.ends k of s f
      fluid.1 (record { modes = may.held.modes }) (current_number s.open_elems))
      h in_foreign_content kind.0 kind.1.0 kind.1.1
  by false f = bodily-turn t s may h bodily
