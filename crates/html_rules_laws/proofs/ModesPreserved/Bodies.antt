-- The rows of the modes in which elements come one in another.
use Rattle.std.proofs.Common.{◌≡◌, ◌∙◌, ℕ, ◌+◌, Bool, true, false, List, [], ◌∷◌, Option, refl, sym, ap, subst, true≢false}
use Rattle.std.specs.Prelude.{◌||◌, ◌&&◌, not}
use Rattle.std.proofs.lemmas.Bool.{and_parts}
use Rattle.markup.specs.Forest.{node_count}
use Rattle.html_tokens.specs.declared.tags.Tag.{Tag}
use Rattle.html_tokens.specs.declared.token.Token.{Token}
use Rattle.html_tokens.specs.declared.token.Token.TheVariants.{TagToken}
use Rattle.html_rules.specs.Actions.{act, save_mode, set_foster_parenting, set_mode}
use Rattle.html_rules.specs.Choice.{choose}
use Rattle.html_rules.specs.Conditions.{context_is, holds}
use Rattle.html_rules.specs.ForeignContent.{is_end_tag, is_start_tag}
use Rattle.html_rules.specs.Names.{Html}
use Rattle.html_rules.specs.Places.{insert_element, insert_element_for}
use Rattle.html_rules.specs.Sets.{is_among, mathml_names_of, names_of, svg_names_of}
use Rattle.html_rules.specs.Shape.{one_if}
use Rattle.html_rules.specs.Stack.{in_scope}
use Rattle.html_rules.specs.State.{Open, State, current_is, is_in, is_named}
use Rattle.html_rules.specs.Table.{Condition, InScope, TokenInScope, CurrentIs, Action, Nothing as NoAction, Then, ParseError}
use Rattle.html_rules.specs.Table.{InsertElement, SaveMode, SwitchTo, EnableFosterParenting, DisableFosterParenting}
use Rattle.html_rules.specs.Tokens.{name_of}
use Rattle.html_rules.specs.declared.insertion_mode.InsertionMode.{InsertionMode}
use Rattle.html_rules.specs.declared.insertion_mode.InsertionMode.TheVariants as mode
use Rattle.html_rules.specs.declared.tag_set.TagSet.{TagSet}
use Rattle.html_rules.specs.declared.tag_set.TagSet.TheVariants as set
use Rattle.html_rules_laws.specs.Nesting.{Part, Root, HeadPart, BodyPart, Frames, Contents, TablePart, Section, RowPart, Cell}
use Rattle.html_rules_laws.specs.Nesting.{CaptionPart, Columns, Loose, Nothing, Ground, IsNested, base, fits_nested, fits_parts}
use Rattle.html_rules_laws.specs.Nesting.{fits_root, has_base, is_loose, is_in_template, may_stand, nested, part_of, set_of}
use Rattle.html_rules_laws.specs.Nesting.{takes}
use Rattle.html_rules_laws.specs.Upright.{is_first}
use Rattle.html_rules_laws.proofs.Names.{disjoint, shares_name}
use Rattle.html_rules_laws.proofs.SetFacts.{apart}
use Rattle.html_rules_laws.proofs.Termination.Kinds.{Kind, Starts, StartsBut, Ends, EndsBut, is_of}
use Rattle.html_rules_laws.proofs.Soundness.Rows.{is_insert, is_to_text}
use Rattle.html_rules_laws.proofs.TreePreserved.StandingTrees.{inserted-Made}
use Rattle.html_rules_laws.proofs.ModesPreserved.Fits.{base-nonempty, based-some}
use Rattle.html_rules_laws.proofs.ModesPreserved.Flows.{named-out}
use Rattle.html_rules_laws.proofs.ModesPreserved.Fluid.{At, Fluid, are_parts, fluid-flow, fluid-moved, form-kept, have_parts}
use Rattle.html_rules_laws.proofs.ModesPreserved.Fluid.{loose-is, named-loose, parts-out}
use Rattle.html_rules_laws.proofs.ModesPreserved.Parts.{name-loose, part-apart, set-part}
use Rattle.html_rules_laws.proofs.ModesPreserved.Runs.{runs, runs-sound}
use Rattle.html_rules_laws.proofs.ModesPreserved.Smooth.{Guard, NoGuard, Holds, is_tag_kind, kind-loose, loose_kind}
use Rattle.html_rules_laws.proofs.ModesPreserved.Stacks.{IsLoose, bounding, bounds, is_bounded, pushed-templates}
use Rattle.html_rules_laws.proofs.Bools.{both, no, not_true, or_by}

-- modes in which elements come one in another
abbrev pub is_bodily : InsertionMode → Bool
is_bodily mode.InBody = true
is_bodily mode.AfterBody = true
is_bodily mode.AfterAfterBody = true
is_bodily mode.InTable = true
is_bodily mode.InTableBody = true
is_bodily mode.InRow = true
is_bodily mode.InCell = true
is_bodily mode.InCaption = true
is_bodily mode.InColumnGroup = true
is_bodily mode.InTemplate = true
is_bodily m = false

-- what a state in such a mode has

based : (g : Ground) (template : Bool) (m : InsertionMode) (b : Part) (xs : List Open) → has_base m b ≡ true
    → nested g xs ≡ true → base xs ≡ b → fits_root g template m b ≡ true
    → (nested g xs && (has_base m (base xs) && fits_root g template m (base xs))) ≡ true
based g template m b xs h n e r = rw (n, e, h, r) refl

pub flow-fits : (g : Ground) (template : Bool) (m : InsertionMode) (b : Part) (xs : List Open) → is_bodily m ≡ true
    → has_base m b ≡ true → nested g xs ≡ true → base xs ≡ b → fits_root g template m b ≡ true → fits_nested g template m xs ≡ true
flow-fits g t mode.InBody b xs f h n e r = based g t mode.InBody b xs h n e r
flow-fits g t mode.AfterBody b xs f h n e r = based g t mode.AfterBody b xs h n e r
flow-fits g t mode.AfterAfterBody b xs f h n e r = based g t mode.AfterAfterBody b xs h n e r
flow-fits g t mode.InTable b xs f h n e r = based g t mode.InTable b xs h n e r
flow-fits g t mode.InTableBody b xs f h n e r = based g t mode.InTableBody b xs h n e r
flow-fits g t mode.InRow b xs f h n e r = based g t mode.InRow b xs h n e r
flow-fits g t mode.InCell b xs f h n e r = based g t mode.InCell b xs h n e r
flow-fits g t mode.InCaption b xs f h n e r = based g t mode.InCaption b xs h n e r
flow-fits g t mode.InColumnGroup b xs f h n e r = based g t mode.InColumnGroup b xs h n e r
flow-fits g t mode.InTemplate b xs f h n e r = based g t mode.InTemplate b xs h n e r
flow-fits g t m b xs f h n e r = no f

pub flow-parts : (g : Ground) (template : Bool) (m : InsertionMode) (o : Option InsertionMode) (xs : List Open)
    → is_bodily m ≡ true → fits_nested g template m xs ≡ true → fits_parts g template m o xs ≡ true
flow-parts g t mode.Text o xs f h = no f
flow-parts g t mode.InTableText o xs f h = no f
flow-parts g t m o xs f h = h

pub flow-direct : (g : Ground) (template : Bool) (m : InsertionMode) (o : Option InsertionMode) (xs : List Open)
    → is_bodily m ≡ true → fits_parts g template m o xs ≡ true → (nested g xs ≡ true)
    × ((has_base m (base xs) ≡ true) × (fits_root g template m (base xs) ≡ true))
flow-direct g t m o xs f h = by m f h where
  split : (m : InsertionMode) → (nested g xs && (has_base m (base xs) && fits_root g t m (base xs))) ≡ true
      → (nested g xs ≡ true) × ((has_base m (base xs) ≡ true) × (fits_root g t m (base xs) ≡ true))
  split m h = let one = and_parts (nested g xs) _ h in (one.0, and_parts (has_base m (base xs)) _ one.1)

  by : (m : InsertionMode) → is_bodily m ≡ true → fits_parts g t m o xs ≡ true → (nested g xs ≡ true)
      × ((has_base m (base xs) ≡ true) × (fits_root g t m (base xs) ≡ true))
  by mode.InBody f h = split mode.InBody h
  by mode.AfterBody f h = split mode.AfterBody h
  by mode.AfterAfterBody f h = split mode.AfterAfterBody h
  by mode.InTable f h = split mode.InTable h
  by mode.InTableBody f h = split mode.InTableBody h
  by mode.InRow f h = split mode.InRow h
  by mode.InCell f h = split mode.InCell h
  by mode.InCaption f h = split mode.InCaption h
  by mode.InColumnGroup f h = split mode.InColumnGroup h
  by mode.InTemplate f h = split mode.InTemplate h
  by m f h = no f

root-flows : (g : Ground) (template : Bool) (m : InsertionMode) (b : Part) → takes g b ≡ true
    → (m ≡ mode.InTemplate → b ≡ Root → template ≡ true) → fits_root g template m b ≡ true
root-flows g template m Root t i = both _ _ t (by m (λ e. i e refl)) where
  or-true : (b c : Bool) → b ≡ true → (b || c) ≡ true
  or-true b c h = rw h refl

  right : (b : Bool) → (b || true) ≡ true
  right true = refl
  right false = refl

  by : (m : InsertionMode) → (m ≡ mode.InTemplate → template ≡ true) → (template || not (is_in_template m)) ≡ true
  by mode.InTemplate h = or-true template false (h refl)
  by m h = right template
root-flows g template m b t i = refl

-- a state after actions in such a mode, and in another that the token is taken again in
pub fluid-nested : (g : Ground) (template : Bool) (w : At) (r : State) → Fluid g template w r
    → is_bodily w.mode ≡ true → has_base w.mode w.base ≡ true → IsNested r
fluid-nested g template w r h f b = record {
  fits = rw (h.ground, h.of_template, h.at_mode) (flow-parts g template w.mode r.orig_mode r.open_elems f
      (flow-fits g template w.mode w.base r.open_elems f b h.nested h.base (root-flows g template w.mode w.base h.takes h.in_template)));
  count = h.count;
  framed = h.framed;
  form = h.form;
}

pub moved-nested : (g : Ground) (template : Bool) (w : At) (to : InsertionMode) (r : State) → Fluid g template w r
    → is_bodily to ≡ true → is_in_template to ≡ false → is_first to ≡ false → has_base to w.base ≡ true → IsNested (set_mode to r)
moved-nested g template w to r h f n i b = fluid-nested g template (record w { mode = to }) (set_mode to r)
    (fluid-moved g template w to r i n h) f b

-- text of an element comes

text-nested : (g : Ground) (template : Bool) (w : At) (r : State) → Fluid g template w r → is_bodily w.mode ≡ true
    → has_base w.mode w.base ≡ true → (tag : Tag)
    → IsLoose (record { number = node_count r.forest; namespace = Html; name = tag.name; rules = r.opts.rules })
    → IsNested (set_mode mode.Text (save_mode (insert_element_for tag r)))
unfolding set_mode save_mode insert_element
text-nested g template w r h f b tag l =
    let x : Open = record { number = node_count r.forest; namespace = Html; name = tag.name; rules = r.opts.rules } in
    let fits = flow-fits g template w.mode w.base r.open_elems f b h.nested h.base
    (root-flows g template w.mode w.base h.takes h.in_template) in
    let some = base-nonempty r.open_elems (rw h.base (based-some w.mode w.base b)) in
    let made = inserted-Made r.opts.rules r.foster_parenting r.forest Html tag.name tag.attrs tag.had_duplicate_attributes
    r.open_elems h.poised.upright.standing.tree tt h.poised.upright.standing.opened in
    let same = pushed-templates x r.open_elems l in
    record {
      fits = rw (h.ground, h.of_template, h.at_mode, l, some) fits;
      count = ap (λ n. n + one_if (context_is set.Template r.context_elem)) same ∙ h.count;
      framed = λ e. same ∙ h.framed e;
      form = form-kept r.form_elem r.forest (insert_element_for tag r).forest made.stays.names.names h.form;
    }

abbrev pub raw : Kind → Guard → Action → At → Bool
raw kind gd (Then a b) w =
    (is_insert a && (is_to_text b
    && ((is_tag_kind kind && loose_kind kind) && (is_bodily w.mode && has_base w.mode w.base))))
    || runs kind gd a w (λ v. raw kind NoGuard b v)
raw kind gd a w = false

module _ (g : Ground) (template : Bool) (t : Token) where
  to-text : (kind : Kind) (a b : Action) (w : At)
      → (is_insert a && (is_to_text b
      && ((is_tag_kind kind && loose_kind kind) && (is_bodily w.mode && has_base w.mode w.base)))) ≡ true
      → is_of kind t ≡ true → (s : State) → Fluid g template w s → IsNested (act b t (act a t s))
  to-text kind InsertElement (Then SaveMode (SwitchTo mode.Text)) w h k s fluid =
      let one = and_parts (is_tag_kind kind && loose_kind kind) _ h in
      let two = and_parts (is_bodily w.mode) _ one.1 in
      let three = and_parts (is_tag_kind kind) (loose_kind kind) one.0 in
      by t refl k three.0 three.1 two.0 two.1
    where
      tagged : (kind : Kind) (u : Token) → is_tag_kind kind ≡ true → is_of kind u ≡ true → (P : Token → Type 0)
          → ((tag : Tag) → u ≡ TagToken tag → P (TagToken tag)) → P u
      tagged kind (TagToken tag) g k P h = h tag refl
      tagged (Starts names) u g k P h = no k
      tagged (Ends names) u g k P h = no k
      tagged (StartsBut names) u g k P h = no k
      tagged (EndsBut names) u g k P h = no k
      tagged kind u g k P h = no g

      by : (u : Token) → t ≡ u → is_of kind u ≡ true → is_tag_kind kind ≡ true → loose_kind kind ≡ true
          → is_bodily w.mode ≡ true → has_base w.mode w.base ≡ true
          → IsNested (act (Then SaveMode (SwitchTo mode.Text)) u (act InsertElement u s))
      by u e k i l f b = tagged kind u i k
          (λ u. IsNested (act (Then SaveMode (SwitchTo mode.Text)) u (act InsertElement u s)))
          (λ tag same. text-nested g template w s fluid f b tag
          (name-loose tag.name (kind-loose kind tag l (subst (λ u. is_of kind u ≡ true) same k)) (node_count s.forest) s.opts.rules))
  to-text kind InsertElement b w h k s fluid = no h
  to-text kind a b w h k s fluid = no h

  pub raw-nested : (kind : Kind) (gd : Guard) (a : Action) (w : At) → raw kind gd a w ≡ true → is_of kind t ≡ true
      → (s : State) → Holds gd t s → Fluid g template w s → IsNested (act a t s)
  raw-nested kind gd (Then a b) w h k s known fluid =
      or_by (is_insert a && (is_to_text b && ((is_tag_kind kind && loose_kind kind) && (is_bodily w.mode && has_base w.mode w.base)))) _ h
      (λ h. to-text kind a b w h k s fluid)
      (λ h. let one = runs-sound g template t kind gd a w (λ v. raw kind NoGuard b v) h k s known fluid in
      raw-nested kind NoGuard b one.0 one.1.0 k (act a t s) tt one.1.1)
  raw-nested kind gd a w h k s known fluid = no h

-- rows that no state with this part finds

abbrev token_parts : Kind → Part → Bool
token_parts (Starts names) b = have_parts names && not (shares_name names (names_of (set_of b)))
token_parts (Ends names) b = have_parts names && not (shares_name names (names_of (set_of b)))
token_parts kind b = false

abbrev is_columns : Part → Bool
is_columns Columns = true
is_columns p = false

abbrev pub vacuous : Kind → Part → Condition → Bool
vacuous kind b (InScope scope names) = is_bounded scope && (are_parts names && (bounds b && apart (set_of b) names))
vacuous kind b (TokenInScope scope) = is_bounded scope && (token_parts kind b && bounds b)
vacuous kind b (CurrentIs set.Colgroup) = not (is_columns b)
vacuous kind b c = false

scope-none : (scope : TagSet) → is_bounded scope ≡ true → (p : Open → Bool) → ((x : Open) → IsLoose x → p x ≡ false)
    → (b : Part) → bounds b ≡ true → ((x : Open) → part_of x ≡ b → p x ≡ false) → (xs : List Open) → base xs ≡ b
    → in_scope scope p xs ≡ false
scope-none scope s p out b c own [] e = refl
scope-none scope s p out b c own (x ∷ xs) e = by (is_loose (part_of x)) refl e (scope-none scope s p out b c own xs) where
  past : p x ≡ false → (d : Bool) → in_scope scope p xs ≡ false → choose (p x) (λ _. true)
      (λ _. choose d (λ _. false) (λ _. in_scope scope p xs)) ≡ false
  past o true rest = rw o refl
  past o false rest = rw o rest

  by : (l : Bool) → is_loose (part_of x) ≡ l → choose l (λ _. base xs) (λ _. part_of x) ≡ b
      → (base xs ≡ b → in_scope scope p xs ≡ false) → in_scope scope p (x ∷ xs) ≡ false
  by true l e rest = past (out x (loose-is (part_of x) l)) (is_in scope x) (rest e)
  by false l e rest = rw (own x e, bounding scope s x (rw e c)) refl

bound-solid : (b : Part) → bounds b ≡ true → is_loose b ≡ false
bound-solid Root h = refl
bound-solid Contents h = refl
bound-solid TablePart h = refl
bound-solid b h = no h

names-out : (names : List (List ℕ)) (b : Part) → shares_name names (names_of (set_of b)) ≡ false → bounds b ≡ true
    → (name : List ℕ) → is_among name names ≡ true → (x : Open) → part_of x ≡ b → is_named name x ≡ false
names-out names b s c name k x e = by (is_named name x) refl where
  by : (d : Bool) → is_named name x ≡ d → is_named name x ≡ false
  by true n = absurd (named-out [] name b (disjoint name names (names_of (set_of b)) s k) (bound-solid b c) x n e)
  by false n = n

token-none : (scope : TagSet) → is_bounded scope ≡ true → (kind : Kind) (b : Part) → token_parts kind b ≡ true
    → bounds b ≡ true → (t : Token) → is_of kind t ≡ true → (xs : List Open) → base xs ≡ b
    → in_scope scope (is_named (name_of t)) xs ≡ false
token-none scope s (Starts names) b h c (TagToken tag) k xs e =
    let tests = and_parts (have_parts names) _ h in
    let among = (and_parts (is_start_tag tag.kind) _ k).1 in
    scope-none scope s (is_named tag.name) (λ x l. named-loose names tests.0 tag.name among x l) b c
    (λ x p. names-out names b (not_true _ tests.1) c tag.name among x p) xs e
token-none scope s (Ends names) b h c (TagToken tag) k xs e =
    let tests = and_parts (have_parts names) _ h in
    let among = (and_parts (is_end_tag tag.kind) _ k).1 in
    scope-none scope s (is_named tag.name) (λ x l. named-loose names tests.0 tag.name among x l) b c
    (λ x p. names-out names b (not_true _ tests.1) c tag.name among x p) xs e
token-none scope s (Starts names) b h c t k xs e = no k
token-none scope s (Ends names) b h c t k xs e = no k
token-none scope s kind b h c t k xs e = no h

columns-is : (xs : List Open) → current_is (is_in set.Colgroup) xs ≡ true → base xs ≡ Columns
unfolding names_of mathml_names_of svg_names_of
columns-is [] h = no h
columns-is (x ∷ xs) h = rw (set-part set.Colgroup Columns refl x h) refl

pub vacuous-none : (kind : Kind) (b : Part) (c : Condition) → vacuous kind b c ≡ true → (t : Token)
    → is_of kind t ≡ true → (s : State) → base s.open_elems ≡ b → holds c t s ≡ true → ⊥
vacuous-none kind b (InScope scope names) h t k s e o =
    let one = and_parts (is_bounded scope) _ h in
    let two = and_parts (are_parts names) _ one.1 in
    let three = and_parts (bounds b) _ two.1 in
    true≢false (sym o ∙ scope-none scope one.0 (is_in names) (parts-out names two.0) b three.0
    (λ x p. part-apart x b names (bound-solid b three.0) three.1 p) s.open_elems e)
vacuous-none kind b (TokenInScope scope) h t k s e o =
    let one = and_parts (is_bounded scope) _ h in
    let two = and_parts (token_parts kind b) _ one.1 in
    true≢false (sym o ∙ token-none scope one.0 kind b two.0 two.1 t k s.open_elems e)
vacuous-none kind b (CurrentIs set.Colgroup) h t k s e o =
    true≢false (sym (ap is_columns (sym e ∙ columns-is s.open_elems o)) ∙ not_true _ h)
vacuous-none kind b c h t k s e o = true≢false (sym h)

-- where a template may come
pub contents-stands : (g : Ground) (q : Part) → takes g q ≡ true → may_stand g Contents q ≡ true
contents-stands g Root t = refl
contents-stands g HeadPart t = refl
contents-stands g BodyPart t = refl
contents-stands g Frames t = no t
contents-stands g Contents t = refl
contents-stands g TablePart t = refl
contents-stands g Section t = refl
contents-stands g RowPart t = refl
contents-stands g Cell t = refl
contents-stands g CaptionPart t = refl
contents-stands g Columns t = refl
contents-stands g Loose t = refl
contents-stands g Nothing t = no t

-- actions that change neither what is open nor the mode
abbrev pub stays : Action → Bool
stays (Then a b) = stays a && stays b
stays NoAction = true
stays ParseError = true
stays EnableFosterParenting = true
stays a = false

abbrev pub unfosters : Action → Bool
unfosters DisableFosterParenting = true
unfosters a = false

pub stays-fluid : (g : Ground) (template : Bool) (b : Part) (m : InsertionMode) (kind : Kind) (a : Action)
    → stays a ≡ true → (t : Token) → is_of kind t ≡ true → (s : State)
    → Fluid g template (record { base = b; exact = false; mode = m }) s
    → Fluid g template (record { base = b; exact = false; mode = m }) (act a t s)
stays-fluid g template b m kind (Then a c) h t k s fluid = let tests = and_parts (stays a) (stays c) h in
    stays-fluid g template b m kind c tests.1 t k (act a t s) (stays-fluid g template b m kind a tests.0 t k s fluid)
stays-fluid g template b m kind NoAction h t k s fluid = fluid
stays-fluid g template b m kind ParseError h t k s fluid = fluid-flow g template
    (record { base = b; exact = false; mode = m }) kind NoGuard ParseError refl refl refl t k s tt fluid
stays-fluid g template b m kind EnableFosterParenting h t k s fluid = fluid-flow g template
    (record { base = b; exact = false; mode = m }) kind NoGuard EnableFosterParenting refl refl refl t k s tt fluid
stays-fluid g template b m kind a h t k s fluid = no h

pub unfostered-nested : (a : Action) → unfosters a ≡ true → (t : Token) (s : State) → IsNested s → IsNested (act a t s)
unfolding set_foster_parenting
unfostered-nested DisableFosterParenting h t s n = record { fits = n.fits; count = n.count; framed = n.framed; form = n.form }
unfostered-nested a h t s n = no h
