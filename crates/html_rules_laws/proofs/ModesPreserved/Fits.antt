-- A state in which the parts nest fits.
use Rattle.std.proofs.Common.{◌≡◌, ◌∙◌, ℕ, ◌+◌, ◌≤◌, Bool, true, false, List, [], ◌∷◌, length, Option, Some, None, refl, sym}
use Rattle.std.proofs.Common.{ap, true≢false, arith}
use Rattle.std.specs.Prelude.{◌||◌, ◌&&◌, not, is_some}
use Rattle.std.proofs.lemmas.Bool.{and_parts, eq-eqb}
use Rattle.html_rules.specs.Choice.{choose}
use Rattle.html_rules.specs.Conditions.{context_is, is_nonempty}
use Rattle.html_rules.specs.Sets.{mathml_names_of, names_of, svg_names_of}
use Rattle.html_rules.specs.Shape.{fits_in, fits_in_original, fits_mode, has_root, is_at_root, is_fit, one_if}
use Rattle.html_rules.specs.Stack.{in_scope, open_templates, without_current}
use Rattle.html_rules.specs.State.{Open, State, is_in}
use Rattle.html_rules.specs.declared.insertion_mode.InsertionMode.{InsertionMode}
use Rattle.html_rules.specs.declared.insertion_mode.InsertionMode.TheVariants as mode
use Rattle.html_rules.specs.declared.tag_set.TagSet.TheVariants as set
use Rattle.html_rules_laws.specs.Held.{wanted}
use Rattle.html_rules_laws.specs.Nesting.{Part, Root, HeadPart, BodyPart, Frames, Contents, TablePart, Section, RowPart, Cell}
use Rattle.html_rules_laws.specs.Nesting.{CaptionPart, Columns, Loose, Nothing, Ground, Document, InFrames, Flow, IsNested}
use Rattle.html_rules_laws.specs.Nesting.{base, fits_nested, fits_parts, fits_root, fits_table, fits_under, are_html, ground_of}
use Rattle.html_rules_laws.specs.Nesting.{has_base, is_document, is_flow, is_foster, is_frames, is_head, is_loose, is_root}
use Rattle.html_rules_laws.specs.Nesting.{may_stand, nested, part_among, part_of, parts, set_of, top}
use Rattle.html_rules_laws.specs.Sound.{asks_root, has_its_head, is_later, is_table_mode}
use Rattle.html_rules_laws.proofs.ModesPreserved.Fluid.{parts-out}
use Rattle.html_rules_laws.proofs.ModesPreserved.Runs.{contents-count}
use Rattle.html_rules_laws.proofs.ModesPreserved.Parts.{part-set, set-part}
use Rattle.html_rules_laws.proofs.ModesPreserved.Stacks.{pushed-templates}
use Rattle.html_rules_laws.proofs.Bools.{both, no, not_true}

abbrev is_nothing : Part → Bool
is_nothing Nothing = true
is_nothing p = false

abbrev has_nothing : List Part → Bool
has_nothing [] = false
has_nothing (p ∷ ps) = is_nothing p || has_nothing ps

or_parts : (a b : Bool) → (a || b) ≡ false → (a ≡ false) × (b ≡ false)
or_parts true b h = absurd (true≢false h)
or_parts false b h = (refl, h)

-- no element is nothing
some-among : (ps : List Part) (x : Open) → has_nothing ps ≡ false → is_nothing (part_among ps x) ≡ false
some-among [] x h = refl
some-among (p ∷ ps) x h = by (is_in (set_of p) x) (some-among ps x tests.1) where
  tests : (is_nothing p ≡ false) × (has_nothing ps ≡ false)
  tests = or_parts (is_nothing p) (has_nothing ps) h

  by : (b : Bool) → is_nothing (part_among ps x) ≡ false → is_nothing (choose b (λ _. p) (λ _. part_among ps x)) ≡ false
  by true rest = tests.0
  by false rest = rest

pub some-part : (x : Open) → is_nothing (part_of x) ≡ false
unfolding part_of
some-part x = some-among parts x refl

-- an `html` is the root
pub root-html : (x : Open) → is_in set.Html x ≡ is_root (part_of x)
unfolding names_of mathml_names_of svg_names_of
root-html x = by (is_in set.Html x) (is_root (part_of x)) refl refl where
  root : (p : Part) → is_root p ≡ true → p ≡ Root
  root Root h = refl
  root p h = no h

  by : (b c : Bool) → is_in set.Html x ≡ b → is_root (part_of x) ≡ c → b ≡ c
  by true true e f = refl
  by false false e f = refl
  by true false e f = ap is_root (sym (set-part set.Html Root refl x e)) ∙ f
  by false true e f = sym e ∙ part-set x Root (root (part_of x) f) refl

pub only-nothing : (g : Ground) (q : Part) → may_stand g Root q ≡ true → is_nothing q ≡ true
only-nothing g Nothing h = refl
only-nothing g q h = no h

pub not-nothing : (g : Ground) (p q : Part) → is_root p ≡ false → may_stand g p q ≡ true → is_nothing q ≡ false
not-nothing g p Nothing r h = by p r h where
  by : (p : Part) → is_root p ≡ false → may_stand g p Nothing ≡ true → true ≡ false
  by Root r h = r
  by HeadPart r h = sym h
  by BodyPart r h = sym h
  by Frames r h = sym h
  by Contents r h = sym h
  by TablePart r h = sym h
  by Section r h = sym h
  by RowPart r h = sym h
  by Cell r h = sym h
  by CaptionPart r h = sym h
  by Columns r h = sym h
  by Loose r h = sym h
  by Nothing r h = sym h
not-nothing g p q r h = refl

pub root-is : (p : Part) → is_root p ≡ true → p ≡ Root
root-is Root h = refl
root-is p h = no h

-- the root was opened first, and no other
pub nested-root : (g : Ground) (xs : List Open) → nested g xs ≡ true → is_nonempty xs ≡ true → has_root xs ≡ true
nested-root g [] n s = no s
nested-root g (x ∷ xs) n s =
    let tests = and_parts (may_stand g (part_of x) (top xs)) _ n in
    by (is_root (part_of x)) refl tests.0 (λ k. nested-root g xs tests.1 k)
  where
    filled : (xs : List Open) → is_nothing (top xs) ≡ true → is_nonempty xs ≡ false
    filled [] h = refl
    filled (y ∷ ys) h = absurd (true≢false (sym h ∙ some-part y))

    some : (xs : List Open) → is_nothing (top xs) ≡ false → is_nonempty xs ≡ true
    some [] h = absurd (true≢false h)
    some (y ∷ ys) h = refl

    by : (b : Bool) → is_root (part_of x) ≡ b → may_stand g (part_of x) (top xs) ≡ true
        → (is_nonempty xs ≡ true → has_root xs ≡ true) → choose (is_in set.Html x) (λ _. not (is_nonempty xs)) (λ _. has_root xs) ≡ true
    by true e m rest = rw (root-html x ∙ e) (ap not (filled xs (only-nothing g (top xs) (rw (root-is (part_of x) e) at m))))
    by false e m rest = rw (root-html x ∙ e) (rest (some xs (not-nothing g (part_of x) (top xs) e m)))

pub at-root : (xs : List Open) → is_root (top xs) ≡ is_at_root xs
at-root [] = refl
at-root (x ∷ xs) = sym (root-html x)

nonempty-top : (xs : List Open) (b : Bool) → is_nothing (top xs) ≡ false → is_nonempty xs ≡ true
nonempty-top [] b h = absurd (true≢false h)
nonempty-top (x ∷ xs) b h = refl

pub base-nonempty : (xs : List Open) → is_nothing (base xs) ≡ false → is_nonempty xs ≡ true
base-nonempty [] h = absurd (true≢false h)
base-nonempty (x ∷ xs) h = refl

pub based-some : (m : InsertionMode) (p : Part) → has_base m p ≡ true → is_nothing p ≡ false
based-some m Nothing h = by m h where
  by : (m : InsertionMode) → has_base m Nothing ≡ true → true ≡ false
  by mode.Initial h = sym h
  by mode.BeforeHtml h = sym h
  by mode.BeforeHead h = sym h
  by mode.InHead h = sym h
  by mode.InHeadNoscript h = sym h
  by mode.AfterHead h = sym h
  by mode.InBody h = sym h
  by mode.Text h = sym h
  by mode.InTable h = sym h
  by mode.InTableText h = sym h
  by mode.InCaption h = sym h
  by mode.InColumnGroup h = sym h
  by mode.InTableBody h = sym h
  by mode.InRow h = sym h
  by mode.InCell h = sym h
  by mode.InTemplate h = sym h
  by mode.AfterBody h = sym h
  by mode.InFrameset h = sym h
  by mode.AfterFrameset h = sym h
  by mode.AfterAfterBody h = sym h
  by mode.AfterAfterFrameset h = sym h
based-some m p h = refl

-- documents have a root that asks for a head
pub document-asks : (c : Option Open) → is_document (ground_of c) ≡ true → asks_root c ≡ true
document-asks None h = refl
document-asks (Some c) h = by (is_in set.Html c) (is_in set.Frameset c) h where
  by : (a b : Bool) → is_document (choose a (λ _. Document) (λ _. choose b (λ _. InFrames) (λ _. Flow))) ≡ true → a ≡ true
  by true b h = refl
  by false true h = no h
  by false false h = no h

pub or_some : (a b : Bool) → (a || not b) ≡ true → b ≡ true → a ≡ true
or_some true b h e = refl
or_some false b h e = absurd (true≢false (sym (rw e at h)))

-- a head is in documents alone
head-document : (g : Ground) (xs : List Open) → nested g xs ≡ true → is_head (top xs) ≡ true → is_document g ≡ true
head-document g [] n h = no h
head-document g (x ∷ xs) n h = by (part_of x) (top xs) h (and_parts (may_stand g (part_of x) (top xs)) _ n).0 where
  by : (p q : Part) → is_head p ≡ true → may_stand g p q ≡ true → is_document g ≡ true
  by HeadPart Root h m = m
  by HeadPart q h m = no m
  by p q h m = no h

-- a cell is in table scope
cell-scope : (xs : List Open) → base xs ≡ Cell → in_scope set.TableScope (is_in set.TdTh) xs ≡ true
unfolding names_of mathml_names_of svg_names_of
cell-scope [] e = absurd (cc)
cell-scope (x ∷ xs) e = by (is_loose (part_of x)) refl e (cell-scope xs) where
  loose-is : (p : Part) → is_loose p ≡ true → p ≡ Loose
  loose-is Loose h = refl
  loose-is p h = no h

  past : (a : Bool) → is_in set.TableScope x ≡ false → in_scope set.TableScope (is_in set.TdTh) xs ≡ true
      → choose a (λ _. true) (λ _. choose (is_in set.TableScope x) (λ _. false) (λ _. in_scope set.TableScope (is_in set.TdTh) xs)) ≡ true
  past true o rest = refl
  past false o rest = rw o rest

  by : (b : Bool) → is_loose (part_of x) ≡ b → choose b (λ _. base xs) (λ _. part_of x) ≡ Cell
      → (base xs ≡ Cell → in_scope set.TableScope (is_in set.TdTh) xs ≡ true) → in_scope set.TableScope (is_in set.TdTh) (x ∷ xs) ≡ true
  by true l e rest = past (is_in set.TdTh x) (parts-out set.TableScope refl x (loose-is (part_of x) l)) (rest e)
  by false l e rest = rw (part-set x Cell e refl) refl

pub loose-not_root : (p : Part) → is_loose p ≡ true → is_root p ≡ false
loose-not_root Loose h = refl
loose-not_root p h = no h

pub loose-count : (x : Open) (xs : List Open) → is_loose (part_of x) ≡ true → open_templates (x ∷ xs) ≡ open_templates xs
loose-count x xs l = pushed-templates x xs (loose-part (part_of x) l) where
  loose-part : (p : Part) → is_loose p ≡ true → p ≡ Loose
  loose-part Loose h = refl
  loose-part p h = no h

-- what a direct mode asks

nonempty-modes : (modes : List InsertionMode) → 1 ≤ length modes → is_nonempty modes ≡ true
nonempty-modes [] h = absurd (omega arith)
nonempty-modes (m ∷ modes) h = refl

cell-base : (p : Part) → has_base mode.InCell p ≡ true → p ≡ Cell
cell-base Cell h = refl
cell-base p h = no h

based-root : (g : Ground) (template : Bool) (m : InsertionMode) (xs : List Open)
    → (nested g xs && (has_base m (base xs) && fits_root g template m (base xs))) ≡ true → has_root xs ≡ true
based-root g template m xs h =
    let tests = and_parts (nested g xs) _ h in
    nested-root g xs tests.0 (base-nonempty xs (based-some m (base xs) (and_parts (has_base m (base xs)) _ tests.1).0))

frames-some : (p : Part) → is_frames p ≡ true → is_nothing p ≡ false
frames-some Root h = refl
frames-some Frames h = refl
frames-some p h = no h

pub frames-root : (g : Ground) (xs : List Open) → (nested g xs && is_frames (top xs)) ≡ true → has_root xs ≡ true
frames-root g xs h = let tests = and_parts (nested g xs) _ h in nested-root g xs tests.0
    (nonempty-top xs true (frames-some (top xs) tests.1))

in-frames : (g : Ground) (xs : List Open) → (not (is_flow g) && (nested g xs && is_frames (top xs))) ≡ true → has_root xs ≡ true
in-frames g xs h = frames-root g xs (and_parts (not (is_flow g)) _ h).1

behind-frames : (g : Ground) (xs : List Open) → (not (is_flow g) && (are_html xs && has_root xs)) ≡ true → has_root xs ≡ true
behind-frames g xs h = (and_parts (are_html xs) _ (and_parts (not (is_flow g)) _ h).1).1

module _ (context : Option Open) (head : Option ℕ) (modes : List InsertionMode)
    (some : is_document (ground_of context) ≡ true → is_some head ≡ true) where
  abbrev g : Ground
  g = ground_of context

  root-top : (xs : List Open) → (is_document g && (nested g xs && is_root (top xs))) ≡ true → (is_document g ≡ true)
      × ((has_root xs ≡ true) × (is_at_root xs ≡ true))
  root-top xs h =
      let one = and_parts (is_document g) _ h in
      let two = and_parts (nested g xs) _ one.1 in
      (one.0, (nested-root g xs two.0 (nonempty-top xs true (ap is_nothing (root-is (top xs) two.1))), sym (at-root xs) ∙ two.1))

  head-top : (xs : List Open) → (nested g xs && is_head (top xs)) ≡ true → (is_some head ≡ true)
      × ((has_root xs ≡ true) × (is_at_root xs ≡ false))
  head-top xs h =
      let one = and_parts (nested g xs) _ h in (
        some (head-document g xs one.0 one.1),
        (nested-root g xs one.0 (nonempty-top xs true (head-some (top xs) one.1)), sym (at-root xs) ∙ head-root (top xs) one.1),
      )
    where
      head-some : (p : Part) → is_head p ≡ true → is_nothing p ≡ false
      head-some HeadPart h = refl
      head-some p h = no h

      head-root : (p : Part) → is_head p ≡ true → is_root p ≡ false
      head-root HeadPart h = refl
      head-root p h = no h

  template-modes : (template : Bool) (xs : List Open) → open_templates xs + one_if template ≡ length modes
      → has_base mode.InTemplate (base xs) ≡ true → fits_root g template mode.InTemplate (base xs) ≡ true → is_nonempty modes ≡ true
  template-modes template xs count b f = by (base xs) refl b f where
    by : (p : Part) → base xs ≡ p → has_base mode.InTemplate p ≡ true → fits_root g template mode.InTemplate
        p ≡ true → is_nonempty modes ≡ true
    by Contents e b f = nonempty-modes modes (let many = contents-count xs e in let c = count in omega arith)
    by Root e b f = let one : one_if template ≡ 1 = ap one_if (root-template template (and_parts (is_flow g) _ f).1)
        in nonempty-modes modes (let c = count in omega arith) where
          root-template : (b : Bool) → (b || false) ≡ true → b ≡ true
          root-template true h = refl
          root-template false h = h
    by p e b f = no b

  pub fits-direct : (template : Bool) (m : InsertionMode) (xs : List Open)
      → open_templates xs + one_if template ≡ length modes → fits_nested g template m xs ≡ true → fits_in m xs head modes ≡ true
  fits-direct template mode.Initial xs count h = h
  fits-direct template mode.BeforeHtml xs count h = h
  fits-direct template mode.BeforeHead xs count h = (root-top xs h).1.0
  fits-direct template mode.AfterHead xs count h = let is = root-top xs h in rw (is.1.0, some is.0, is.1.1) refl
  fits-direct template mode.InHead xs count h = let is = head-top xs h in rw (is.1.0, is.0, is.1.1) refl
  fits-direct template mode.InHeadNoscript [] count h = no h
  fits-direct template mode.InHeadNoscript (x ∷ xs) count h =
      let one = and_parts (is_loose (part_of x)) _ h in
      let is = head-top xs one.1 in
      rw (root-html x, loose-not_root (part_of x) one.0, is.1.0, is.0) refl
  fits-direct template mode.InFrameset xs count h = in-frames g xs h
  fits-direct template mode.AfterFrameset xs count h = in-frames g xs h
  fits-direct template mode.AfterAfterFrameset xs count h = behind-frames g xs h
  fits-direct template mode.Text xs count h = no h
  fits-direct template mode.InTableText xs count h = no h
  fits-direct template mode.InTemplate xs count h =
      let two = and_parts (has_base mode.InTemplate (base xs)) _ (and_parts (nested g xs) _ h).1 in
      rw (based-root g template mode.InTemplate xs h, template-modes template xs count two.0 two.1) refl
  fits-direct template mode.InCell xs count h =
      let two = and_parts (has_base mode.InCell (base xs)) _ (and_parts (nested g xs) _ h).1 in
      rw (based-root g template mode.InCell xs h, cell-scope xs (cell-base (base xs) two.0)) refl
  fits-direct template mode.InBody xs count h = based-root g template mode.InBody xs h
  fits-direct template mode.InTable xs count h = based-root g template mode.InTable xs h
  fits-direct template mode.InCaption xs count h = based-root g template mode.InCaption xs h
  fits-direct template mode.InColumnGroup xs count h = based-root g template mode.InColumnGroup xs h
  fits-direct template mode.InTableBody xs count h = based-root g template mode.InTableBody xs h
  fits-direct template mode.InRow xs count h = based-root g template mode.InRow xs h
  fits-direct template mode.AfterBody xs count h = based-root g template mode.AfterBody xs h
  fits-direct template mode.AfterAfterBody xs count h = based-root g template mode.AfterAfterBody xs h

  -- where something is open, the root is
  pub direct-root : (template : Bool) (m : InsertionMode) (xs : List Open) → is_nonempty xs ≡ true
      → fits_nested g template m xs ≡ true → has_root xs ≡ true
  direct-root template mode.Initial xs s h = absurd (true≢false (sym s ∙ not_true _ h))
  direct-root template mode.BeforeHtml xs s h = absurd (true≢false (sym s ∙ not_true _ h))
  direct-root template mode.BeforeHead xs s h = (root-top xs h).1.0
  direct-root template mode.AfterHead xs s h = (root-top xs h).1.0
  direct-root template mode.InHead xs s h = (head-top xs h).1.0
  direct-root template mode.InHeadNoscript [] s h = no h
  direct-root template mode.InHeadNoscript (x ∷ xs) s h = let one = and_parts (is_loose (part_of x)) _ h in
      rw (root-html x, loose-not_root (part_of x) one.0) ((head-top xs one.1).1.0)
  direct-root template mode.InFrameset xs s h = in-frames g xs h
  direct-root template mode.AfterFrameset xs s h = in-frames g xs h
  direct-root template mode.AfterAfterFrameset xs s h = behind-frames g xs h
  direct-root template mode.Text xs s h = no h
  direct-root template mode.InTableText xs s h = no h
  direct-root template mode.InTemplate xs s h = based-root g template mode.InTemplate xs h
  direct-root template mode.InCell xs s h = based-root g template mode.InCell xs h
  direct-root template mode.InBody xs s h = based-root g template mode.InBody xs h
  direct-root template mode.InTable xs s h = based-root g template mode.InTable xs h
  direct-root template mode.InCaption xs s h = based-root g template mode.InCaption xs h
  direct-root template mode.InColumnGroup xs s h = based-root g template mode.InColumnGroup xs h
  direct-root template mode.InTableBody xs s h = based-root g template mode.InTableBody xs h
  direct-root template mode.InRow xs s h = based-root g template mode.InRow xs h
  direct-root template mode.AfterBody xs s h = based-root g template mode.AfterBody xs h
  direct-root template mode.AfterAfterBody xs s h = based-root g template mode.AfterAfterBody xs h

  -- under a text
  text-fits : (template : Bool) (o : Option InsertionMode) (xs : List Open)
      → open_templates xs + one_if template ≡ length modes → fits_under g template o xs ≡ true
      → (has_root xs && not (is_at_root xs) && fits_in_original o (without_current xs) head modes) ≡ true
  text-fits template None xs count h = no h
  text-fits template (Some m) [] count h = no h
  text-fits template (Some m) (x ∷ xs) count h =
      let one = and_parts (is_loose (part_of x)) _ h in
      let two = and_parts (is_nonempty xs) _ one.1 in
      let not_root : is_in set.Html x ≡ false = root-html x ∙ loose-not_root (part_of x) one.0 in
      let count' : open_templates xs + one_if template ≡ length modes = ap (λ n. n + one_if template)
      (sym (loose-count x xs one.0)) ∙ count in
      rw (not_root, direct-root template m xs two.0 two.1, fits-direct template m xs count' two.1) refl

  table-fits : (template : Bool) (o : Option InsertionMode) (xs : List Open)
      → open_templates xs + one_if template ≡ length modes → fits_table g template o xs ≡ true → fits_in_original o xs head modes ≡ true
  table-fits template None xs count h = no h
  table-fits template (Some m) xs count h = fits-direct template m xs count
      (and_parts (is_table_mode m) _ (and_parts (is_foster (top xs)) _ h).1).1

  parts-fit : (template : Bool) (m : InsertionMode) (o : Option InsertionMode) (xs : List Open)
      → open_templates xs + one_if template ≡ length modes → fits_parts g template m o xs ≡ true → fits_mode m o xs head modes ≡ true
  parts-fit template mode.Text o xs count h = text-fits template o xs count h
  parts-fit template mode.InTableText o xs count h = table-fits template o xs count h
  parts-fit template mode.Initial o xs count h = fits-direct template mode.Initial xs count h
  parts-fit template mode.BeforeHtml o xs count h = fits-direct template mode.BeforeHtml xs count h
  parts-fit template mode.BeforeHead o xs count h = fits-direct template mode.BeforeHead xs count h
  parts-fit template mode.InHead o xs count h = fits-direct template mode.InHead xs count h
  parts-fit template mode.InHeadNoscript o xs count h = fits-direct template mode.InHeadNoscript xs count h
  parts-fit template mode.AfterHead o xs count h = fits-direct template mode.AfterHead xs count h
  parts-fit template mode.InBody o xs count h = fits-direct template mode.InBody xs count h
  parts-fit template mode.InTable o xs count h = fits-direct template mode.InTable xs count h
  parts-fit template mode.InCaption o xs count h = fits-direct template mode.InCaption xs count h
  parts-fit template mode.InColumnGroup o xs count h = fits-direct template mode.InColumnGroup xs count h
  parts-fit template mode.InTableBody o xs count h = fits-direct template mode.InTableBody xs count h
  parts-fit template mode.InRow o xs count h = fits-direct template mode.InRow xs count h
  parts-fit template mode.InCell o xs count h = fits-direct template mode.InCell xs count h
  parts-fit template mode.InTemplate o xs count h = fits-direct template mode.InTemplate xs count h
  parts-fit template mode.AfterBody o xs count h = fits-direct template mode.AfterBody xs count h
  parts-fit template mode.InFrameset o xs count h = fits-direct template mode.InFrameset xs count h
  parts-fit template mode.AfterFrameset o xs count h = fits-direct template mode.AfterFrameset xs count h
  parts-fit template mode.AfterAfterBody o xs count h = fits-direct template mode.AfterAfterBody xs count h
  parts-fit template mode.AfterAfterFrameset o xs count h = fits-direct template mode.AfterAfterFrameset xs count h

-- before the head no head is asked for
early-same : (m : InsertionMode) (o : Option InsertionMode) (xs : List Open) (head other : Option ℕ)
    (modes : List InsertionMode) → is_later m ≡ false → fits_mode m o xs head modes ≡ fits_mode m o xs other modes
early-same mode.Initial o xs head other modes l = refl
early-same mode.BeforeHtml o xs head other modes l = refl
early-same mode.BeforeHead o xs head other modes l = refl
early-same m o xs head other modes l = absurd (true≢false l)

-- a state in which the parts nest fits
pub nested-fits : (s : State) → has_its_head s.mode s.head_elem s.context_elem ≡ true → IsNested s → is_fit s ≡ true
unfolding is_fit
nested-fits s held h = both _ _ (by (is_later s.mode) refl) (eq-eqb (length s.template_modes) (wanted s) (sym h.count)) where
  by : (b : Bool) → is_later s.mode ≡ b → fits_mode s.mode s.orig_mode s.open_elems s.head_elem s.template_modes ≡ true
  by true l =
      parts-fit s.context_elem s.head_elem s.template_modes
      (λ d. or_some (is_some s.head_elem) (asks_root s.context_elem) (rw l at held)
      (document-asks s.context_elem d)) (context_is set.Template s.context_elem) s.mode s.orig_mode s.open_elems h.count h.fits
  by false l =
      early-same s.mode s.orig_mode s.open_elems s.head_elem (Some 0) s.template_modes l
      ∙ parts-fit s.context_elem (Some 0) s.template_modes (λ d. refl) (context_is set.Template s.context_elem)
      s.mode s.orig_mode s.open_elems h.count h.fits
