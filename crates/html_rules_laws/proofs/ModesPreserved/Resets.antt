-- The mode that the open elements ask for fits them.
use Rattle.std.proofs.Common.{◌≡◌, ◌∙◌, ℕ, suc, Bool, true, false, List, [], ◌∷◌, length, Option, Some, None, refl, sym, ap}
use Rattle.std.proofs.Common.{subst, true≢false, codes}
use Rattle.std.specs.Prelude.{◌||◌, ◌&&◌, not, IfSome}
use Rattle.std.proofs.lemmas.Bool.{and_parts}
use Rattle.markup.specs.Forest.{data_of, element_name}
use Rattle.html_rules.specs.Choice.{choose}
use Rattle.html_rules.specs.Conditions.{context_is, is_nonempty}
use Rattle.html_rules.specs.Names.{Html, element_name_of}
use Rattle.html_rules.specs.Reset.{current_template_mode, mode_of, mode_of_context, mode_of_html, mode_of_open, reset_insertion_mode}
use Rattle.html_rules.specs.Sets.{mathml_names_of, names_of, svg_names_of}
use Rattle.html_rules.specs.Stack.{has_open, in_scope, left_below, left_from, open_templates}
use Rattle.html_rules.specs.State.{Open, State, is_in}
use Rattle.html_rules.specs.declared.insertion_mode.InsertionMode.{InsertionMode}
use Rattle.html_rules.specs.declared.insertion_mode.InsertionMode.TheVariants as mode
use Rattle.html_rules.specs.declared.tag_set.TagSet.TheVariants as set
use Rattle.html_rules_laws.specs.Held.{wanted}
use Rattle.html_rules_laws.specs.Nesting.{IsNested, fits_parts, Part, Root, HeadPart, BodyPart, Frames, Contents, TablePart}
use Rattle.html_rules_laws.specs.Nesting.{Section, RowPart, Cell, CaptionPart, Columns, Loose, Nothing, Ground, Document}
use Rattle.html_rules_laws.specs.Nesting.{InFrames, Flow, base, fits_nested, ground_in, ground_of, is_flow, is_loose, is_root}
use Rattle.html_rules_laws.specs.Nesting.{may_stand, nested, part_of, set_of, takes, top}
use Rattle.html_rules_laws.specs.Settled.{are_template_modes}
use Rattle.html_rules_laws.proofs.SetFacts.{in-apart, out-within}
use Rattle.html_rules_laws.proofs.ModesPreserved.Fits.{some-part}
use Rattle.html_rules_laws.proofs.ModesPreserved.Fluid.{base-solid, is_nothing, loose-is}
use Rattle.html_rules_laws.proofs.ModesPreserved.Runs.{is_template_base, top-base}
use Rattle.html_rules_laws.proofs.ModesPreserved.Stacks.{loose-takes}
use Rattle.html_rules_laws.proofs.ModesPreserved.Parts.{has_part, part-set, same-is, same_part, set-part}
use Rattle.html_rules_laws.proofs.Bools.{no}

-- whether an element is in a part's set is whether it is that part
is-part : (q : Part) → has_part q (set_of q) ≡ true → is_loose q ≡ false → same_part q q ≡ true → (x : Open)
    → is_in (set_of q) x ≡ same_part q (part_of x)
is-part q h l s x = by (is_in (set_of q) x) (same_part q (part_of x)) refl refl where
  by : (a b : Bool) → is_in (set_of q) x ≡ a → same_part q (part_of x) ≡ b → a ≡ b
  by true true e f = refl
  by false false e f = refl
  by true false e f = sym (subst (λ p. same_part q p ≡ true) (sym (set-part (set_of q) q h x e)) s) ∙ f
  by false true e f = sym e ∙ part-set x q (same-is q (part_of x) f) l

-- the mode by the part that was opened last
abbrev pub mode_at : State → Part → InsertionMode
mode_at s Cell = mode.InCell
mode_at s HeadPart = mode.InHead
mode_at s Root = mode_of_context s s.context_elem
mode_at s RowPart = mode.InRow
mode_at s Section = mode.InTableBody
mode_at s CaptionPart = mode.InCaption
mode_at s Columns = mode.InColumnGroup
mode_at s TablePart = mode.InTable
mode_at s Contents = current_template_mode s.template_modes
mode_at s Frames = mode.InFrameset
mode_at s p = mode.InBody

-- the tests of a reset
abbrev by_part : State → Part → InsertionMode → InsertionMode
by_part s p rest =
    choose (same_part Cell p) (λ _. mode.InCell)
    (λ _. choose (same_part HeadPart p) (λ _. mode.InHead)
    (λ _. choose (same_part Root p) (λ _. mode_of_context s s.context_elem)
    (λ _. choose (same_part RowPart p) (λ _. mode.InRow)
    (λ _. choose (same_part Section p) (λ _. mode.InTableBody)
    (λ _. choose (same_part CaptionPart p) (λ _. mode.InCaption)
    (λ _. choose (same_part Columns p) (λ _. mode.InColumnGroup)
    (λ _. choose (same_part TablePart p) (λ _. mode.InTable)
    (λ _. choose (same_part Contents p) (λ _. current_template_mode s.template_modes)
    (λ _. choose (same_part BodyPart p) (λ _. mode.InBody)
    (λ _. choose (same_part Frames p) (λ _. mode.InFrameset)
    (λ _. choose (same_part Root p) (λ _. mode_of_html s.head_elem) (λ _. rest))))))))))))

open-tests : (s : State) (x : Open) (xs : List Open) → mode_of_open s (x ∷ xs) ≡ by_part s (part_of x) (mode_of_open s xs)
unfolding names_of mathml_names_of svg_names_of
open-tests s x xs =
    rw (
      is-part Cell refl refl refl x,
      is-part HeadPart refl refl refl x,
      is-part Root refl refl refl x,
      is-part RowPart refl refl refl x,
      is-part Section refl refl refl x,
      is-part CaptionPart refl refl refl x,
      is-part Columns refl refl refl x,
      is-part TablePart refl refl refl x,
      is-part Contents refl refl refl x,
      is-part BodyPart refl refl refl x,
      is-part Frames refl refl refl x,
    ) refl

by-loose : (s : State) (p : Part) (rest : InsertionMode) → is_loose p ≡ true → by_part s p rest ≡ rest
by-loose s Loose rest h = refl
by-loose s p rest h = no h

by-solid : (s : State) (p : Part) (rest : InsertionMode) → is_loose p ≡ false → is_nothing p ≡ false → by_part s p rest ≡ mode_at s p
by-solid s Cell rest h n = refl
by-solid s HeadPart rest h n = refl
by-solid s Root rest h n = refl
by-solid s RowPart rest h n = refl
by-solid s Section rest h n = refl
by-solid s CaptionPart rest h n = refl
by-solid s Columns rest h n = refl
by-solid s TablePart rest h n = refl
by-solid s Contents rest h n = refl
by-solid s BodyPart rest h n = refl
by-solid s Frames rest h n = refl
by-solid s Loose rest h n = absurd (true≢false h)
by-solid s Nothing rest h n = absurd (true≢false n)

pub mode-of_open : (s : State) (xs : List Open) → mode_of_open s xs ≡ mode_at s (base xs)
mode-of_open s [] = refl
mode-of_open s (x ∷ xs) = open-tests s x xs ∙ by (is_loose (part_of x)) refl (mode-of_open s xs) where
  by : (b : Bool) → is_loose (part_of x) ≡ b → mode_of_open s xs ≡ mode_at s (base xs) → by_part s (part_of x)
      (mode_of_open s xs) ≡ mode_at s (choose b (λ _. base xs) (λ _. part_of x))
  by true l rest = by-loose s (part_of x) (mode_of_open s xs) l ∙ rest
  by false l rest = by-solid s (part_of x) (mode_of_open s xs) l (some-part x)

-- the tests of a context
abbrev by_context : State → Part → InsertionMode
by_context s p =
    choose (same_part RowPart p) (λ _. mode.InRow)
    (λ _. choose (same_part Section p) (λ _. mode.InTableBody)
    (λ _. choose (same_part CaptionPart p) (λ _. mode.InCaption)
    (λ _. choose (same_part Columns p) (λ _. mode.InColumnGroup)
    (λ _. choose (same_part TablePart p) (λ _. mode.InTable)
    (λ _. choose (same_part Contents p) (λ _. current_template_mode s.template_modes)
    (λ _. choose (same_part BodyPart p) (λ _. mode.InBody)
    (λ _. choose (same_part Frames p) (λ _. mode.InFrameset)
    (λ _. choose (same_part Root p) (λ _. mode_of_html s.head_elem) (λ _. mode.InBody)))))))))

context-tests : (s : State) (c : Open) → mode_of s c (λ _. mode.InBody) ≡ by_context s (part_of c)
unfolding names_of mathml_names_of svg_names_of
context-tests s c =
    rw (
      is-part Root refl refl refl c,
      is-part RowPart refl refl refl c,
      is-part Section refl refl refl c,
      is-part CaptionPart refl refl refl c,
      is-part Columns refl refl refl c,
      is-part TablePart refl refl refl c,
      is-part Contents refl refl refl c,
      is-part BodyPart refl refl refl c,
      is-part Frames refl refl refl c,
    ) refl

-- the ground by its part
abbrev ground_at : Part → Ground
ground_at p = choose (same_part Root p) (λ _. Document) (λ _. choose (same_part Frames p) (λ _. InFrames) (λ _. Flow))

ground-tests : (c : Open) → ground_in c ≡ ground_at (part_of c)
unfolding names_of mathml_names_of svg_names_of
ground-tests c = rw (is-part Root refl refl refl c, is-part Frames refl refl refl c) refl

template-test : (c : Open) → is_in set.Template c ≡ same_part Contents (part_of c)
unfolding names_of mathml_names_of svg_names_of
template-test c = is-part Contents refl refl refl c

-- where others stand on the part that was opened last, it takes them

loose-over : (g : Ground) (xs : List Open) → nested g xs ≡ true → is_loose (top xs) ≡ true → takes g (base xs) ≡ true
loose-over g [] n l = no l
loose-over g (x ∷ xs) n l =
    let tests = and_parts (may_stand g (part_of x) (top xs)) _ n in
    rw l (by (is_loose (top xs)) refl (loose-takes g (part_of x) (top xs) (loose-is (part_of x) l) tests.0) (loose-over g xs tests.1))
  where
    by : (b : Bool) → is_loose (top xs) ≡ b → takes g (top xs) ≡ true
        → (is_loose (top xs) ≡ true → takes g (base xs) ≡ true) → takes g (base xs) ≡ true
    by true e t rest = rest e
    by false e t rest = rw (top-base xs e) t

solid-top : (g : Ground) (xs : List Open) → nested g xs ≡ true → takes g (base xs) ≡ false → top xs ≡ base xs
solid-top g xs n t = by (is_loose (top xs)) refl where
  by : (b : Bool) → is_loose (top xs) ≡ b → top xs ≡ base xs
  by true e = absurd (true≢false (sym (loose-over g xs n e) ∙ t))
  by false e = sym (top-base xs e)

base-some : (g : Ground) (xs : List Open) → nested g xs ≡ true → is_nonempty xs ≡ true → is_nothing (base xs) ≡ false
base-some g [] n s = no s
base-some g (x ∷ xs) n s =
    let tests = and_parts (may_stand g (part_of x) (top xs)) _ n in
    by (is_loose (part_of x)) refl (λ e. loose-takes g (part_of x) (top xs) (loose-is (part_of x) e) tests.0) (base-some g xs tests.1)
  where
    filled : (g : Ground) (xs : List Open) → takes g (top xs) ≡ true → is_nonempty xs ≡ true
    filled g [] t = no t
    filled g (y ∷ ys) t = refl

    by : (b : Bool) → is_loose (part_of x) ≡ b → (is_loose (part_of x) ≡ true → takes g (top xs) ≡ true)
        → (is_nonempty xs ≡ true → is_nothing (base xs) ≡ false) → is_nothing (choose b (λ _. base xs) (λ _. part_of x)) ≡ false
    by true e t rest = rest (filled g xs (t e))
    by false e t rest = some-part x

-- the mode of a template
template-fits : (g : Ground) (template : Bool) (xs : List Open) (p : Part) → nested g xs ≡ true → base xs ≡ p
    → is_template_base p ≡ true → (is_root p ≡ true → (is_flow g && template) ≡ true) → (modes : List InsertionMode)
    → are_template_modes modes ≡ true → fits_nested g template (current_template_mode modes) xs ≡ true
template-fits g template xs p n e b r modes m = by p modes e b r m where
  flowing : (a b c : Bool) → (a && b) ≡ true → (a && (b || c)) ≡ true
  flowing true true c h = refl
  flowing true false c h = no h
  flowing false b c h = no h

  by : (p : Part) (modes : List InsertionMode) → base xs ≡ p → is_template_base p ≡ true
      → (is_root p ≡ true → (is_flow g && template) ≡ true) → are_template_modes modes ≡ true
      → fits_nested g template (current_template_mode modes) xs ≡ true
  by Contents [] e b r m = rw (n, e) refl
  by Contents (mode.InTemplate ∷ modes) e b r m = rw (n, e) refl
  by Contents (mode.InTable ∷ modes) e b r m = rw (n, e) refl
  by Contents (mode.InColumnGroup ∷ modes) e b r m = rw (n, e) refl
  by Contents (mode.InTableBody ∷ modes) e b r m = rw (n, e) refl
  by Contents (mode.InRow ∷ modes) e b r m = rw (n, e) refl
  by Contents (mode.InBody ∷ modes) e b r m = rw (n, e) refl
  by Contents (other ∷ modes) e b r m = no m
  by Root [] e b r m = rw (n, e) (flowing (is_flow g) template true (r refl))
  by Root (mode.InTemplate ∷ modes) e b r m = rw (n, e) (flowing (is_flow g) template false (r refl))
  by Root (mode.InTable ∷ modes) e b r m = rw (n, e) (flowing (is_flow g) template true (r refl))
  by Root (mode.InColumnGroup ∷ modes) e b r m = rw (n, e) (flowing (is_flow g) template true (r refl))
  by Root (mode.InTableBody ∷ modes) e b r m = rw (n, e) (flowing (is_flow g) template true (r refl))
  by Root (mode.InRow ∷ modes) e b r m = rw (n, e) (flowing (is_flow g) template true (r refl))
  by Root (mode.InBody ∷ modes) e b r m = rw (n, e) (flowing (is_flow g) template true (r refl))
  by Root (other ∷ modes) e b r m = no m
  by p modes e b r m = no b

html-fits : (s : State) (template : Bool) (xs : List Open) → nested Document xs ≡ true → base xs ≡ Root
    → (head : Option ℕ) → fits_nested Document template (mode_of_html head) xs ≡ true
html-fits s template xs n e None = let at : top xs ≡ Root = solid-top Document xs n (rw e refl) ∙ e in rw (n, at) refl
html-fits s template xs n e (Some head) = let at : top xs ≡ Root = solid-top Document xs n (rw e refl) ∙ e in rw (n, at) refl

context-fits : (s : State) (p : Part) (xs : List Open) → nested (ground_at p) xs ≡ true → base xs ≡ Root
    → are_template_modes s.template_modes ≡ true → fits_nested (ground_at p) (same_part Contents p) (by_context s p) xs ≡ true
context-fits s Root xs n e m = html-fits s false xs n e s.head_elem
context-fits s Frames xs n e m = let at : top xs ≡ Root = solid-top InFrames xs n (rw e refl) ∙ e in rw (n, at) refl
context-fits s Contents xs n e m = template-fits Flow true xs Root n e refl (λ r. refl) s.template_modes m
context-fits s RowPart xs n e m = rw (n, e) refl
context-fits s Section xs n e m = rw (n, e) refl
context-fits s CaptionPart xs n e m = rw (n, e) refl
context-fits s Columns xs n e m = rw (n, e) refl
context-fits s TablePart xs n e m = rw (n, e) refl
context-fits s BodyPart xs n e m = rw (n, e) refl
context-fits s HeadPart xs n e m = rw (n, e) refl
context-fits s Cell xs n e m = rw (n, e) refl
context-fits s Loose xs n e m = rw (n, e) refl
context-fits s Nothing xs n e m = rw (n, e) refl

root-fits : (s : State) (o : Option Open) (xs : List Open) → nested (ground_of o) xs ≡ true → base xs ≡ Root
    → are_template_modes s.template_modes ≡ true → fits_nested (ground_of o) (context_is set.Template o) (mode_of_context s o) xs ≡ true
root-fits s None xs n e m = html-fits s false xs n e s.head_elem
root-fits s (Some c) xs n e m =
    rw (context-tests s c, ground-tests c, template-test c)
    (context-fits s (part_of c) xs (subst (λ g. nested g xs ≡ true) (ground-tests c) n) e m)

-- a frameset is open in documents and in a fragment of one
frames-ground : (g : Ground) (xs : List Open) → nested g xs ≡ true → top xs ≡ Frames → not (is_flow g) ≡ true
frames-ground g [] n e = absurd (cc)
frames-ground g (x ∷ xs) n e =
    let tests = and_parts (may_stand g (part_of x) (top xs)) _ n in
    by (top xs) refl (rw e at tests.0) (frames-ground g xs tests.1)
  where
    by : (p : Part) → top xs ≡ p → may_stand g Frames p ≡ true → (top xs ≡ Frames → not (is_flow g) ≡ true) → not (is_flow g) ≡ true
    by Root e h rest = h
    by Frames e h rest = rest e
    by p e h rest = no h

-- the mode of a reset fits what is open
pub reset-fits : (s : State) (xs : List Open) → nested (ground_of s.context_elem) xs ≡ true → is_nonempty xs ≡ true
    → are_template_modes s.template_modes ≡ true
    → fits_nested (ground_of s.context_elem) (context_is set.Template s.context_elem) (mode_of_open s xs) xs ≡ true
reset-fits s xs n some m = rw (mode-of_open s xs) (by (base xs) refl) where
  by : (p : Part) → base xs ≡ p → fits_nested (ground_of s.context_elem) (context_is set.Template s.context_elem) (mode_at s p) xs ≡ true
  by Cell e = rw (n, e) refl
  by HeadPart e = let at : top xs ≡ HeadPart = solid-top (ground_of s.context_elem) xs n (rw e refl) ∙ e in rw (n, at) refl
  by Frames e = let at : top xs ≡ Frames = solid-top (ground_of s.context_elem) xs n (rw e refl) ∙ e in
      rw (frames-ground (ground_of s.context_elem) xs n at, n, at) refl
  by Root e = root-fits s s.context_elem xs n e m
  by RowPart e = rw (n, e) refl
  by Section e = rw (n, e) refl
  by CaptionPart e = rw (n, e) refl
  by Columns e = rw (n, e) refl
  by TablePart e = rw (n, e) refl
  by BodyPart e = rw (n, e) refl
  by Contents e = template-fits (ground_of s.context_elem) (context_is set.Template s.context_elem) xs Contents n e
      refl (λ r. no r) s.template_modes m
  by Loose e = absurd (true≢false (sym (ap is_loose e) ∙ base-solid xs))
  by Nothing e = absurd (true≢false (sym (ap is_nothing e) ∙ base-some (ground_of s.context_elem) xs n some))

-- it is no mode of text
pub direct-parts : (g : Ground) (template : Bool) (m : InsertionMode) (o : Option InsertionMode) (xs : List Open)
    → fits_nested g template m xs ≡ true → fits_parts g template m o xs ≡ true
direct-parts g template mode.Text o xs h = no h
direct-parts g template mode.InTableText o xs h = no h
direct-parts g template m o xs h = h

-- after steps that leave the parts nested the mode is reset
pub record IsReset (q : State) : Type 0 where
  pub nested : nested (ground_of q.context_elem) q.open_elems ≡ true
  pub some : is_nonempty q.open_elems ≡ true
  pub modes : are_template_modes q.template_modes ≡ true
  pub count : wanted q ≡ length q.template_modes
  pub framed : q.frameset_ok ≡ true → open_templates q.open_elems ≡ 0
  pub form : IfSome q.form_elem (λ n. element_name (data_of q.forest n) ≡ Some (element_name_of Html (codes "form")))

pub reset-nested : (q : State) → IsReset q → IsNested (reset_insertion_mode q)
unfolding reset_insertion_mode
reset-nested q h = record {
  fits = direct-parts (ground_of q.context_elem) (context_is set.Template q.context_elem)
      (mode_of_open q q.open_elems) q.orig_mode q.open_elems (reset-fits q q.open_elems h.nested h.some h.modes);
  count = h.count;
  framed = h.framed;
  form = h.form;
}

-- a table is closed

pub record IsClosed (g : Ground) (xs ys : List Open) : Type 0 where
  pub nested : nested g ys ≡ true
  pub some : is_nonempty ys ≡ true
  pub templates : open_templates ys ≡ open_templates xs

taken : (g : Ground) (xs : List Open) → takes g (top xs) ≡ true → is_nonempty xs ≡ true
taken g [] h = no h
taken g (x ∷ xs) h = refl

in_template : (x : Open) → is_in set.TableScope x ≡ false → is_in set.Template x ≡ false
unfolding names_of mathml_names_of svg_names_of
in_template x h = out-within set.Template set.TableScope refl x h

table-template : (x : Open) → is_in set.Table x ≡ true → is_in set.Template x ≡ false
unfolding names_of mathml_names_of svg_names_of
table-template x h = in-apart set.Table set.Template refl x h

table-part : (x : Open) → is_in set.Table x ≡ true → part_of x ≡ TablePart
unfolding names_of mathml_names_of svg_names_of
table-part x h = set-part set.Table TablePart refl x h

pub table-closed : (g : Ground) (xs : List Open) → nested g xs ≡ true → in_scope set.TableScope (is_in set.Table)
    xs ≡ true → IsClosed g xs (left_below (is_in set.Table) xs)
table-closed g [] n i = no i
table-closed g (x ∷ xs) n i =
    let tests = and_parts (may_stand g (part_of x) (top xs)) _ n in
    by (is_in set.Table x) (is_in set.TableScope x) refl refl tests.0 tests.1 i (table-closed g xs tests.1)
  where
    by : (a b : Bool) → is_in set.Table x ≡ a → is_in set.TableScope x ≡ b → may_stand g (part_of x) (top xs) ≡ true
        → nested g xs ≡ true → choose a (λ _. true) (λ _. choose b (λ _. false) (λ _. in_scope set.TableScope (is_in set.Table) xs)) ≡ true
        → (in_scope set.TableScope (is_in set.Table) xs ≡ true → IsClosed g xs (left_below (is_in set.Table) xs))
        → IsClosed g (x ∷ xs) (choose a (λ _. xs) (λ _. left_below (is_in set.Table) xs))
    by true b e f m n i rest = record { nested = n; some = taken g xs (rw (table-part x e) at m); templates = rw (table-template x e) refl }
    by false true e f m n i rest = no i
    by false false e f m n i rest = let is = rest i in record {
      nested = is.nested;
      some = is.some;
      templates = rw (in_template x f) is.templates;
    }

-- a template is closed

stands-some : (g : Ground) (xs : List Open) → may_stand g Contents (top xs) ≡ true → is_nonempty xs ≡ true
stands-some g [] h = no h
stands-some g (x ∷ xs) h = refl

pub template-part : (x : Open) → is_in set.Template x ≡ true → part_of x ≡ Contents
unfolding names_of mathml_names_of svg_names_of
template-part x h = set-part set.Template Contents refl x h

pub record IsOpened (g : Ground) (xs ys : List Open) : Type 0 where
  pub nested : nested g ys ≡ true
  pub some : is_nonempty ys ≡ true
  pub templates : suc (open_templates ys) ≡ open_templates xs

pub template-closed : (g : Ground) (xs : List Open) → nested g xs ≡ true → has_open set.Template xs ≡ true
    → IsOpened g xs (left_below (is_in set.Template) xs)
template-closed g [] n i = no i
template-closed g (x ∷ xs) n i =
    let tests = and_parts (may_stand g (part_of x) (top xs)) _ n in
    by (is_in set.Template x) refl tests.0 tests.1 i (template-closed g xs tests.1)
  where
    by : (a : Bool) → is_in set.Template x ≡ a → may_stand g (part_of x) (top xs) ≡ true → nested g xs ≡ true
        → (a || has_open set.Template xs) ≡ true → (has_open set.Template xs ≡ true → IsOpened g xs (left_below (is_in set.Template) xs))
        → IsOpened g (x ∷ xs) (choose a (λ _. xs) (λ _. left_below (is_in set.Template) xs))
    by true e m n i rest = record { nested = n; some = stands-some g xs (rw (template-part x e) at m); templates = rw e refl }
    by false e m n i rest = let is = rest i in record { nested = is.nested; some = is.some; templates = rw e is.templates }

pub from-nested : (g : Ground) (stop : Open → Bool) (xs : List Open) → nested g xs ≡ true → nested g (left_from stop xs) ≡ true
from-nested g stop [] n = n
from-nested g stop (x ∷ xs) n = by (stop x) (from-nested g stop xs (and_parts (may_stand g (part_of x) (top xs)) _ n).1) where
  by : (b : Bool) → nested g (left_from stop xs) ≡ true → nested g (choose b (λ _. x ∷ xs) (λ _. left_from stop xs)) ≡ true
  by true rest = n
  by false rest = rest
