-- Turns in the modes of bodies, tables and templates leave the parts nested.
use Rattle.std.proofs.Common.{◌≡◌, ◌∙◌, ◌++◌, reverse, ℕ, zero, suc, ◌+◌, Bool, true, false, List, [], ◌∷◌, length, Option}
use Rattle.std.proofs.Common.{Some, None, refl, sym, ap, subst, true≢false, codes}
use Rattle.std.specs.Prelude.{◌||◌, ◌&&◌, not, is_some}
use Rattle.std.proofs.lemmas.Bool.{and_parts}
use Rattle.std.proofs.lemmas.Grind.{reverse_onto}
use Rattle.markup.specs.Forest.{node_count}
use Rattle.html_tokens.specs.declared.tags.Tag.{Tag}
use Rattle.html_tokens.specs.declared.token.Token.{Token}
use Rattle.html_tokens.specs.declared.tags.TagKind.{TagKind}
use Rattle.html_tokens.specs.declared.tags.TagKind.TheVariants.{StartTag, EndTag}
use Rattle.html_tokens.specs.declared.token.Token.TheVariants.{DoctypeToken, TagToken, CommentToken, CharacterTokens}
use Rattle.html_tokens.specs.declared.token.Token.TheVariants.{NullCharacterToken, EOFToken, ParseError as ErrorToken}
use Rattle.html_rules.specs.Actions.{act, save_mode, set_foster_parenting, set_mode}
use Rattle.html_rules.specs.Choice.{choose}
use Rattle.html_rules.specs.Conditions.{context_is, holds, is_nonempty}
use Rattle.html_rules.specs.ForeignContent.{is_end_tag, is_start_tag}
use Rattle.html_rules.specs.Names.{Html}
use Rattle.html_rules.specs.Places.{insert_element}
use Rattle.html_rules.specs.Rules.{Turn, concluded, rows, turn_by_row, using_rules_for}
use Rattle.html_rules.specs.Sets.{is_among, mathml_names_of, names_of, svg_names_of}
use Rattle.html_rules.specs.Shape.{one_if}
use Rattle.html_rules.specs.Stack.{body_elem, if_body, left_from, open_templates, parse_error, pop_until_current, remove_body}
use Rattle.html_rules.specs.Stack.{remove_if, second_of}
use Rattle.html_rules.specs.State.{Open, State, current_is, current_number, is_in, Options}
use Rattle.html_rules.specs.Table.{Row, Condition, Both, CurrentIs, FramesetOk, SecondIsBody, Action, Then, ParseError}
use Rattle.html_rules.specs.Table.{RemoveBody, InsertElement, SwitchTo, Nothing as NoAction, EnableFosterParenting, SaveMode}
use Rattle.html_rules.specs.Table.{Conclusion, Done, Acknowledged, Reprocess, ReprocessInOriginal, ReprocessInMode, Using}
use Rattle.html_rules.specs.Table.{UsingThen, UsingCurrentMode, RawText, PlainText, RunScript, ReportEncoding}
use Rattle.html_rules.specs.declared.insertion_mode.InsertionMode.{InsertionMode}
use Rattle.html_rules.specs.declared.insertion_mode.InsertionMode.TheVariants as mode
use Rattle.html_rules.specs.declared.rules.Rules.{Rules}
use Rattle.html_rules.specs.declared.tag_set.TagSet.TheVariants as set
use Rattle.html_rules_laws.specs.Nesting.{Document, InFrames, Flow, Part, Root, HeadPart, BodyPart, Frames, Contents, TablePart}
use Rattle.html_rules_laws.specs.Nesting.{Section, RowPart, Cell, CaptionPart, Columns, Loose, Nothing, Ground, IsNested, base}
use Rattle.html_rules_laws.specs.Nesting.{fits_nested, fits_parts, fits_root, ground_of, has_base, is_document, is_flow}
use Rattle.html_rules_laws.specs.Nesting.{is_foster, is_in_template, may_stand, nested, part_of, takes, top}
use Rattle.html_rules_laws.specs.Settled.{are_template_modes}
use Rattle.html_rules_laws.specs.Sound.{is_table_mode}
use Rattle.html_rules_laws.specs.Upright.{MayCome, is_first}
use Rattle.html_rules_laws.proofs.SetFacts.{all_among, among-all, in-apart}
use Rattle.html_rules_laws.proofs.Termination.Kinds.{Kind, Starts, StartsBut, Ends, EndsBut, Texts, Nulls, TheEnd, Others, is_of}
use Rattle.html_rules_laws.proofs.Soundness.Rows.{closes, opens, starts_template}
use Rattle.html_rules_laws.proofs.Soundness.Scan.{scan, scan-holds}
use Rattle.html_rules_laws.proofs.Soundness.Acts.{act-aside, tame_in}
use Rattle.html_rules_laws.proofs.TreePreserved.Acts.{act-eased}
use Rattle.html_rules_laws.proofs.TreePreserved.Poised.{Poised}
use Rattle.html_rules_laws.proofs.TreePreserved.Turns.{poised-of}
use Rattle.html_rules_laws.proofs.Frames.Framed as framed
use Rattle.html_rules_laws.proofs.Frames.Framed.{IsFramed}
use Rattle.html_rules_laws.proofs.ModesPreserved.Bodies.{contents-stands, flow-direct, fluid-nested, is_bodily, moved-nested}
use Rattle.html_rules_laws.proofs.ModesPreserved.Bodies.{raw, raw-nested, stays, stays-fluid, unfostered-nested, unfosters}
use Rattle.html_rules_laws.proofs.ModesPreserved.Bodies.{vacuous, vacuous-none}
use Rattle.html_rules_laws.proofs.ModesPreserved.Fits.{base-nonempty, based-some, not-nothing, only-nothing, root-html, some-part}
use Rattle.html_rules_laws.proofs.ModesPreserved.Fluid.{At, Fluid, form-kept, is_nothing, parts-out}
use Rattle.html_rules_laws.proofs.ModesPreserved.Parts.{part-apart, set-part}
use Rattle.html_rules_laws.proofs.ModesPreserved.Openings.{Ready, closes-nested, opens-nested, resets_table, table-nested}
use Rattle.html_rules_laws.proofs.ModesPreserved.Runs.{runs, runs-sound}
use Rattle.html_rules_laws.proofs.ModesPreserved.Smooth.{Guard, Holds, guard-holds, guard_of}
use Rattle.html_rules_laws.proofs.ModesPreserved.Stacks.{takes-top}
use Rattle.html_rules_laws.proofs.Bools.{both, no, not_true, or_by}
use Rattle.html_rules_laws.proofs.Frames.KeptBySteps.{insert-keeps, pop_until_current-keeps}

-- what is tested of rows, in a mode and with a part that was opened last

abbrev is_keep : Action → Bool
is_keep SaveMode = true
is_keep a = false

abbrev is_table_text : InsertionMode → Bool
is_table_text mode.InTableText = true
is_table_text m = false

-- the current node is a table or a part of one
abbrev is_over_table : Condition → Bool
is_over_table (CurrentIs set.FosterTarget) = true
is_over_table c = false

abbrev pub loose_at : InsertionMode → Part → At
loose_at m b = record { base = b; exact = false; mode = m }

abbrev pub fits_at : At → Bool
fits_at w = is_bodily w.mode && has_base w.mode w.base

abbrev fits_to : InsertionMode → At → Bool
fits_to to w = has_base to w.base

abbrev frames_kind : Kind → Bool
frames_kind (Starts names) = all_among names (names_of set.Frameset)
frames_kind kind = false

-- a frameset takes the place of the body
abbrev frames : Kind → Condition → Action → Bool
frames kind (Both FramesetOk SecondIsBody)
    (Then ParseError (Then RemoveBody (Then InsertElement (SwitchTo mode.InFrameset)))) = frames_kind kind
frames kind c a = false

abbrev ends_nested : (Kind → InsertionMode → Bool) → Kind → InsertionMode → Part → Condition → Action → Conclusion → Bool
ends_nested uses kind m b c a Done = runs kind (guard_of kind b c) a (loose_at m b) fits_at
    || (closes c a || ((opens a && starts_template kind) || (resets_table c a || frames kind c a)))
ends_nested uses kind m b c a (Reprocess to) =
    ((is_bodily to && (not (is_in_template to) && not (is_first to))) && runs kind (guard_of kind b c) a
    (loose_at m b) (fits_to to)) || (is_keep a && (is_over_table c && (is_table_mode m && is_table_text to)))
ends_nested uses kind m b c a ReprocessInOriginal = false
ends_nested uses kind m b c a ReprocessInMode = closes c a || resets_table c a
ends_nested uses kind m b c a (Using to) = stays a && uses kind to
ends_nested uses kind m b c a (UsingThen to after) = stays a && (unfosters after && uses kind to)
ends_nested uses kind m b c a UsingCurrentMode = false
ends_nested uses kind m b c a (RawText kind') = raw kind (guard_of kind b c) a (loose_at m b)
ends_nested uses kind m b c a e = runs kind (guard_of kind b c) a (loose_at m b) fits_at

abbrev row_nested : (Kind → InsertionMode → Bool) → InsertionMode → Part → Kind → Row → Bool
row_nested uses m b kind r = vacuous kind b r.when || ends_nested uses kind m b r.when r.does r.ends

unfoldable pub uses_nested : ℕ → InsertionMode → Part → Kind → InsertionMode → Bool
uses_nested zero m b kind to = true
uses_nested (suc n) m b kind to = scan (row_nested (uses_nested n m b) m b) kind (rows to)

abbrev part_names : List (List ℕ)
part_names = codes "html" ∷ codes "head" ∷ codes "body" ∷ codes "frameset" ∷ codes "template" ∷ codes "table" ∷
    codes "tbody" ∷ codes "tfoot" ∷ codes "thead" ∷ codes "tr" ∷ codes "td" ∷ codes "th" ∷ codes "caption" ∷
    codes "colgroup" ∷ codes "col" ∷ []

abbrev pub each_kind : (Kind → Bool) → Bool
each_kind p = p (Starts part_names)
    && (p (StartsBut part_names) && (p (Ends part_names) && (p (EndsBut part_names) && (p Texts && (p Nulls && (p TheEnd && p Others))))))

-- all parts that may have been opened last
abbrev pub each_part : InsertionMode → (Part → Bool) → Bool
each_part m p = (not (has_base m Root) || p Root)
    && ((not (has_base m BodyPart) || p BodyPart)
    && ((not (has_base m Contents) || p Contents)
    && ((not (has_base m TablePart) || p TablePart)
    && ((not (has_base m Section) || p Section)
    && ((not (has_base m RowPart) || p RowPart)
    && ((not (has_base m Cell) || p Cell)
    && ((not (has_base m CaptionPart) || p CaptionPart) && (not (has_base m Columns) || p Columns))))))))

mode_nested : InsertionMode → Part → Kind → Bool
mode_nested m b kind = uses_nested 4 m b kind m

modes_nested : (m : InsertionMode) → is_bodily m ≡ true → each_part m (λ b. each_kind (mode_nested m b)) ≡ true
unfolding mode_nested uses_nested rows names_of mathml_names_of svg_names_of
modes_nested mode.InBody h = refl
modes_nested mode.AfterBody h = refl
modes_nested mode.AfterAfterBody h = refl
modes_nested mode.InTable h = refl
modes_nested mode.InTableBody h = refl
modes_nested mode.InRow h = refl
modes_nested mode.InCell h = refl
modes_nested mode.InCaption h = refl
modes_nested mode.InColumnGroup h = refl
modes_nested mode.InTemplate h = refl
modes_nested m h = no h

-- what rows find besides
pub record Extra (s : State) : Type 0 where
  pub modes : are_template_modes s.template_modes ≡ true

ready-of : (g : Ground) (template : Bool) (v : At) (s : State) → Fluid g template v s → Extra s → Ready s
ready-of g template v s h e = record {
  standing = h.poised.upright.standing;
  nested = rw h.ground h.nested;
  modes = e.modes;
  count = h.count;
  framed = h.framed;
  form = h.form;
}

stays-extra : (a : Action) → stays a ≡ true → (t : Token) (s : State) → Extra s → Extra (act a t s)
unfolding parse_error set_foster_parenting
stays-extra (Then a b) h t s e = let tests = and_parts (stays a) (stays b) h in stays-extra b tests.1 t (act a t s)
    (stays-extra a tests.0 t s e)
stays-extra NoAction h t s e = e
stays-extra ParseError h t s e = record { modes = e.modes }
stays-extra EnableFosterParenting h t s e = record { modes = e.modes }
stays-extra a h t s e = no h

-- text of tables is kept

foster-part : (x : Open) → is_in set.FosterTarget x ≡ true → is_foster (part_of x) ≡ true
unfolding names_of mathml_names_of svg_names_of
foster-part x h = by (part_of x) refl where
  by : (p : Part) → part_of x ≡ p → is_foster p ≡ true
  by TablePart e = refl
  by Section e = refl
  by RowPart e = refl
  by Root e = absurd (true≢false (sym h ∙ part-apart x Root set.FosterTarget refl refl e))
  by HeadPart e = absurd (true≢false (sym h ∙ part-apart x HeadPart set.FosterTarget refl refl e))
  by BodyPart e = absurd (true≢false (sym h ∙ part-apart x BodyPart set.FosterTarget refl refl e))
  by Frames e = absurd (true≢false (sym h ∙ part-apart x Frames set.FosterTarget refl refl e))
  by Contents e = absurd (true≢false (sym h ∙ part-apart x Contents set.FosterTarget refl refl e))
  by Cell e = absurd (true≢false (sym h ∙ part-apart x Cell set.FosterTarget refl refl e))
  by CaptionPart e = absurd (true≢false (sym h ∙ part-apart x CaptionPart set.FosterTarget refl refl e))
  by Columns e = absurd (true≢false (sym h ∙ part-apart x Columns set.FosterTarget refl refl e))
  by Loose e = absurd (true≢false (sym h ∙ parts-out set.FosterTarget refl x e))
  by Nothing e = absurd (true≢false (sym (ap is_nothing e) ∙ some-part x))

over-table : (c : Condition) → is_over_table c ≡ true → (t : Token) (s : State) → holds c t s ≡ true → is_foster (top s.open_elems) ≡ true
over-table (CurrentIs set.FosterTarget) h t s o = by s.open_elems o where
  by : (xs : List Open) → current_is (is_in set.FosterTarget) xs ≡ true → is_foster (top xs) ≡ true
  by [] o = no o
  by (x ∷ xs) o = foster-part x o
over-table c h t s o = no h

kept-nested : (a : Action) (to : InsertionMode) → is_keep a ≡ true → is_table_text to ≡ true
    → (t : Token) (s : State) → is_foster (top s.open_elems) ≡ true → is_table_mode s.mode ≡ true → IsNested s
    → IsNested (set_mode to (act a t s))
unfolding set_mode save_mode
kept-nested SaveMode mode.InTableText k l t s foster table n =
    record {
      fits = both _ _ foster (both _ _ table (table-direct s.mode table n.fits));
      count = n.count;
      framed = n.framed;
      form = n.form;
    } where
      table-direct : (m : InsertionMode) → is_table_mode m ≡ true → fits_parts (ground_of s.context_elem)
          (context_is set.Template s.context_elem) m s.orig_mode s.open_elems ≡ true
          → fits_nested (ground_of s.context_elem) (context_is set.Template s.context_elem) m s.open_elems ≡ true
      table-direct mode.InTable h f = f
      table-direct mode.InTableBody h f = f
      table-direct mode.InRow h f = f
      table-direct m h f = no h
kept-nested SaveMode to k l t s foster table n = no l
kept-nested a to k l t s foster table n = no k

-- a frameset takes the place of the body

html-root-part : (x : Open) → is_in set.Html x ≡ true → part_of x ≡ Root
unfolding names_of mathml_names_of svg_names_of
html-root-part x e = set-part set.Html Root refl x e

root-template : (x : Open) → is_in set.Html x ≡ true → is_in set.Template x ≡ false
unfolding names_of mathml_names_of svg_names_of
root-template x e = in-apart set.Html set.Template refl x e

-- nothing is below the root
alone : (g : Ground) (x : Open) (xs : List Open) → is_in set.Html x ≡ true → may_stand g Root (top xs) ≡ true → open_templates (x ∷ xs) ≡ 0
alone g x [] h m = rw (root-template x h) refl
alone g x (y ∷ ys) h m = absurd (true≢false (sym (only-nothing g (part_of y) m) ∙ some-part y))

over-some : (g : Ground) (x : Open) (xs : List Open) → is_in set.Html x ≡ false → may_stand g (part_of x)
    (top xs) ≡ true → is_nonempty xs ≡ true
over-some g x [] h m = absurd (true≢false (not-nothing g (part_of x) Nothing (sym (root-html x) ∙ h) m))
over-some g x (y ∷ ys) h m = refl

html-left : (g : Ground) (xs : List Open) → nested g xs ≡ true → is_nonempty xs ≡ true
    → (top (left_from (is_in set.Html) xs) ≡ Root)
    × ((nested g (left_from (is_in set.Html) xs) ≡ true) × (open_templates (left_from (is_in set.Html) xs) ≡ 0))
html-left g [] n s = no s
html-left g (x ∷ xs) n s = by (is_in set.Html x) refl (and_parts (may_stand g (part_of x) (top xs)) _ n).0
    (html-left g xs (and_parts (may_stand g (part_of x) (top xs)) _ n).1) where
      by : (b : Bool) → is_in set.Html x ≡ b → may_stand g (part_of x) (top xs) ≡ true
          → (is_nonempty xs ≡ true → (top (left_from (is_in set.Html) xs) ≡ Root)
          × ((nested g (left_from (is_in set.Html) xs) ≡ true) × (open_templates (left_from (is_in set.Html) xs) ≡ 0)))
          → (top (choose b (λ _. x ∷ xs) (λ _. left_from (is_in set.Html) xs)) ≡ Root)
          × ((nested g (choose b (λ _. x ∷ xs) (λ _. left_from (is_in set.Html) xs)) ≡ true)
          × (open_templates (choose b (λ _. x ∷ xs) (λ _. left_from (is_in set.Html) xs)) ≡ 0))
      by true e m rest = (html-root-part x e, (n, alone g x xs e (rw (html-root-part x e) at m)))
      by false e m rest = rest (over-some g x xs e m)

-- a body is open in documents alone

AreBare : List Open → Type 0
AreBare [] = Unit {0}
AreBare (x ∷ xs) = (is_in set.Body x ≡ false) × AreBare xs

body-part : (x : Open) → is_in set.Body x ≡ true → part_of x ≡ BodyPart
unfolding names_of mathml_names_of svg_names_of
body-part x e = set-part set.Body BodyPart refl x e

body-stands : (g : Ground) (q : Part) → is_document g ≡ false → may_stand g BodyPart q ≡ false
body-stands g Root d = d
body-stands g q d = refl

no-body : (g : Ground) (xs : List Open) → is_document g ≡ false → nested g xs ≡ true → AreBare xs
unfolding AreBare
no-body g [] d n = tt
no-body g (x ∷ xs) d n = let tests = and_parts (may_stand g (part_of x) (top xs)) _ n in
    (by (is_in set.Body x) refl tests.0, no-body g xs d tests.1) where
      by : (b : Bool) → is_in set.Body x ≡ b → may_stand g (part_of x) (top xs) ≡ true → is_in set.Body x ≡ false
      by true e m = absurd (true≢false (sym (rw (body-part x e) at m) ∙ body-stands g (top xs) d))
      by false e m = e

bare-append : (xs ys : List Open) → AreBare xs → AreBare ys → AreBare (xs ++ ys)
unfolding AreBare
bare-append [] ys h k = k
bare-append (x ∷ xs) ys h k = (h.0, bare-append xs ys h.1 k)

bare-reverse : (xs : List Open) → AreBare xs → AreBare (reverse xs)
unfolding AreBare
bare-reverse [] h = tt
bare-reverse (x ∷ xs) h = subst AreBare (sym (reverse_onto xs x [])) (bare-append (reverse xs) (x ∷ []) (bare-reverse xs h.1) (h.0, tt))

bare-none : (xs : List Open) → AreBare xs → is_some (if_body (second_of xs)) ≡ false
unfolding AreBare
bare-none [] h = refl
bare-none (x ∷ []) h = refl
bare-none (x ∷ y ∷ ys) h = rw h.1.0 refl

body-document : (g : Ground) (xs : List Open) → nested g xs ≡ true → is_some (body_elem xs) ≡ true → is_document g ≡ true
body-document g xs n s = by (is_document g) refl where
  by : (b : Bool) → is_document g ≡ b → is_document g ≡ true
  by true d = d
  by false d = absurd (true≢false (sym s ∙ bare-none (reverse xs) (bare-reverse xs (no-body g xs d n))))

pub document-frames : (g : Ground) → is_document g ≡ true → may_stand g Frames Root ≡ true
document-frames Document d = refl
document-frames InFrames d = no d
document-frames Flow d = no d

abbrev framed_action : Action
framed_action = Then ParseError (Then RemoveBody InsertElement)

pub frames-part : (name : List ℕ) → is_among name (names_of set.Frameset) ≡ true → (n : ℕ) (rules : Rules)
    → part_of (record { number = n; namespace = Html; name = name; rules = rules }) ≡ Frames
unfolding names_of mathml_names_of svg_names_of
frames-part name h n rules = set-part set.Frameset Frames refl (record { number = n; namespace = Html; name = name; rules = rules }) h

pub frames-template : (name : List ℕ) → is_among name (names_of set.Frameset) ≡ true → (n : ℕ) (rules : Rules) → is_in set.Template
    (record { number = n; namespace = Html; name = name; rules = rules }) ≡ false
unfolding names_of mathml_names_of svg_names_of
frames-template name h n rules = in-apart set.Frameset set.Template refl (record { number = n; namespace = Html; name = name; rules = rules }) h

frames-tame : tame_in (Starts (codes "frameset" ∷ [])) framed_action ≡ true
unfolding names_of
frames-tame = refl

frames-of : (tag : Tag) → is_start_tag tag.kind ≡ true → is_among tag.name (names_of set.Frameset) ≡ true
    → is_of (Starts (codes "frameset" ∷ [])) (TagToken tag) ≡ true
unfolding names_of
frames-of tag s h = both _ _ s h

removed-same : (o : Option ℕ) (s : State) → (remove_if o s).open_elems ≡ s.open_elems
removed-same None s = refl
removed-same (Some n) s = refl

removed-opts : (o : Option ℕ) (s : State) → (remove_if o s).opts ≡ s.opts
removed-opts None s = refl
removed-opts (Some n) s = refl

framed-elements : (tag : Tag) (s : State) → (n : ℕ)
    × ((act framed_action (TagToken tag) s).open_elems ≡ record { number = n; namespace = Html; name = tag.name; rules = s.opts.rules } ∷
    left_from (is_in set.Html) s.open_elems)
unfolding parse_error remove_body pop_until_current insert_element
framed-elements tag s = (
  node_count (remove_if (body_elem s.open_elems) (parse_error s)).forest,
  ap (λ xs. record {
    number = node_count (remove_if (body_elem s.open_elems) (parse_error s)).forest;
    namespace = Html;
    name = tag.name;
    rules = (remove_if (body_elem s.open_elems) (parse_error s)).opts.rules;
  } ∷ left_from (is_in set.Html) xs) (removed-same (body_elem s.open_elems) (parse_error s))
      ∙ ap (λ (opts : Options). record {
        number = node_count (remove_if (body_elem s.open_elems) (parse_error s)).forest;
        namespace = Html;
        name = tag.name;
        rules = opts.rules;
      } ∷ left_from (is_in set.Html) s.open_elems) (removed-opts (body_elem s.open_elems) (parse_error s)),
)

framed-framed : (tag : Tag) (s : State) → IsFramed s (act framed_action (TagToken tag) s)
unfolding remove_body
framed-framed tag s =
    framed.after s (parse_error s) _ (framed.framed_kept.errs s)
    (framed.after (parse_error s) _ _
    (framed.after (parse_error s) (remove_if (body_elem (parse_error s).open_elems) (parse_error s)) _
    (framed.framed_kept.removes (body_elem (parse_error s).open_elems) (parse_error s))
    ((pop_until_current-keeps framed.framed_kept) (is_in set.Html) _)) ((insert-keeps framed.framed_kept) tag _))

frameset-nested : (tag : Tag) (s : State) → is_start_tag tag.kind ≡ true
    → is_among tag.name (names_of set.Frameset) ≡ true → Poised s → Ready s → is_nonempty s.open_elems ≡ true
    → s.frameset_ok ≡ true → is_some (body_elem s.open_elems) ≡ true
    → IsNested (set_mode mode.InFrameset (act framed_action (TagToken tag) s))
unfolding set_mode
frameset-nested tag s start name poised h some ok body =
    let kind : Kind = Starts (codes "frameset" ∷ []) in
    let t : Token = TagToken tag in
    let r : State = act framed_action t s in
    let of = frames-of tag start name in
    let aside = act-aside kind framed_action frames-tame t s in
    let eased = act-eased kind framed_action frames-tame refl t of s poised.listed poised.upright.standing in
    let elements = framed-elements tag s in
    let left = html-left (ground_of s.context_elem) s.open_elems h.nested some in
    let part = frames-part tag.name name elements.0 s.opts.rules in
    let stands = document-frames (ground_of s.context_elem) (body-document (ground_of s.context_elem) s.open_elems h.nested body) in
    let none : open_templates r.open_elems ≡ 0 = ap open_templates elements.1 ∙ rw (frames-template tag.name name elements.0 s.opts.rules) left.1.1 in
    let kept = framed-framed tag s in
    record {
      fits = rw (aside.context, elements.1) (rw (part, left.0, stands, left.1.0) refl);
      count = ap (λ n. n + one_if (context_is set.Template r.context_elem)) (none ∙ sym (h.framed ok))
          ∙ ap (λ c. open_templates s.open_elems + one_if (context_is set.Template c)) aside.context ∙ h.count
          ∙ ap length (sym aside.modes);
      framed = λ e. none;
      form = rw kept.form (form-kept s.form_elem s.forest r.forest eased.names h.form);
    }

frames-nested : (kind : Kind) (c : Condition) (a : Action) → frames kind c a ≡ true → (t : Token)
    → is_of kind t ≡ true → (s : State) → holds c t s ≡ true → Poised s → Ready s → is_nonempty s.open_elems ≡ true → IsNested (act a t s)
frames-nested (Starts names) (Both FramesetOk SecondIsBody)
    (Then ParseError (Then RemoveBody (Then InsertElement (SwitchTo mode.InFrameset)))) h (TagToken tag) k s o poised ready some =
    let tests = and_parts s.frameset_ok (is_some (body_elem s.open_elems)) o in
    let own = and_parts (is_start_tag tag.kind) _ k in
    frameset-nested tag s own.0 (among-all tag.name names (names_of set.Frameset) h own.1) poised ready some tests.0 tests.1
frames-nested (Starts names) (Both FramesetOk SecondIsBody)
    (Then ParseError (Then RemoveBody (Then InsertElement (SwitchTo mode.InFrameset)))) h t k s o poised ready some = no k
frames-nested kind (Both FramesetOk SecondIsBody)
    (Then ParseError (Then RemoveBody (Then InsertElement (SwitchTo mode.InFrameset)))) h t k s o poised ready some = no h
frames-nested kind c a h t k s o poised ready some = no h

-- what a row leaves

module _ (g : Ground) (template : Bool) (t : Token) (m : InsertionMode) (b : Part) (bodily : is_bodily m ≡ true)
    (base-is : has_base m b ≡ true) where
  Nester : (Kind → InsertionMode → Bool) → (InsertionMode → Token → State → Turn) → Type 0
  Nester uses using = (kind : Kind) (to : InsertionMode) → uses kind to ≡ true → is_of kind t ≡ true → (s : State)
      → Fluid g template (loose_at m b) s → Extra s → IsNested (using to t s).state

  pub own-nested : (s : State) → Fluid g template (loose_at m b) s → IsNested s
  own-nested s fluid = fluid-nested g template (loose_at m b) s fluid bodily base-is

  pub run-nested : (kind : Kind) (gd : Guard) (a : Action) → runs kind gd a (loose_at m b) fits_at ≡ true
      → is_of kind t ≡ true → (s : State) → Holds gd t s → Fluid g template (loose_at m b) s → IsNested (act a t s)
  run-nested kind gd a h k s known fluid =
      let one = runs-sound g template t kind gd a (loose_at m b) fits_at h k s known fluid in
      let tests = and_parts (is_bodily one.0.mode) _ one.1.0 in
      fluid-nested g template one.0 (act a t s) one.1.1 tests.0 tests.1

  table-mode : (s : State) → Fluid g template (loose_at m b) s → is_table_mode m ≡ true → is_table_mode s.mode ≡ true
  table-mode s fluid h = ap is_table_mode fluid.at_mode ∙ h

  nonempty : (s : State) → Fluid g template (loose_at m b) s → is_nonempty s.open_elems ≡ true
  nonempty s fluid = base-nonempty s.open_elems (ap is_nothing fluid.base ∙ based-some m b base-is)

  stands : (s : State) → Fluid g template (loose_at m b) s → may_stand (ground_of s.context_elem) Contents (top s.open_elems) ≡ true
  stands s fluid = rw fluid.ground (contents-stands g (top s.open_elems) (takes-top g s.open_elems (rw fluid.base fluid.takes)))

  ends-sound : (uses : Kind → InsertionMode → Bool) (using : InsertionMode → Token → State → Turn)
      → Nester uses using → (kind : Kind) (c : Condition) (a : Action) (e : Conclusion)
      → ends_nested uses kind m b c a e ≡ true → is_of kind t ≡ true → (s : State) → holds c t s ≡ true
      → Fluid g template (loose_at m b) s → Extra s → (script : ℕ)
      → IsNested (concluded using e t script (act a t s)).state
  unfolding Nester
  ends-sound uses using go kind c a Done h k s o fluid extra script =
      or_by (runs kind (guard_of kind b c) a (loose_at m b) fits_at) _ h
      (λ h. run-nested kind (guard_of kind b c) a h k s (guard-holds g kind b c t s fluid.nested fluid.base k o) fluid)
      (λ h. or_by (closes c a) _ h (λ h. closes-nested c a h t s o (ready-of g template (loose_at m b) s fluid extra))
      (λ h. or_by (opens a && starts_template kind) _ h
      (λ h. let tests = and_parts (opens a) (starts_template kind) h in opens-nested kind a tests.0 tests.1 t
      k s (ready-of g template (loose_at m b) s fluid extra) (stands s fluid))
      (λ h. or_by (resets_table c a) _ h (λ h. table-nested c a h t s o (ready-of g template (loose_at m b) s fluid extra))
      (λ h. frames-nested kind c a h t k s o fluid.poised (ready-of g template (loose_at m b) s fluid extra) (nonempty s fluid)))))
  ends-sound uses using go kind c a (Reprocess to) h k s o fluid extra script =
      or_by ((is_bodily to && (not (is_in_template to) && not (is_first to))) && runs kind (guard_of kind b c) a
      (loose_at m b) (fits_to to)) _ h
      (λ h. let one = and_parts (is_bodily to && (not (is_in_template to) && not (is_first to))) _ h in let two =
      and_parts (is_bodily to) _ one.0 in let three = and_parts (not (is_in_template to)) _ two.1 in
      let made = runs-sound g template t kind (guard_of kind b c) a (loose_at m b) (fits_to to) one.1 k s
      (guard-holds g kind b c t s fluid.nested fluid.base k o) fluid in
      moved-nested g template made.0 to (act a t s) made.1.1 two.0 (not_true _ three.0) (not_true _ three.1) made.1.0)
      (λ h. let one = and_parts (is_keep a) _ h in let two = and_parts (is_over_table c) _ one.1 in let three =
      and_parts (is_table_mode m) (is_table_text to) two.1 in kept-nested a to one.0 three.1 t s
      (over-table c two.0 t s o) (table-mode s fluid three.0) (own-nested s fluid))
  ends-sound uses using go kind c a ReprocessInOriginal h k s o fluid extra script = no h
  ends-sound uses using go kind c a ReprocessInMode h k s o fluid extra script =
      or_by (closes c a) _ h (λ h. closes-nested c a h t s o (ready-of g template (loose_at m b) s fluid extra))
      (λ h. table-nested c a h t s o (ready-of g template (loose_at m b) s fluid extra))
  ends-sound uses using go kind c a (Using to) h k s o fluid extra script =
      let tests = and_parts (stays a) _ h in
      go kind to tests.1 k (act a t s) (stays-fluid g template b m kind a tests.0 t k s fluid) (stays-extra a tests.0 t s extra)
  ends-sound uses using go kind c a (UsingThen to after) h k s o fluid extra script =
      let tests = and_parts (stays a) _ h in
      let more = and_parts (unfosters after) _ tests.1 in
      unfostered-nested after more.0 t _
      (go kind to more.1 k (act a t s) (stays-fluid g template b m kind a tests.0 t k s fluid) (stays-extra a tests.0 t s extra))
  ends-sound uses using go kind c a UsingCurrentMode h k s o fluid extra script = no h
  ends-sound uses using go kind c a (RawText kind') h k s o fluid extra script = raw-nested g template t kind
      (guard_of kind b c) a (loose_at m b) h k s (guard-holds g kind b c t s fluid.nested fluid.base k o) fluid
  ends-sound uses using go kind c a Acknowledged h k s o fluid extra script = run-nested kind (guard_of kind b c) a
      h k s (guard-holds g kind b c t s fluid.nested fluid.base k o) fluid
  ends-sound uses using go kind c a PlainText h k s o fluid extra script = run-nested kind (guard_of kind b c) a h k
      s (guard-holds g kind b c t s fluid.nested fluid.base k o) fluid
  ends-sound uses using go kind c a RunScript h k s o fluid extra script = run-nested kind (guard_of kind b c) a h k
      s (guard-holds g kind b c t s fluid.nested fluid.base k o) fluid
  ends-sound uses using go kind c a ReportEncoding h k s o fluid extra script = run-nested kind (guard_of kind b c)
      a h k s (guard-holds g kind b c t s fluid.nested fluid.base k o) fluid

  row-sound : (uses : Kind → InsertionMode → Bool) (using : InsertionMode → Token → State → Turn)
      → Nester uses using → (kind : Kind) (r : Row) → row_nested uses m b kind r ≡ true → is_of kind t ≡ true
      → (s : State) → holds r.when t s ≡ true → Fluid g template (loose_at m b) s → Extra s → IsNested (turn_by_row using r t s).state
  row-sound uses using go kind r h k s o fluid extra =
      or_by (vacuous kind b r.when) _ h (λ h. absurd (vacuous-none kind b r.when h t k s fluid.base o))
      (λ h. ends-sound uses using go kind r.when r.does r.ends h k s o fluid extra (current_number s.open_elems))

  pub uses-sound : (n : ℕ) (kind : Kind) (to : InsertionMode) → uses_nested n m b kind to ≡ true
      → is_of kind t ≡ true → (s : State) → Fluid g template (loose_at m b) s → Extra s → IsNested (using_rules_for n to t s).state
  unfolding uses_nested using_rules_for Nester
  uses-sound zero kind to h k s fluid extra = own-nested s fluid
  uses-sound (suc n) kind to h k s fluid extra =
      scan-holds (row_nested (uses_nested n m b) m b) (λ r. IsNested (turn_by_row (using_rules_for n) r t s).state) t s
      (λ inner r j of fits o. row-sound (uses_nested n m b) (using_rules_for n) (uses-sound n) inner r j of s o fluid extra)
      (own-nested s fluid) (rows to) kind h k

-- a turn

abbrev is_no_base : Part → Bool
is_no_base HeadPart = true
is_no_base Frames = true
is_no_base Loose = true
is_no_base Nothing = true
is_no_base p = false

others : (m : InsertionMode) (p : Part) → is_no_base p ≡ true → has_base m p ≡ true → ⊥
others mode.Initial HeadPart i h = no h
others mode.Initial Frames i h = no h
others mode.Initial Loose i h = no h
others mode.Initial Nothing i h = no h
others mode.BeforeHtml HeadPart i h = no h
others mode.BeforeHtml Frames i h = no h
others mode.BeforeHtml Loose i h = no h
others mode.BeforeHtml Nothing i h = no h
others mode.BeforeHead HeadPart i h = no h
others mode.BeforeHead Frames i h = no h
others mode.BeforeHead Loose i h = no h
others mode.BeforeHead Nothing i h = no h
others mode.InHead HeadPart i h = no h
others mode.InHead Frames i h = no h
others mode.InHead Loose i h = no h
others mode.InHead Nothing i h = no h
others mode.InHeadNoscript HeadPart i h = no h
others mode.InHeadNoscript Frames i h = no h
others mode.InHeadNoscript Loose i h = no h
others mode.InHeadNoscript Nothing i h = no h
others mode.AfterHead HeadPart i h = no h
others mode.AfterHead Frames i h = no h
others mode.AfterHead Loose i h = no h
others mode.AfterHead Nothing i h = no h
others mode.InBody HeadPart i h = no h
others mode.InBody Frames i h = no h
others mode.InBody Loose i h = no h
others mode.InBody Nothing i h = no h
others mode.Text HeadPart i h = no h
others mode.Text Frames i h = no h
others mode.Text Loose i h = no h
others mode.Text Nothing i h = no h
others mode.InTable HeadPart i h = no h
others mode.InTable Frames i h = no h
others mode.InTable Loose i h = no h
others mode.InTable Nothing i h = no h
others mode.InTableText HeadPart i h = no h
others mode.InTableText Frames i h = no h
others mode.InTableText Loose i h = no h
others mode.InTableText Nothing i h = no h
others mode.InCaption HeadPart i h = no h
others mode.InCaption Frames i h = no h
others mode.InCaption Loose i h = no h
others mode.InCaption Nothing i h = no h
others mode.InColumnGroup HeadPart i h = no h
others mode.InColumnGroup Frames i h = no h
others mode.InColumnGroup Loose i h = no h
others mode.InColumnGroup Nothing i h = no h
others mode.InTableBody HeadPart i h = no h
others mode.InTableBody Frames i h = no h
others mode.InTableBody Loose i h = no h
others mode.InTableBody Nothing i h = no h
others mode.InRow HeadPart i h = no h
others mode.InRow Frames i h = no h
others mode.InRow Loose i h = no h
others mode.InRow Nothing i h = no h
others mode.InCell HeadPart i h = no h
others mode.InCell Frames i h = no h
others mode.InCell Loose i h = no h
others mode.InCell Nothing i h = no h
others mode.InTemplate HeadPart i h = no h
others mode.InTemplate Frames i h = no h
others mode.InTemplate Loose i h = no h
others mode.InTemplate Nothing i h = no h
others mode.AfterBody HeadPart i h = no h
others mode.AfterBody Frames i h = no h
others mode.AfterBody Loose i h = no h
others mode.AfterBody Nothing i h = no h
others mode.InFrameset HeadPart i h = no h
others mode.InFrameset Frames i h = no h
others mode.InFrameset Loose i h = no h
others mode.InFrameset Nothing i h = no h
others mode.AfterFrameset HeadPart i h = no h
others mode.AfterFrameset Frames i h = no h
others mode.AfterFrameset Loose i h = no h
others mode.AfterFrameset Nothing i h = no h
others mode.AfterAfterBody HeadPart i h = no h
others mode.AfterAfterBody Frames i h = no h
others mode.AfterAfterBody Loose i h = no h
others mode.AfterAfterBody Nothing i h = no h
others mode.AfterAfterFrameset HeadPart i h = no h
others mode.AfterAfterFrameset Frames i h = no h
others mode.AfterAfterFrameset Loose i h = no h
others mode.AfterAfterFrameset Nothing i h = no h
others m p i h = no i

pub each-part : (m : InsertionMode) (p : Part → Bool) → each_part m p ≡ true → (b : Part) → has_base m b ≡ true → p b ≡ true
each-part m p h b base = by b base one.0 two.0 three.0 four.0 five.0 six.0 seven.0 eight.0 eight.1 where
  one : ((not (has_base m Root) || p Root) ≡ true)
      × (((not (has_base m BodyPart) || p BodyPart)
      && ((not (has_base m Contents) || p Contents)
      && ((not (has_base m TablePart) || p TablePart)
      && ((not (has_base m Section) || p Section)
      && ((not (has_base m RowPart) || p RowPart)
      && ((not (has_base m Cell) || p Cell)
      && ((not (has_base m CaptionPart) || p CaptionPart) && (not (has_base m Columns) || p Columns)))))))) ≡ true)
  one = and_parts (not (has_base m Root) || p Root) _ h

  two : ((not (has_base m BodyPart) || p BodyPart) ≡ true)
      × (((not (has_base m Contents) || p Contents)
      && ((not (has_base m TablePart) || p TablePart)
      && ((not (has_base m Section) || p Section)
      && ((not (has_base m RowPart) || p RowPart)
      && ((not (has_base m Cell) || p Cell)
      && ((not (has_base m CaptionPart) || p CaptionPart) && (not (has_base m Columns) || p Columns))))))) ≡ true)
  two = and_parts (not (has_base m BodyPart) || p BodyPart) _ one.1

  three : ((not (has_base m Contents) || p Contents) ≡ true)
      × (((not (has_base m TablePart) || p TablePart)
      && ((not (has_base m Section) || p Section)
      && ((not (has_base m RowPart) || p RowPart)
      && ((not (has_base m Cell) || p Cell)
      && ((not (has_base m CaptionPart) || p CaptionPart) && (not (has_base m Columns) || p Columns)))))) ≡ true)
  three = and_parts (not (has_base m Contents) || p Contents) _ two.1

  four : ((not (has_base m TablePart) || p TablePart) ≡ true)
      × (((not (has_base m Section) || p Section)
      && ((not (has_base m RowPart) || p RowPart)
      && ((not (has_base m Cell) || p Cell)
      && ((not (has_base m CaptionPart) || p CaptionPart) && (not (has_base m Columns) || p Columns))))) ≡ true)
  four = and_parts (not (has_base m TablePart) || p TablePart) _ three.1

  five : ((not (has_base m Section) || p Section) ≡ true)
      × (((not (has_base m RowPart) || p RowPart)
      && ((not (has_base m Cell) || p Cell)
      && ((not (has_base m CaptionPart) || p CaptionPart) && (not (has_base m Columns) || p Columns)))) ≡ true)
  five = and_parts (not (has_base m Section) || p Section) _ four.1

  six : ((not (has_base m RowPart) || p RowPart) ≡ true)
      × (((not (has_base m Cell) || p Cell)
      && ((not (has_base m CaptionPart) || p CaptionPart) && (not (has_base m Columns) || p Columns))) ≡ true)
  six = and_parts (not (has_base m RowPart) || p RowPart) _ five.1

  seven : ((not (has_base m Cell) || p Cell) ≡ true)
      × (((not (has_base m CaptionPart) || p CaptionPart) && (not (has_base m Columns) || p Columns)) ≡ true)
  seven = and_parts (not (has_base m Cell) || p Cell) _ six.1

  eight : ((not (has_base m CaptionPart) || p CaptionPart) ≡ true) × ((not (has_base m Columns) || p Columns) ≡ true)
  eight = and_parts (not (has_base m CaptionPart) || p CaptionPart) _ seven.1

  then : (a c : Bool) → (not a || c) ≡ true → a ≡ true → c ≡ true
  then true c h e = h
  then false c h e = no e

  by : (b : Part) → has_base m b ≡ true → (not (has_base m Root) || p Root) ≡ true
      → (not (has_base m BodyPart) || p BodyPart) ≡ true → (not (has_base m Contents) || p Contents) ≡ true
      → (not (has_base m TablePart) || p TablePart) ≡ true → (not (has_base m Section) || p Section) ≡ true
      → (not (has_base m RowPart) || p RowPart) ≡ true → (not (has_base m Cell) || p Cell) ≡ true
      → (not (has_base m CaptionPart) || p CaptionPart) ≡ true → (not (has_base m Columns) || p Columns) ≡ true → p b ≡ true
  by Root e a b c d f g h i j = then _ _ a e
  by BodyPart e a b c d f g h i j = then _ _ b e
  by Contents e a b c d f g h i j = then _ _ c e
  by TablePart e a b c d f g h i j = then _ _ d e
  by Section e a b c d f g h i j = then _ _ f e
  by RowPart e a b c d f g h i j = then _ _ g e
  by Cell e a b c d f g h i j = then _ _ h e
  by CaptionPart e a b c d f g h i j = then _ _ i e
  by Columns e a b c d f g h i j = then _ _ j e
  by HeadPart e a b c d f g h i j = absurd (others m HeadPart refl e)
  by Frames e a b c d f g h i j = absurd (others m Frames refl e)
  by Loose e a b c d f g h i j = absurd (others m Loose refl e)
  by Nothing e a b c d f g h i j = absurd (others m Nothing refl e)

pub base-takes : (g : Ground) (template : Bool) (m : InsertionMode) (b : Part) → has_base m b ≡ true
    → fits_root g template m b ≡ true → takes g b ≡ true
base-takes g template m Root h r = (and_parts (is_flow g) _ r).0
base-takes g template m HeadPart h r = absurd (others m HeadPart refl h)
base-takes g template m Frames h r = absurd (others m Frames refl h)
base-takes g template m Nothing h r = absurd (others m Nothing refl h)
base-takes g template m b h r = refl

bodily-first : (m : InsertionMode) → is_bodily m ≡ true → is_first m ≡ false
bodily-first mode.Initial h = no h
bodily-first mode.BeforeHtml h = no h
bodily-first m h = refl

in-template : (g : Ground) (template : Bool) (m : InsertionMode) (b : Part) → fits_root g template m b ≡ true
    → m ≡ mode.InTemplate → b ≡ Root → template ≡ true
in-template g template m b r e root = or_false template (and_parts (is_flow g) _ (rw (e, root) at r)).1 where
  or_false : (a : Bool) → (a || false) ≡ true → a ≡ true
  or_false true h = refl
  or_false false h = h

module _ (p : Kind → Bool) (all : each_kind p ≡ true) where
  starts : (p (Starts part_names) ≡ true)
      × ((p (StartsBut part_names) ≡ true)
      × ((p (Ends part_names) ≡ true) × ((p (EndsBut part_names) ≡ true) × ((p Texts && (p Nulls && (p TheEnd && p Others))) ≡ true))))
  starts =
      let one = and_parts (p (Starts part_names)) _ all in
      let two = and_parts (p (StartsBut part_names)) _ one.1 in
      let three = and_parts (p (Ends part_names)) _ two.1 in
      let four = and_parts (p (EndsBut part_names)) _ three.1 in
      (one.0, (two.0, (three.0, (four.0, four.1))))

  rest : (p Texts ≡ true) × ((p Nulls ≡ true) × ((p TheEnd ≡ true) × (p Others ≡ true)))
  rest =
      let one = and_parts (p Texts) _ starts.1.1.1.1 in
      let two = and_parts (p Nulls) _ one.1 in
      let three = and_parts (p TheEnd) _ two.1 in
      (one.0, (two.0, (three.0, three.1)))

  tag-kind : (tag : Tag) (kind : TagKind) → tag.kind ≡ kind → (kind : Kind) × ((p kind ≡ true) × (is_of kind (TagToken tag) ≡ true))
  tag-kind tag StartTag e = by (is_among tag.name part_names) refl where
    by : (b : Bool) → is_among tag.name part_names ≡ b → (kind : Kind) × ((p kind ≡ true) × (is_of kind (TagToken tag) ≡ true))
    by true k = (Starts part_names, (starts.0, both _ _ (ap is_start_tag e) k))
    by false k = (StartsBut part_names, (starts.1.0, both _ _ (ap is_start_tag e) (ap not k)))
  tag-kind tag EndTag e = by (is_among tag.name part_names) refl where
    by : (b : Bool) → is_among tag.name part_names ≡ b → (kind : Kind) × ((p kind ≡ true) × (is_of kind (TagToken tag) ≡ true))
    by true k = (Ends part_names, (starts.1.1.0, both _ _ (ap is_end_tag e) k))
    by false k = (EndsBut part_names, (starts.1.1.1.0, both _ _ (ap is_end_tag e) (ap not k)))

  pub kind-of : (t : Token) → (kind : Kind) × ((p kind ≡ true) × (is_of kind t ≡ true))
  kind-of (TagToken tag) = tag-kind tag tag.kind refl
  kind-of (CharacterTokens text) = (Texts, (rest.0, refl))
  kind-of NullCharacterToken = (Nulls, (rest.1.0, refl))
  kind-of EOFToken = (TheEnd, (rest.1.1.0, refl))
  kind-of (CommentToken text) = (Others, (rest.1.1.1, refl))
  kind-of (DoctypeToken d) = (Others, (rest.1.1.1, refl))
  kind-of (ErrorToken message) = (Others, (rest.1.1.1, refl))

pub bodily-fluid : (t : Token) (s : State) → MayCome t s → IsNested s → is_bodily s.mode ≡ true
    → (has_base s.mode (base s.open_elems) ≡ true) × Fluid (ground_of s.context_elem)
    (context_is set.Template s.context_elem) (loose_at s.mode (base s.open_elems)) s
bodily-fluid t s may h bodily =
    let g : Ground = ground_of s.context_elem in
    let template : Bool = context_is set.Template s.context_elem in
    let b : Part = base s.open_elems in
    let direct = flow-direct g template s.mode s.orig_mode s.open_elems bodily h.fits in (
      direct.1.0,
      record {
        poised = poised-of s may.held may.upright (bodily-first s.mode bodily);
        nested = direct.0;
        base = refl;
        exact = λ e. no e;
        takes = base-takes g template s.mode b direct.1.0 direct.1.1;
        at_mode = refl;
        in_template = λ e root. in-template g template s.mode b direct.1.1 e root;
        ground = refl;
        of_template = refl;
        count = h.count;
        framed = h.framed;
        form = h.form;
      },
    )

pub bodily-turn : (t : Token) (s : State) → MayCome t s → IsNested s → is_bodily s.mode ≡ true
    → IsNested (using_rules_for 4 s.mode t s).state
unfolding mode_nested
bodily-turn t s may h bodily =
    let b : Part = base s.open_elems in
    let fluid = bodily-fluid t s may h bodily in
    let tests = each-part s.mode (λ b. each_kind (mode_nested s.mode b)) (modes_nested s.mode bodily) b fluid.0 in
    let kind = kind-of (mode_nested s.mode b) tests t in
    uses-sound (ground_of s.context_elem) (context_is set.Template s.context_elem) t s.mode b bodily fluid.0 4
    kind.0 s.mode kind.1.0 kind.1.1 s fluid.1 (record { modes = may.held.modes })
