-- Every turn leaves the parts nested.
use Rattle.std.proofs.Common.{◌≡◌, ◌∙◌, ℕ, zero, suc, Bool, true, false, List, [], ◌∷◌, Option, Some, None, refl, sym, ap, true≢false}
use Rattle.std.specs.Prelude.{◌||◌, ◌&&◌, not, IfSome, is_some}
use Rattle.std.proofs.lemmas.Bool.{and_parts}
use Rattle.html_tokens.specs.declared.token.Token.{Token}
use Rattle.html_rules.specs.Actions.{act}
use Rattle.html_rules.specs.Choice.{choose}
use Rattle.html_rules.specs.Conditions.{context_is, holds, is_nonempty}
use Rattle.html_rules.specs.ForeignContent.{is_foreign}
use Rattle.html_rules.specs.Modes.Foreign.{in_foreign_content}
use Rattle.html_rules.specs.Names.{is_html}
use Rattle.html_rules.specs.Rules.{Turn, concluded, first_fit, most_modes, rows, turn, turn_by_row, using_rules_for}
use Rattle.html_rules.specs.Sets.{mathml_names_of, names_of, svg_names_of}
use Rattle.html_rules.specs.Shape.{has_root}
use Rattle.html_rules.specs.Stack.{has_open, parse_error}
use Rattle.html_rules.specs.State.{Open, State, adjusted_by, adjusted_current_node, current_number, is_in}
use Rattle.html_rules.specs.Table.{Row, Condition, Action, Nothing as NoAction, Then, ParseError, Pop, RestoreMode}
use Rattle.html_rules.specs.Table.{PushHeadElem, RemoveHeadElem, Conclusion, Done, Acknowledged, ReprocessInOriginal, Using}
use Rattle.html_rules.specs.Table.{UsingThen, RawText, RunScript, ReportEncoding}
use Rattle.html_rules.specs.declared.insertion_mode.InsertionMode.{InsertionMode}
use Rattle.html_rules.specs.declared.insertion_mode.InsertionMode.TheVariants as mode
use Rattle.html_rules.specs.declared.tag_set.TagSet.TheVariants as set
use Rattle.html_rules_laws.specs.Held.{HasRoot}
use Rattle.html_rules_laws.specs.Nesting.{Part, Root, HeadPart, Frames, Contents, TablePart, Section, RowPart, Nothing, Ground}
use Rattle.html_rules_laws.specs.Nesting.{Document, InFrames, Flow, IsNested, are_html, fits_nested, fits_table, fits_under}
use Rattle.html_rules_laws.specs.Nesting.{ground_of, is_document, is_flow, is_foster, is_frames, is_head, is_loose, is_root}
use Rattle.html_rules_laws.specs.Nesting.{may_stand, nested, part_of, top}
use Rattle.html_rules_laws.specs.Ready.{are_formatting}
use Rattle.html_rules_laws.specs.Settled.{are_template_modes}
use Rattle.html_rules_laws.specs.Sound.{asks_root, has_its_head, is_later, is_table_mode}
use Rattle.html_rules_laws.specs.Soundness.{Standing}
use Rattle.html_rules_laws.specs.Upright.{MayCome, is_first}
use Rattle.html_rules_laws.proofs.Termination.Kinds.{Kind, is_of}
use Rattle.html_rules_laws.proofs.Soundness.Moves.{is_text_mode}
use Rattle.html_rules_laws.proofs.Soundness.Rows.{closes, opens, starts_template}
use Rattle.html_rules_laws.proofs.Soundness.Scan.{scan, scan-holds}
use Rattle.html_rules_laws.proofs.Soundness.Specials.{before_html_ok, noscript_ok, table_text_ok, text_ok}
use Rattle.html_rules_laws.proofs.Soundness.Steps.{both-ways, foreign-there, foreign-some, html-root, not-foreign}
use Rattle.html_rules_laws.proofs.TreePreserved.Poised.{Poised}
use Rattle.html_rules_laws.proofs.TreePreserved.Turns.{poised-of}
use Rattle.html_rules_laws.proofs.ModesPreserved.Bodies.{flow-direct, flow-parts, is_bodily}
use Rattle.html_rules_laws.proofs.ModesPreserved.Fits.{direct-root, document-asks, or_some}
use Rattle.html_rules_laws.proofs.ModesPreserved.ForeignRows.{body-turn}
use Rattle.html_rules_laws.proofs.ModesPreserved.Framesets.{IsInFrames, after_after-nested, after_frameset-nested, ends_frames}
use Rattle.html_rules_laws.proofs.ModesPreserved.Framesets.{in-frames, in_frameset-nested, is_white_text, moves_frames}
use Rattle.html_rules_laws.proofs.ModesPreserved.Framesets.{table-bodily, table_text-nested}
use Rattle.html_rules_laws.proofs.ModesPreserved.HeadAgain.{again-nested, again_row}
use Rattle.html_rules_laws.proofs.ModesPreserved.Heads.{after_head-nested, before_head-nested, before_html-nested, bodies}
use Rattle.html_rules_laws.proofs.ModesPreserved.Heads.{erred-nested, error-mode, heads, in_head-nested, initial-nested}
use Rattle.html_rules_laws.proofs.ModesPreserved.Heads.{is_begun, leaves_head, noscript-ends, over-root}
use Rattle.html_rules_laws.proofs.ModesPreserved.Likes.{calm, calm-mode, calm-nested, over-nested, direct-nonempty, raw-nested, raw_row}
use Rattle.html_rules_laws.proofs.ModesPreserved.Openings.{Ready, closes-nested, opens-nested}
use Rattle.html_rules_laws.proofs.ModesPreserved.Parts.{set-part, solid-html}
use Rattle.html_rules_laws.proofs.ModesPreserved.Rows.{each_kind, kind-of}
use Rattle.html_rules_laws.proofs.Bools.{no, not_true, or_by, or_true}

-- what is tested of rows

abbrev calm_ends : Conclusion → Bool
calm_ends Done = true
calm_ends Acknowledged = true
calm_ends ReportEncoding = true
calm_ends e = false

abbrev uses_next : (Kind → InsertionMode → Bool) → Kind → Action → Conclusion → Bool
uses_next uses kind NoAction (Using to) = uses kind to
uses_next uses kind a e = false

abbrev keeps_text : InsertionMode → Bool
keeps_text m = not (is_first m) && not (is_text_mode m)

abbrev is_raw : Conclusion → Bool
is_raw (RawText raw) = true
is_raw e = false

abbrev is_done : Conclusion → Bool
is_done Done = true
is_done e = false

abbrev pub opens_head : Action → Conclusion → Bool
opens_head (Then ParseError PushHeadElem) (UsingThen mode.InHead RemoveHeadElem) = true
opens_head a e = false

abbrev again_rows : Kind → Row → Bool
again_rows kind r = again_row kind r.does r.ends

abbrev own_row : InsertionMode → Kind → Condition → Action → Conclusion → Bool
own_row mode.Initial kind c a e = calm a && is_begun e
own_row mode.BeforeHtml kind c a e = before_html_ok a e
own_row mode.BeforeHead kind c a e = heads kind a e
own_row mode.InHead kind c a e = leaves_head kind a e || (is_done e && (closes c a || (opens a && starts_template kind)))
own_row mode.InHeadNoscript kind c a e = noscript_ok a e
own_row mode.AfterHead kind c a e = bodies kind a e
    || ((is_done e && closes c a) || (opens_head a e && scan again_rows kind (rows mode.InHead)))
own_row mode.Text kind c a e = text_ok a e
own_row mode.InTableText kind c a e = table_text_ok a e
own_row mode.InFrameset kind c a e = moves_frames kind a e
own_row mode.AfterFrameset kind c a e = ends_frames a e
own_row mode.AfterAfterFrameset kind c a e = is_white_text a e
own_row m kind c a e = false

abbrev row_nested : (Kind → InsertionMode → Bool) → InsertionMode → Kind → Row → Bool
row_nested uses m kind r = (calm r.does && calm_ends r.ends)
    || (uses_next uses kind r.does r.ends || ((is_raw r.ends && (keeps_text m && raw_row kind r.does))
    || own_row m kind r.when r.does r.ends))

unfoldable uses_nested : ℕ → InsertionMode → Kind → InsertionMode → Bool
uses_nested zero m kind to = true
uses_nested (suc n) m kind to = scan (row_nested (uses_nested n m) m) kind (rows to)

mode_nested : InsertionMode → Kind → Bool
mode_nested m kind = uses_nested 4 m kind m

modes_nested : (m : InsertionMode) → is_bodily m ≡ false → each_kind (mode_nested m) ≡ true
unfolding mode_nested uses_nested rows names_of mathml_names_of svg_names_of
modes_nested mode.Initial h = refl
modes_nested mode.BeforeHtml h = refl
modes_nested mode.BeforeHead h = refl
modes_nested mode.InHead h = refl
modes_nested mode.InHeadNoscript h = refl
modes_nested mode.AfterHead h = refl
modes_nested mode.Text h = refl
modes_nested mode.InTableText h = refl
modes_nested mode.InFrameset h = refl
modes_nested mode.AfterFrameset h = refl
modes_nested mode.AfterAfterFrameset h = refl
modes_nested m h = no (sym h)

-- what rows find
pub record IsFound (m : InsertionMode) (s : State) : Type 0 where
  pub at : s.mode ≡ m
  pub listed : are_formatting s.active_formatting ≡ true
  pub standing : Standing s
  pub modes : are_template_modes s.template_modes ≡ true
  pub head : has_its_head m s.head_elem s.context_elem ≡ true
  pub poised : is_first m ≡ false → Poised s
  pub is : IsNested s

ready-of : (m : InsertionMode) (s : State) → IsFound m s → nested (ground_of s.context_elem) s.open_elems ≡ true → Ready s
ready-of m s f n = record { standing = f.standing; nested = n; modes = f.modes; count = f.is.count; framed = f.is.framed; form = f.is.form }

root-document : (c : Option Open) → asks_root c ≡ true → is_document (ground_of c) ≡ true
root-document None h = refl
root-document (Some c) h = rw h refl

-- the head that is opened again
HeadCase : (InsertionMode → Token → State → Turn) → Token → Type 0
HeadCase using t = (before kind : Kind) → scan again_rows kind (rows mode.InHead) ≡ true → is_of before t ≡ true
    → is_of kind t ≡ true → (s : State) → IsFound mode.AfterHead s
    → IsNested (act RemoveHeadElem t (using mode.InHead t (act (Then ParseError PushHeadElem) t s)).state)

pub has-head : (s : State) → IsFound mode.AfterHead s → is_some s.head_elem ≡ true
has-head s f =
    let was : (is_document (ground_of s.context_elem)
    && (nested (ground_of s.context_elem) s.open_elems && is_root (top s.open_elems))) ≡ true = rw f.at at f.is.fits in
    or_some (is_some s.head_elem) (asks_root s.context_elem) f.head
    (document-asks s.context_elem (and_parts (is_document (ground_of s.context_elem)) _ was).0)

head-case : (n : ℕ) (t : Token) → HeadCase (using_rules_for n) t
unfolding using_rules_for HeadCase
head-case zero t before kind h g k s f = again-nested s f.at (f.poised refl) (has-head s f) f.modes f.is before kind
    NoAction Done refl (using_rules_for zero) t g k 0
head-case (suc n) t before kind h g k s f =
    let q : State = act (Then ParseError PushHeadElem) t s in
    scan-holds again_rows (λ r. IsNested (act RemoveHeadElem t (turn_by_row (using_rules_for n) r t q).state)) t q
    (λ inner r i j fits o. again-nested s f.at (f.poised refl) (has-head s f) f.modes f.is before inner r.does
    r.ends i (using_rules_for n) t g j (current_number q.open_elems))
    (again-nested s f.at (f.poised refl) (has-head s f) f.modes f.is before kind NoAction Done refl
    (using_rules_for n) t g k 0) (rows mode.InHead) kind h k

-- rows

calm-row : (using : InsertionMode → Token → State → Turn) (kind : Kind) (a : Action) (e : Conclusion)
    → calm a ≡ true → calm_ends e ≡ true → (t : Token) → is_of kind t ≡ true → (m : InsertionMode) (s : State)
    → IsFound m s → (script : ℕ) → IsNested (concluded using e t script (act a t s)).state
calm-row using kind a Done c h t k m s f script = calm-nested a c kind t k s f.listed f.standing f.is
calm-row using kind a Acknowledged c h t k m s f script = calm-nested a c kind t k s f.listed f.standing f.is
calm-row using kind a ReportEncoding c h t k m s f script = calm-nested a c kind t k s f.listed f.standing f.is
calm-row using kind a e c h t k m s f script = no h

raw-end : (using : InsertionMode → Token → State → Turn) (kind : Kind) (a : Action) (e : Conclusion)
    → is_raw e ≡ true → raw_row kind a ≡ true → (t : Token) → is_of kind t ≡ true → (m : InsertionMode)
    → keeps_text m ≡ true → (s : State) → IsFound m s → (script : ℕ) → IsNested (concluded using e t script (act a t s)).state
raw-end using kind a (RawText raw) r h t k m keeps s f script =
    let tests = and_parts (not (is_first m)) _ keeps in
    raw-nested kind a h t k s (ap is_first f.at ∙ not_true _ tests.0) (ap is_text_mode f.at ∙ not_true _ tests.1) f.standing f.is
raw-end using kind a e r h t k m keeps s f script = no r

next-row : (uses : Kind → InsertionMode → Bool) (using : InsertionMode → Token → State → Turn) (t : Token)
    (m : InsertionMode) → ((kind : Kind) (to : InsertionMode) → uses kind to ≡ true → is_of kind t ≡ true
    → (s : State) → IsFound m s → IsNested (using to t s).state)
    → (kind : Kind) (a : Action) (e : Conclusion) → uses_next uses kind a e ≡ true → is_of kind t ≡ true
    → (s : State) → IsFound m s → (script : ℕ) → IsNested (concluded using e t script (act a t s)).state
next-row uses using t m go kind NoAction (Using to) h k s f script = go kind to h k s f
next-row uses using t m go kind a e h k s f script = no h

-- a template is opened in the head

contents-over : (g : Ground) (p : Part) → is_head p ≡ true → may_stand g Contents p ≡ true
contents-over g HeadPart h = refl
contents-over g p h = no h

templates-row : (using : InsertionMode → Token → State → Turn) (kind : Kind) (c : Condition) (a : Action)
    (e : Conclusion) → (is_done e && (closes c a || (opens a && starts_template kind))) ≡ true → (t : Token)
    → is_of kind t ≡ true → (s : State) → holds c t s ≡ true → IsFound mode.InHead s → (script : ℕ)
    → IsNested (concluded using e t script (act a t s)).state
templates-row using kind c a Done h t k s o f script =
    let was : (nested (ground_of s.context_elem) s.open_elems && is_head (top s.open_elems)) ≡ true = rw f.at at f.is.fits in
    let tests = and_parts (nested (ground_of s.context_elem) s.open_elems) _ was in
    let ready = ready-of mode.InHead s f tests.0 in
    or_by (closes c a) _ h (λ l. closes-nested c a l t s o ready)
    (λ l. let more = and_parts (opens a) (starts_template kind) l in opens-nested kind a more.0 more.1 t k s ready
    (contents-over (ground_of s.context_elem) (top s.open_elems) tests.1))
templates-row using kind c a e h t k s o f script = no h

closes-row : (using : InsertionMode → Token → State → Turn) (c : Condition) (a : Action) (e : Conclusion)
    → (is_done e && closes c a) ≡ true → (t : Token) (s : State) → holds c t s ≡ true → IsFound mode.AfterHead s
    → (script : ℕ) → IsNested (concluded using e t script (act a t s)).state
closes-row using c a Done h t s o f script = closes-nested c a h t s o
    (ready-of mode.AfterHead s f (over-root (ground_of s.context_elem) s.open_elems (rw f.at at f.is.fits)).nested)
closes-row using c a e h t s o f script = no h

opens_head-row : (using : InsertionMode → Token → State → Turn) (t : Token) → HeadCase using t
    → (kind : Kind) (a : Action) (e : Conclusion) → opens_head a e ≡ true → scan again_rows kind
    (rows mode.InHead) ≡ true → is_of kind t ≡ true → (s : State) → IsFound mode.AfterHead s → (script : ℕ)
    → IsNested (concluded using e t script (act a t s)).state
unfolding HeadCase
opens_head-row using t again kind (Then ParseError PushHeadElem) (UsingThen mode.InHead RemoveHeadElem) o h k s f
    script = again kind kind h k k s f
opens_head-row using t again kind a e o h k s f script = no o

-- text of an element is over
text-row : (using : InsertionMode → Token → State → Turn) (a : Action) (e : Conclusion) → text_ok a e ≡ true
    → (t : Token) (s : State) → IsFound mode.Text s → (script : ℕ) → IsNested (concluded using e t script (act a t s)).state
text-row using (Then ParseError Pop) ReprocessInOriginal h t s f script = over-nested (parse_error s)
    (error-mode s ∙ f.at) (erred-nested s f.is)
text-row using (Then Pop RestoreMode) Done h t s f script = over-nested s f.at f.is
text-row using (Then Pop RestoreMode) RunScript h t s f script = over-nested s f.at f.is
text-row using a e h t s f script = no h

own-row : (using : InsertionMode → Token → State → Turn) (t : Token) → HeadCase using t → (m : InsertionMode)
    (kind : Kind) (c : Condition) (a : Action) (e : Conclusion) → own_row m kind c a e ≡ true → is_of kind t ≡ true
    → (s : State) → holds c t s ≡ true → IsFound m s → (script : ℕ) → IsNested (concluded using e t script (act a t s)).state
own-row using t again mode.Initial kind c a e h k s o f script =
    let tests = and_parts (calm a) (is_begun e) h in
    initial-nested using e tests.1 t script (act a t s) (calm-mode kind a tests.0 t s ∙ f.at)
    (calm-nested a tests.0 kind t k s f.listed f.standing f.is)
own-row using t again mode.BeforeHtml kind c a e h k s o f script = before_html-nested using a e h t script s f.at
    (root-document s.context_elem f.head) f.standing f.is
own-row using t again mode.BeforeHead kind c a e h k s o f script = before_head-nested using kind a e h t k script s f.at f.standing f.is
own-row using t again mode.InHead kind c a e h k s o f script =
    or_by (leaves_head kind a e) _ h (λ l. in_head-nested using kind a e l t k script s f.at f.standing f.is)
    (λ l. templates-row using kind c a e l t k s o f script)
own-row using t again mode.InHeadNoscript kind c a e h k s o f script = noscript-ends using a e h t script s f.at f.is
own-row using t again mode.AfterHead kind c a e h k s o f script =
    or_by (bodies kind a e) _ h (λ l. after_head-nested using kind a e l t k script s f.at f.standing f.is)
    (λ l. or_by (is_done e && closes c a) _ l (λ l. closes-row using c a e l t s o f script)
    (λ l. let tests = and_parts (opens_head a e) _ l in opens_head-row using t again kind a e tests.0 tests.1 k s f script))
own-row using t again mode.Text kind c a e h k s o f script = text-row using a e h t s f script
own-row using t again mode.InTableText kind c a e h k s o f script = table_text-nested using kind a e h t k script s
    f.at f.listed f.standing f.is
own-row using t again mode.InFrameset kind c a e h k s o f script = in_frameset-nested using kind a e h t k script s f.at f.standing f.is
own-row using t again mode.AfterFrameset kind c a e h k s o f script = after_frameset-nested using a e h t script s f.at f.is
own-row using t again mode.AfterAfterFrameset kind c a e h k s o f script = after_after-nested using kind a e h t k
    script s f.at f.listed f.standing f.is
own-row using t again m kind c a e h k s o f script = no h

row-nested : (uses : Kind → InsertionMode → Bool) (using : InsertionMode → Token → State → Turn) (t : Token)
    (m : InsertionMode) → ((kind : Kind) (to : InsertionMode) → uses kind to ≡ true → is_of kind t ≡ true
    → (s : State) → IsFound m s → IsNested (using to t s).state) → HeadCase using t
    → (kind : Kind) (r : Row) → row_nested uses m kind r ≡ true → is_of kind t ≡ true → (s : State)
    → holds r.when t s ≡ true → IsFound m s → IsNested (turn_by_row using r t s).state
row-nested uses using t m go again kind r h k s o f =
    let script : ℕ = current_number s.open_elems in
    or_by (calm r.does && calm_ends r.ends) _ h (λ l. let tests = and_parts (calm r.does) (calm_ends r.ends) l in
    calm-row using kind r.does r.ends tests.0 tests.1 t k m s f script)
    (λ l. or_by (uses_next uses kind r.does r.ends) _ l (λ l. next-row uses using t m go kind r.does r.ends l k s f script)
    (λ l. or_by (is_raw r.ends && (keeps_text m && raw_row kind r.does)) _ l
    (λ l. let one = and_parts (is_raw r.ends) _ l in let two = and_parts (keeps_text m) (raw_row kind r.does) one.1
    in raw-end using kind r.does r.ends one.0 two.1 t k m two.0 s f script)
    (λ l. own-row using t again m kind r.when r.does r.ends l k s o f script)))

uses-nested : (n : ℕ) (t : Token) (m : InsertionMode) (kind : Kind) (to : InsertionMode)
    → uses_nested n m kind to ≡ true → is_of kind t ≡ true → (s : State) → IsFound m s → IsNested (using_rules_for n to t s).state
unfolding uses_nested using_rules_for
uses-nested zero t m kind to h k s f = f.is
uses-nested (suc n) t m kind to h k s f =
    scan-holds (row_nested (uses_nested n m) m) (λ r. IsNested (turn_by_row (using_rules_for n) r t s).state) t s
    (λ inner r i j fits o. row-nested (uses_nested n m) (using_rules_for n) t m (uses-nested n t m) (head-case n t) inner r i j s o f)
    f.is (rows to) kind h k

-- the rules of foreign content hold for nothing there

root-open : (xs : List Open) → has_root xs ≡ true → has_open set.Html xs ≡ true
root-open [] h = no h
root-open (x ∷ xs) h = by (is_in set.Html x) refl h (root-open xs) where
  by : (b : Bool) → is_in set.Html x ≡ b → choose b (λ _. not (is_nonempty xs)) (λ _. has_root xs) ≡ true
      → (has_root xs ≡ true → has_open set.Html xs ≡ true) → (is_in set.Html x || has_open set.Html xs) ≡ true
  by true e h rest = rw e refl
  by false e h rest = rw e (rest h)

direct-open : (c : Option Open) (template : Bool) (m : InsertionMode) → is_first m ≡ false → (xs : List Open)
    → fits_nested (ground_of c) template m xs ≡ true → has_open set.Html xs ≡ true
direct-open c template m e xs h =
    root-open xs (direct-root c (Some 0) [] (λ d. refl) template m xs (direct-nonempty m e (ground_of c) template xs h) h)

-- a context in whose fragments elements may not simply come is HTML's
context-html : (c : Option Open) → not (is_flow (ground_of c)) ≡ true → IfSome c (λ x. is_html x.namespace ≡ true)
unfolding names_of mathml_names_of svg_names_of
context-html None h = tt
context-html (Some c) h = by (is_in set.Html c) (is_in set.Frameset c) refl refl h where
  by : (a b : Bool) → is_in set.Html c ≡ a → is_in set.Frameset c ≡ b
      → not (is_flow (choose a (λ _. Document) (λ _. choose b (λ _. InFrames) (λ _. Flow)))) ≡ true → is_html c.namespace ≡ true
  by true b e f h = html-root c e
  by false true e f h = solid-html c (ap is_loose (set-part set.Frameset Frames refl c f))
  by false false e f h = no h

-- the current node is HTML's
IsHtmlOnTop : List Open → Type 0
IsHtmlOnTop [] = Unit {0}
IsHtmlOnTop (x ∷ xs) = is_html x.namespace ≡ true

solid-top : (xs : List Open) → is_loose (top xs) ≡ false → IsHtmlOnTop xs
unfolding IsHtmlOnTop
solid-top [] h = tt
solid-top (x ∷ xs) h = solid-html x h

html-top : (xs : List Open) → are_html xs ≡ true → IsHtmlOnTop xs
unfolding IsHtmlOnTop
html-top [] h = tt
html-top (x ∷ xs) h = (and_parts (is_html x.namespace) (are_html xs) h).0

adjusted-html : (c : Option Open) (xs : List Open) → IfSome c (λ x. is_html x.namespace ≡ true) → IsHtmlOnTop xs
    → IfSome (adjusted_by c xs) (λ x. is_html x.namespace ≡ true)
unfolding IsHtmlOnTop
adjusted-html c [] h t = tt
adjusted-html None (x ∷ xs) h t = t
adjusted-html (Some c) (x ∷ []) h t = h
adjusted-html (Some c) (x ∷ y ∷ ys) h t = t

foster-solid : (p : Part) → is_foster p ≡ true → is_loose p ≡ false
foster-solid TablePart h = refl
foster-solid Section h = refl
foster-solid RowPart h = refl
foster-solid p h = no h

-- of two elements at least the current node is the adjusted one
foster-adjusted : (g : Ground) (c : Option Open) (xs : List Open) → nested g xs ≡ true → is_foster (top xs) ≡ true
    → IfSome (adjusted_by c xs) (λ x. is_html x.namespace ≡ true)
foster-adjusted g c [] n h = no h
foster-adjusted g None (x ∷ xs) n h = solid-html x (foster-solid (part_of x) h)
foster-adjusted g (Some c) (x ∷ y ∷ ys) n h = solid-html x (foster-solid (part_of x) h)
foster-adjusted g (Some c) (x ∷ []) n h = absurd (over (part_of x) h (and_parts (may_stand g (part_of x) Nothing) _ n).0) where
  over : (p : Part) → is_foster p ≡ true → may_stand g p Nothing ≡ true → ⊥
  over TablePart h m = no m
  over Section h m = no m
  over RowPart h m = no m
  over p h m = no h

frames-solid : (p : Part) → is_frames p ≡ true → is_loose p ≡ false
frames-solid Root h = refl
frames-solid Frames h = refl
frames-solid p h = no h

document-ground : (g : Ground) → is_document g ≡ true → not (is_flow g) ≡ true
document-ground Document h = refl
document-ground InFrames h = no h
document-ground Flow h = no h

under-open : (c : Option Open) (template : Bool) (o : Option InsertionMode) (xs : List Open)
    → fits_under (ground_of c) template o xs ≡ true → has_open set.Html xs ≡ true
under-open c template None xs h = no h
under-open c template (Some m) [] h = no h
under-open c template (Some m) (x ∷ xs) h =
    let two = and_parts (is_nonempty xs) _ (and_parts (is_loose (part_of x)) _ h).1 in
    right (is_in set.Html x) (root-open xs (direct-root c (Some 0) [] (λ d. refl) template m xs two.0 two.1))
  where
    right : (b : Bool) → has_open set.Html xs ≡ true → (b || has_open set.Html xs) ≡ true
    right b h = rw h (or_true b)

table-nested : (g : Ground) (template : Bool) (o : Option InsertionMode) (xs : List Open)
    → fits_table g template o xs ≡ true → (nested g xs ≡ true) × (is_foster (top xs) ≡ true)
table-nested g template None xs h = no h
table-nested g template (Some m) xs h =
    let one = and_parts (is_foster (top xs)) _ h in
    let two = and_parts (is_table_mode m) _ one.1 in
    let bodily = table-bodily m two.0 in
    ((flow-direct g template m None xs bodily (flow-parts g template m None xs bodily two.1)).0, one.0)

pub other-html : (m : InsertionMode) → is_bodily m ≡ false → (t : Token) (s : State) → MayCome t s → s.mode ≡ m
    → IsNested s → is_foreign s t ≡ true → ⊥
other-html m b t s may at h f = by m b at where
  c : Option Open
  c = s.context_elem

  g : Ground
  g = ground_of s.context_elem

  template : Bool
  template = context_is set.Template s.context_elem

  html : IfSome (adjusted_current_node s) (λ x. is_html x.namespace ≡ true) → ⊥
  html i = both-ways (adjusted_current_node s) i (foreign-there s t f) (foreign-some s t f)

  framed : IsInFrames g s.open_elems → ⊥
  framed is = html (adjusted-html c s.open_elems (context-html c is.ground)
      (solid-top s.open_elems (frames-solid (top s.open_elems) is.frames)))

  early : (m : InsertionMode) → is_later m ≡ false → s.mode ≡ m → HasRoot s
  early m l at = λ later. absurd (true≢false (sym later ∙ ap is_later at ∙ l))

  by : (m : InsertionMode) → is_bodily m ≡ false → s.mode ≡ m → ⊥
  by mode.Initial b at = not-foreign mode.Initial refl s at may.held t f h.count (early mode.Initial refl at)
  by mode.BeforeHtml b at = not-foreign mode.BeforeHtml refl s at may.held t f h.count (early mode.BeforeHtml refl at)
  by mode.BeforeHead b at = not-foreign mode.BeforeHead refl s at may.held t f h.count (early mode.BeforeHead refl at)
  by mode.InHead b at = not-foreign mode.InHead refl s at may.held t f h.count
      (λ later. direct-open c template mode.InHead refl s.open_elems (rw at at h.fits))
  by mode.InHeadNoscript b at = not-foreign mode.InHeadNoscript refl s at may.held t f h.count
      (λ later. direct-open c template mode.InHeadNoscript refl s.open_elems (rw at at h.fits))
  by mode.Text b at = not-foreign mode.Text refl s at may.held t f h.count
      (λ later. under-open c template s.orig_mode s.open_elems (rw at at h.fits))
  by mode.InTableText b at = let table = table-nested g template s.orig_mode s.open_elems (rw at at h.fits) in
      html (foster-adjusted g c s.open_elems table.0 table.1)
  by mode.AfterHead b at =
      let is = over-root g s.open_elems (rw at at h.fits) in
      html (adjusted-html c s.open_elems (context-html c (document-ground g is.document)) (solid-top s.open_elems (ap is_loose is.root)))
  by mode.InFrameset b at = framed (in-frames g s.open_elems (rw at at h.fits))
  by mode.AfterFrameset b at = framed (in-frames g s.open_elems (rw at at h.fits))
  by mode.AfterAfterFrameset b at =
      let was : (not (is_flow g) && (are_html s.open_elems && has_root s.open_elems)) ≡ true = rw at at h.fits in
      let one = and_parts (not (is_flow g)) _ was in
      html (adjusted-html c s.open_elems (context-html c one.0) (html-top s.open_elems (and_parts (are_html s.open_elems) _ one.1).0))
  by m b at = no (sym b)

-- a turn

pub found-of : (t : Token) (s : State) → MayCome t s → IsNested s → IsFound s.mode s
found-of t s may h = record {
  at = refl;
  listed = may.held.listed;
  standing = may.upright.standing;
  modes = may.held.modes;
  head = may.held.head;
  poised = λ e. poised-of s may.held may.upright e;
  is = h;
}

other-turn : (t : Token) (s : State) → MayCome t s → IsNested s → is_bodily s.mode ≡ false → IsNested (turn t s).state
unfolding turn mode_nested
other-turn t s may h b = by (is_foreign s t) refl where
  kind : (kind : Kind) × ((mode_nested s.mode kind ≡ true) × (is_of kind t ≡ true))
  kind = kind-of (mode_nested s.mode) (modes_nested s.mode b) t

  by : (c : Bool) → is_foreign s t ≡ c
      → IsNested (choose c (λ _. turn_by_row (using_rules_for most_modes) (first_fit in_foreign_content t s) t s)
      (λ _. using_rules_for most_modes s.mode t s)).state
  by true f = absurd (other-html s.mode b t s may refl h f)
  by false f = uses-nested 4 t s.mode kind.0 s.mode kind.1.0 kind.1.1 s (found-of t s may h)

pub turn-nested : (t : Token) (s : State) → MayCome t s → IsNested s → IsNested (turn t s).state
turn-nested t s may h = by (is_bodily s.mode) refl where
  by : (b : Bool) → is_bodily s.mode ≡ b → IsNested (turn t s).state
  by true b = body-turn t s may h b
  by false b = other-turn t s may h b
