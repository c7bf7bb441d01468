-- The start tags and end tags of plain elements, where plain nodes stand.
use Rattle.std.proofs.Common.{◌≡◌, ◌∙◌, ℕ, suc, Bool, true, false, List, [], ◌∷◌, Some, None, refl, sym, ap, true≢false}
use Rattle.std.specs.Prelude.{◌&&◌, codes, is_some}
use Rattle.markup.specs.declared.attributes.Attribute.{Attribute}
use Rattle.html_plain.specs.Elements.{holds, inside, spelled}
use Rattle.html_plain.specs.declared.elements.CellKind.{CellKind}
use Rattle.html_plain.specs.declared.elements.CellKind.TheVariants.{Data, Header}
use Rattle.html_plain.specs.declared.elements.Format.TheVariants.{Bold, Italic, Emphasis, Code}
use Rattle.html_plain.specs.declared.elements.Format.{Format}
use Rattle.html_plain.specs.declared.elements.Level.{Level}
use Rattle.html_plain.specs.declared.elements.Level.TheVariants.{One, Two, Three, Four, Five, Six}
use Rattle.html_plain.specs.declared.elements.ListKind.TheVariants.{Unordered, Ordered}
use Rattle.html_plain.specs.declared.elements.PlainElement.{PlainElement}
use Rattle.html_plain.specs.declared.elements.PlainElement.TheVariants.{Paragraph, Heading, Division}
use Rattle.html_plain.specs.declared.elements.PlainElement.TheVariants.{List as ListElement, Item, Table, TableBody, Row, Cell}
use Rattle.html_plain.specs.declared.elements.PlainElement.TheVariants.{Break, Formatted, Link}
use Rattle.html_plain.specs.declared.place.PlainPlace.{PlainPlace}
use Rattle.html_plain.specs.declared.place.PlainPlace.TheVariants.{InFlow, InLine, InList, InTable, InTableBody, InRow}
use Rattle.html_rules.specs.Choice.{choose}
use Rattle.html_rules.specs.Conditions.{is_quirks}
use Rattle.html_rules.specs.ForeignContent.{is_foreign, is_foreign_at, is_html_element}
use Rattle.html_rules.specs.Formatting.{last_named}
use Rattle.html_rules.specs.Modes.Foreign.{in_foreign_content}
use Rattle.html_rules.specs.Names as names
use Rattle.html_rules.specs.Reset.{mode_of_open}
use Rattle.html_rules.specs.Rules.{rows}
use Rattle.html_rules.specs.Sets.{names_of}
use Rattle.html_rules.specs.Stack.{in_scope, item_name}
use Rattle.html_rules.specs.State.{Open, adjusted_by, current_is, is_in}
use Rattle.html_rules.specs.declared.insertion_mode.InsertionMode.{InsertionMode}
use Rattle.html_rules.specs.declared.insertion_mode.InsertionMode.TheVariants as mode
use Rattle.html_rules.specs.declared.tag_set.TagSet.TheVariants as set
use Rattle.html_rules.specs.Tokens.{is_white}
use Rattle.html_tokens.specs.Tags.{named}
use Rattle.html_tokens.specs.declared.tags.TagKind.TheVariants.{EndTag, StartTag}
use Rattle.html_tokens.specs.declared.token.Token.{Token}
use Rattle.html_tokens.specs.declared.token.Token.TheVariants.{CharacterTokens, CommentToken, TagToken}
use Rattle.html_faithful.specs.Harmless.{Change, Put, EntryLeft, EntryPushed, FormKept, Made, MarkerLeft, MarkerPushed, Unchanged}
use Rattle.html_faithful.specs.Harmless.{by_rows, made_of}
use Rattle.html_faithful.specs.Harmless.{nothing_yet}
use Rattle.html_faithful.specs.Harmless as put
use Rattle.html_faithful.specs.Spots.{Spot, entries_of, hollow}
use Rattle.html_faithful_plain.proofs.Stands.{Faces, Stands, flow_mode, in_cell, is_break, is_inner, mode_at, opened, there}

abbrev pub start_of : PlainElement → List Attribute → Token
start_of k attributes = TagToken (record (named StartTag (spelled k)) { attrs = attributes })

abbrev pub end_of : PlainElement → Token
end_of k = TagToken (named EndTag (spelled k))

-- WHAT IS MADE OF THEM

-- what becomes of the list of active formatting elements
abbrev pub change_of : PlainElement → Change
change_of (Formatted format) = EntryPushed
change_of Link = EntryPushed
change_of (Cell kind) = MarkerPushed
change_of k = Unchanged

abbrev pub change_back : PlainElement → Change
change_back (Formatted format) = EntryLeft
change_back Link = EntryLeft
change_back (Cell kind) = MarkerLeft
change_back k = Unchanged

-- of the frameset-ok flag
abbrev pub flag_of : PlainElement → Bool → Bool
flag_of Item ok = false
flag_of Table ok = false
flag_of Break ok = false
flag_of k ok = ok

-- and of the mode
abbrev pub mode_of : PlainElement → InsertionMode → InsertionMode
mode_of Table m = mode.InTable
mode_of TableBody m = mode.InTableBody
mode_of Row m = mode.InRow
mode_of (Cell kind) m = mode.InCell
mode_of k m = m

-- an element is put and opened
abbrev pub started_by : Spot → InsertionMode → List Open → Bool → PlainElement → List Attribute → Made
started_by p m ys ok k attributes = record {
  spot = there p (mode_of k m) (opened p.rules k ys ∷ ys) (flag_of k ok);
  put = Some (put.Element names.Html (spelled k) attributes true);
  closed = false;
  change = change_of k;
  form = FormKept;
  raw = None;
  drops_line_feed = false;
}

-- a `br` is put
abbrev pub broken : Spot → InsertionMode → List Open → List Attribute → Made
broken p m ys attributes = record {
  spot = there p m ys false;
  put = Some (put.Element names.Html (spelled Break) attributes false);
  closed = false;
  change = Unchanged;
  form = FormKept;
  raw = None;
  drops_line_feed = false;
}

-- an element is closed, in a mode
abbrev pub closed_to : Spot → InsertionMode → List Open → Bool → PlainElement → Made
closed_to p m ys ok k = record {
  spot = there p m ys ok;
  put = None;
  closed = true;
  change = change_back k;
  form = FormKept;
  raw = None;
  drops_line_feed = false;
}

-- a text or a comment is put
abbrev pub put_there : Spot → InsertionMode → List Open → Bool → Put → Made
put_there p m ys ok what = record {
  spot = there p m ys ok;
  put = Some what;
  closed = false;
  change = Unchanged;
  form = FormKept;
  raw = None;
  drops_line_feed = false;
}

-- BY THE ROWS OF THE MODE

-- in HTML content is not foreign
own-at : (q : Spot) (ys : List Open) (t : Token) → current_is is_html_element ys ≡ true
    → is_foreign_at (hollow q) (adjusted_by None ys) t ≡ false
own-at q [] t h = absurd (true≢false (sym h))
own-at q (x ∷ xs) t h = rw h refl

by-mode : (q : Spot) (t : Token) → is_foreign (hollow q) t ≡ false → made_of t q ≡ by_rows 4 (rows q.mode) t (nothing_yet q)
unfolding made_of
by-mode q t e = ap (λ b. by_rows 4 (choose b (λ _. in_foreign_content) (λ _. rows q.mode)) t (nothing_yet q)) e

-- whether a token is a tag, a text or a comment
abbrev is_usual : Token → Bool
is_usual (TagToken tag) = true
is_usual (CharacterTokens text) = true
is_usual (CommentToken text) = true
is_usual t = false

by-own : (q : Spot) (t : Token) → is_usual t ≡ true → current_is is_html_element q.path ≡ true
    → made_of t q ≡ by_rows 4 (rows q.mode) t (nothing_yet q)
unfolding is_foreign
by-own q (TagToken tag) u h = by-mode q (TagToken tag) (own-at q q.path (TagToken tag) h)
by-own q (CharacterTokens text) u h = by-mode q (CharacterTokens text) (own-at q q.path (CharacterTokens text) h)
by-own q (CommentToken text) u h = by-mode q (CommentToken text) (own-at q q.path (CommentToken text) h)
by-own q t u h = absurd (true≢false (sym u))

-- in a cell all is as in the body, but for what ends the cell
abbrev PassesCell : Token → Type 0
PassesCell t = (n : ℕ) (q : Spot) → by_rows (suc n) (rows mode.InCell) t (nothing_yet q) ≡ by_rows n (rows mode.InBody) t (nothing_yet q)

-- so a token does in flow what it does in the body
in-flow-so : (q : Spot) (cell : Bool) (t : Token) (made : Made) → q.mode ≡ flow_mode cell → is_usual t ≡ true → PassesCell t
    → current_is is_html_element q.path ≡ true
    → ((n : ℕ) → by_rows (suc n) (rows mode.InBody) t (nothing_yet q) ≡ Some made) → made_of t q ≡ Some made
in-flow-so q true t made e u pass h does =
    by-own q t u h ∙ (ap (λ m. by_rows 4 (rows m) t (nothing_yet q)) e ∙ (pass 3 q ∙ does 2))
in-flow-so q false t made e u pass h does = by-own q t u h ∙ (ap (λ m. by_rows 4 (rows m) t (nothing_yet q)) e ∙ does 3)

no : {A : Type 0} → false ≡ true → A
no h = absurd (true≢false (sym h))

-- blocks that only close a paragraph where they begin
abbrev pub is_simple_block : PlainElement → Bool
is_simple_block Paragraph = true
is_simple_block Division = true
is_simple_block (ListElement kind) = true
is_simple_block k = false

-- START TAGS IN FLOW

module _ (n : ℕ) (p : Spot) (m : InsertionMode) (ys : List Open) (ok : Bool) (attributes : List Attribute) where
  abbrev Starts : PlainElement → Type 0
  Starts k = by_rows (suc n) (rows mode.InBody) (start_of k attributes) (nothing_yet (there p m ys ok))
      ≡ Some (started_by p m ys ok k attributes)

  abbrev Outside : Type 0
  Outside = in_scope set.ButtonScope (is_in set.P) ys ≡ false

  body-block : (k : PlainElement) → is_simple_block k ≡ true → Outside → Starts k
  unfolding by_rows rows names_of
  body-block Paragraph e h = rw h refl
  body-block Division e h = rw h refl
  body-block (ListElement Unordered) e h = rw h refl
  body-block (ListElement Ordered) e h = rw h refl
  body-block k e h = no e

  body-heading : (level : Level) → Outside → current_is (is_in set.HeadingTag) ys ≡ false → Starts (Heading level)
  unfolding by_rows rows names_of
  body-heading One h g = rw (h, g) refl
  body-heading Two h g = rw (h, g) refl
  body-heading Three h g = rw (h, g) refl
  body-heading Four h g = rw (h, g) refl
  body-heading Five h g = rw (h, g) refl
  body-heading Six h g = rw (h, g) refl

  body-item : Outside → item_name set.Li ys ≡ None → Starts Item
  unfolding by_rows rows names_of
  body-item h g = rw (g, h) refl

  body-table : (q : Bool) → is_quirks p.quirks_mode ≡ q → Outside → Starts Table
  unfolding by_rows rows names_of
  body-table true e h = rw e refl
  body-table false e h = rw (e, h) refl

  body-format : (format : Format) → Starts (Formatted format)
  unfolding by_rows rows names_of
  body-format Bold = refl
  body-format Italic = refl
  body-format Emphasis = refl
  body-format Code = refl

  body-link : is_some (last_named (codes "a") (entries_of ys)) ≡ false → Starts Link
  unfolding by_rows rows names_of
  body-link h = rw h refl

  body-break : by_rows (suc n) (rows mode.InBody) (start_of Break attributes) (nothing_yet (there p m ys ok))
      ≡ Some (broken p m ys attributes)
  unfolding by_rows rows names_of
  body-break = refl

-- END TAGS IN FLOW

-- elements that end in flow content
abbrev pub ends_in_flow : PlainElement → Bool
ends_in_flow Paragraph = true
ends_in_flow (Heading level) = true
ends_in_flow Division = true
ends_in_flow (ListElement kind) = true
ends_in_flow Item = true
ends_in_flow (Formatted format) = true
ends_in_flow Link = true
ends_in_flow k = false

module _ (n : ℕ) (p : Spot) (m : InsertionMode) (ys : List Open) (ok : Bool) where
  abbrev Ends : PlainElement → Type 0
  Ends k = by_rows (suc n) (rows mode.InBody) (end_of k) (nothing_yet (there p m (opened p.rules k ys ∷ ys) ok)) ≡ Some (closed_to p m ys ok k)

  body-end : (k : PlainElement) → ends_in_flow k ≡ true → Ends k
  unfolding by_rows rows names_of
  body-end Paragraph e = refl
  body-end (Heading One) e = refl
  body-end (Heading Two) e = refl
  body-end (Heading Three) e = refl
  body-end (Heading Four) e = refl
  body-end (Heading Five) e = refl
  body-end (Heading Six) e = refl
  body-end Division e = refl
  body-end (ListElement Unordered) e = refl
  body-end (ListElement Ordered) e = refl
  body-end Item e = refl
  body-end (Formatted Bold) e = refl
  body-end (Formatted Italic) e = refl
  body-end (Formatted Emphasis) e = refl
  body-end (Formatted Code) e = refl
  body-end Link e = refl
  body-end k e = no e

-- IN A CELL

-- elements that begin in flow content
abbrev pub starts_in_flow : PlainElement → Bool
starts_in_flow Table = true
starts_in_flow Break = true
starts_in_flow k = ends_in_flow k

cell-start : (attributes : List Attribute) (k : PlainElement) → starts_in_flow k ≡ true → PassesCell (start_of k attributes)
unfolding by_rows rows names_of
cell-start attributes Paragraph e n q = refl
cell-start attributes (Heading One) e n q = refl
cell-start attributes (Heading Two) e n q = refl
cell-start attributes (Heading Three) e n q = refl
cell-start attributes (Heading Four) e n q = refl
cell-start attributes (Heading Five) e n q = refl
cell-start attributes (Heading Six) e n q = refl
cell-start attributes Division e n q = refl
cell-start attributes (ListElement Unordered) e n q = refl
cell-start attributes (ListElement Ordered) e n q = refl
cell-start attributes Item e n q = refl
cell-start attributes Table e n q = refl
cell-start attributes Break e n q = refl
cell-start attributes (Formatted Bold) e n q = refl
cell-start attributes (Formatted Italic) e n q = refl
cell-start attributes (Formatted Emphasis) e n q = refl
cell-start attributes (Formatted Code) e n q = refl
cell-start attributes Link e n q = refl
cell-start attributes k e n q = no e

cell-end : (k : PlainElement) → ends_in_flow k ≡ true → PassesCell (end_of k)
unfolding by_rows rows names_of
cell-end Paragraph e n q = refl
cell-end (Heading One) e n q = refl
cell-end (Heading Two) e n q = refl
cell-end (Heading Three) e n q = refl
cell-end (Heading Four) e n q = refl
cell-end (Heading Five) e n q = refl
cell-end (Heading Six) e n q = refl
cell-end Division e n q = refl
cell-end (ListElement Unordered) e n q = refl
cell-end (ListElement Ordered) e n q = refl
cell-end Item e n q = refl
cell-end (Formatted Bold) e n q = refl
cell-end (Formatted Italic) e n q = refl
cell-end (Formatted Emphasis) e n q = refl
cell-end (Formatted Code) e n q = refl
cell-end Link e n q = refl
cell-end k e n q = no e

cell-text : (text : List ℕ) → PassesCell (CharacterTokens text)
unfolding by_rows rows
cell-text text n q = refl

cell-comment : (text : List ℕ) → PassesCell (CommentToken text)
unfolding by_rows rows
cell-comment text n q = refl

-- TEXT AND COMMENTS IN FLOW

body-character : (n : ℕ) (q : Spot) (c : ℕ) → by_rows (suc n) (rows mode.InBody) (CharacterTokens (c ∷ [])) (nothing_yet q)
    ≡ Some (record (nothing_yet q) {
      spot = record q { frameset_ok = q.frameset_ok && is_white (c ∷ []) };
      put = Some put.TextHere;
    })
unfolding by_rows rows
body-character n q c = refl

body-comment : (n : ℕ) (q : Spot) (text : List ℕ) → by_rows (suc n) (rows mode.InBody) (CommentToken text) (nothing_yet q)
    ≡ Some (record (nothing_yet q) { put = Some put.CommentHere })
unfolding by_rows rows
body-comment n q text = refl

pub character-made : (q : Spot) (cell : Bool) (c : ℕ) → q.mode ≡ flow_mode cell → current_is is_html_element q.path ≡ true
    → made_of (CharacterTokens (c ∷ [])) q
    ≡ Some (record (nothing_yet q) {
      spot = record q { frameset_ok = q.frameset_ok && is_white (c ∷ []) };
      put = Some put.TextHere;
    })
character-made q cell c e h =
    in-flow-so q cell (CharacterTokens (c ∷ [])) _ e refl (cell-text (c ∷ [])) h (λ n. body-character n q c)

pub comment-made : (q : Spot) (cell : Bool) (text : List ℕ) → q.mode ≡ flow_mode cell → current_is is_html_element q.path ≡ true
    → made_of (CommentToken text) q ≡ Some (record (nothing_yet q) { put = Some put.CommentHere })
comment-made q cell text e h = in-flow-so q cell (CommentToken text) _ e refl (cell-comment text) h (λ n. body-comment n q text)

-- TABLES

module _ (p : Spot) (ys : List Open) (ok : Bool) where
  table_body-start : (attributes : List Attribute) → current_is (is_in set.TableScope) ys ≡ true
      → by_rows 4 (rows mode.InTable) (start_of TableBody attributes) (nothing_yet (there p mode.InTable ys ok))
      ≡ Some (started_by p mode.InTable ys ok TableBody attributes)
  unfolding by_rows rows names_of
  table_body-start attributes h = rw h refl

  row-start : (attributes : List Attribute) → current_is (is_in set.TableBodyContext) ys ≡ true
      → by_rows 4 (rows mode.InTableBody) (start_of Row attributes) (nothing_yet (there p mode.InTableBody ys ok))
      ≡ Some (started_by p mode.InTableBody ys ok Row attributes)
  unfolding by_rows rows names_of
  row-start attributes h = rw h refl

  cell-starts : (attributes : List Attribute) (kind : CellKind) → current_is (is_in set.TableRowContext) ys ≡ true
      → by_rows 4 (rows mode.InRow) (start_of (Cell kind) attributes) (nothing_yet (there p mode.InRow ys ok))
      ≡ Some (started_by p mode.InRow ys ok (Cell kind) attributes)
  unfolding by_rows rows names_of
  cell-starts attributes Data h = rw h refl
  cell-starts attributes Header h = rw h refl

  table-end : (m : InsertionMode) → mode_of_open (hollow (there p mode.InTable ys ok)) ys ≡ m
      → by_rows 4 (rows mode.InTable) (end_of Table) (nothing_yet (there p mode.InTable (opened p.rules Table ys ∷ ys) ok))
      ≡ Some (closed_to p m ys ok Table)
  unfolding by_rows rows names_of
  table-end m h = rw h refl

  table_body-end : by_rows 4 (rows mode.InTableBody) (end_of TableBody)
      (nothing_yet (there p mode.InTableBody (opened p.rules TableBody ys ∷ ys) ok)) ≡ Some (closed_to p mode.InTable ys ok TableBody)
  unfolding by_rows rows names_of
  table_body-end = refl

  row-end : by_rows 4 (rows mode.InRow) (end_of Row) (nothing_yet (there p mode.InRow (opened p.rules Row ys ∷ ys) ok))
      ≡ Some (closed_to p mode.InTableBody ys ok Row)
  unfolding by_rows rows names_of
  row-end = refl

  cell-ends : (kind : CellKind) → by_rows 4 (rows mode.InCell) (end_of (Cell kind))
      (nothing_yet (there p mode.InCell (opened p.rules (Cell kind) ys ∷ ys) ok)) ≡ Some (closed_to p mode.InRow ys ok (Cell kind))
  unfolding by_rows rows names_of
  cell-ends Data = refl
  cell-ends Header = refl

-- WHERE PLAIN NODES STAND

faces : (p : Spot) (m : InsertionMode) (ys : List Open) (ok : Bool) → Faces p (hollow (there p m ys ok))
faces p m ys ok = record { template_modes = refl; head = refl; context = refl }

module _ (p : Spot) (cell : Bool) (ys : List Open) (ok : Bool) (attributes : List Attribute) where
  abbrev StartsIn : PlainPlace → PlainElement → Type 0
  StartsIn place k = made_of (start_of k attributes) (there p (mode_at place cell) ys ok)
      ≡ Some (started_by p (mode_at place cell) ys ok k attributes)

  -- a start tag in flow content, by what the rows of the body make of it
  by-flow : (k : PlainElement) → starts_in_flow k ≡ true → current_is is_html_element ys ≡ true
      → ((n : ℕ) → Starts n p (flow_mode cell) ys ok attributes k)
      → made_of (start_of k attributes) (there p (flow_mode cell) ys ok) ≡ Some (started_by p (flow_mode cell) ys ok k attributes)
  by-flow k e own does =
      in-flow-so (there p (flow_mode cell) ys ok) cell (start_of k attributes) _ refl refl (cell-start attributes k e) own does

  flow-start : (k : PlainElement) → holds InFlow k ≡ true → is_break k ≡ false → Stands p InFlow cell ys → StartsIn InFlow k
  flow-start Paragraph e v h = by-flow Paragraph refl h.own
      (λ n. body-block n p (flow_mode cell) ys ok attributes Paragraph refl (h.paragraph refl))
  flow-start (Heading level) e v h = by-flow (Heading level) refl h.own
      (λ n. body-heading n p (flow_mode cell) ys ok attributes level (h.paragraph refl) (h.heading refl))
  flow-start Division e v h = by-flow Division refl h.own
      (λ n. body-block n p (flow_mode cell) ys ok attributes Division refl (h.paragraph refl))
  flow-start (ListElement kind) e v h = by-flow (ListElement kind) refl h.own
      (λ n. body-block n p (flow_mode cell) ys ok attributes (ListElement kind) refl (h.paragraph refl))
  flow-start Table e v h = by-flow Table refl h.own
      (λ n. body-table n p (flow_mode cell) ys ok attributes (is_quirks p.quirks_mode) refl (h.paragraph refl))
  flow-start (Formatted format) e v h = by-flow (Formatted format) refl h.own
      (λ n. body-format n p (flow_mode cell) ys ok attributes format)
  flow-start Link e v h = by-flow Link refl h.own
      (λ n. body-link n p (flow_mode cell) ys ok attributes (h.unlisted refl))
  flow-start Break e v h = no (sym v)
  flow-start k e v h = no e

  line-start : (in_link : Bool) (k : PlainElement) → holds (InLine in_link) k ≡ true → is_break k ≡ false
      → Stands p (InLine in_link) cell ys → StartsIn (InLine in_link) k
  line-start in_link (Formatted format) e v h = by-flow (Formatted format) refl h.own
      (λ n. body-format n p (flow_mode cell) ys ok attributes format)
  line-start false Link e v h = by-flow Link refl h.own (λ n. body-link n p (flow_mode cell) ys ok attributes (h.unlisted refl))
  line-start true Link e v h = no e
  line-start in_link Break e v h = no (sym v)
  line-start in_link k e v h = no e

  -- an element that may stand in a place is put there and opened
  pub place-start : (place : PlainPlace) (k : PlainElement) → is_inner place ≡ true → holds place k ≡ true → is_break k ≡ false
      → Stands p place cell ys → StartsIn place k
  place-start InFlow k i e v h = flow-start k e v h
  place-start (InLine in_link) k i e v h = line-start in_link k e v h
  place-start InList Item i e v h = by-flow Item refl h.own
      (λ n. body-item n p (flow_mode cell) ys ok attributes (h.paragraph refl) (h.item refl))
  place-start InTable TableBody i e v h =
      by-own (there p mode.InTable ys ok) (start_of TableBody attributes) refl h.own ∙ table_body-start p ys ok attributes (h.context refl)
  place-start InTableBody Row i e v h =
      by-own (there p mode.InTableBody ys ok) (start_of Row attributes) refl h.own ∙ row-start p ys ok attributes (h.context refl)
  place-start InRow (Cell kind) i e v h =
      by-own (there p mode.InRow ys ok) (start_of (Cell kind) attributes) refl h.own
      ∙ cell-starts p ys ok attributes kind (h.context refl)
  place-start InList k i e v h = no e
  place-start InTable k i e v h = no e
  place-start InTableBody k i e v h = no e
  place-start InRow k i e v h = no e
  place-start place k i e v h = no i

  -- a `br` is put in flow content and in a line
  pub break-start : current_is is_html_element ys ≡ true
      → made_of (start_of Break attributes) (there p (flow_mode cell) ys ok) ≡ Some (broken p (flow_mode cell) ys attributes)
  break-start own = in-flow-so (there p (flow_mode cell) ys ok) cell (start_of Break attributes) _ refl refl
      (cell-start attributes Break refl) own (λ n. body-break n p (flow_mode cell) ys ok attributes)

module _ (p : Spot) (cell : Bool) (ys : List Open) (ok : Bool) where
  abbrev EndsIn : PlainPlace → PlainElement → Type 0
  EndsIn place k = made_of (end_of k) (there p (mode_at (inside place k) (in_cell k cell)) (opened p.rules k ys ∷ ys) ok)
      ≡ Some (closed_to p (mode_at place cell) ys ok k)

  by-flow-end : (k : PlainElement) → ends_in_flow k ≡ true
      → made_of (end_of k) (there p (flow_mode cell) (opened p.rules k ys ∷ ys) ok) ≡ Some (closed_to p (flow_mode cell) ys ok k)
  by-flow-end k e =
      in-flow-so (there p (flow_mode cell) (opened p.rules k ys ∷ ys) ok) cell (end_of k) _ refl refl (cell-end k e) refl
      (λ n. body-end n p (flow_mode cell) ys ok k e)

  flow-end : (k : PlainElement) → holds InFlow k ≡ true → is_break k ≡ false → Stands p InFlow cell ys → EndsIn InFlow k
  flow-end Paragraph e v h = by-flow-end Paragraph refl
  flow-end (Heading level) e v h = by-flow-end (Heading level) refl
  flow-end Division e v h = by-flow-end Division refl
  flow-end (ListElement kind) e v h = by-flow-end (ListElement kind) refl
  flow-end Table e v h = by-own (there p mode.InTable (opened p.rules Table ys ∷ ys) ok) (end_of Table) refl refl
      ∙ table-end p ys ok (flow_mode cell) (h.again (hollow (there p mode.InTable ys ok)) (faces p mode.InTable ys ok))
  flow-end (Formatted format) e v h = by-flow-end (Formatted format) refl
  flow-end Link e v h = by-flow-end Link refl
  flow-end Break e v h = no (sym v)
  flow-end k e v h = no e

  line-end : (in_link : Bool) (k : PlainElement) → holds (InLine in_link) k ≡ true → is_break k ≡ false → EndsIn (InLine in_link) k
  line-end in_link (Formatted format) e v = by-flow-end (Formatted format) refl
  line-end in_link Link e v = by-flow-end Link refl
  line-end in_link Break e v = no (sym v)
  line-end in_link k e v = no e

  -- and its end tag closes it
  pub place-end : (place : PlainPlace) (k : PlainElement) → is_inner place ≡ true → holds place k ≡ true → is_break k ≡ false
      → Stands p place cell ys → EndsIn place k
  place-end InFlow k i e v h = flow-end k e v h
  place-end (InLine in_link) k i e v h = line-end in_link k e v
  place-end InList Item i e v h = by-flow-end Item refl
  place-end InTable TableBody i e v h =
      by-own (there p mode.InTableBody (opened p.rules TableBody ys ∷ ys) ok) (end_of TableBody) refl refl ∙ table_body-end p ys ok
  place-end InTableBody Row i e v h = by-own (there p mode.InRow (opened p.rules Row ys ∷ ys) ok) (end_of Row) refl refl ∙ row-end p ys ok
  place-end InRow (Cell kind) i e v h =
      by-own (there p mode.InCell (opened p.rules (Cell kind) ys ∷ ys) ok) (end_of (Cell kind)) refl refl ∙ cell-ends p ys ok kind
  place-end InList k i e v h = no e
  place-end InTable k i e v h = no e
  place-end InTableBody k i e v h = no e
  place-end InRow k i e v h = no e
  place-end place k i e v h = no i
