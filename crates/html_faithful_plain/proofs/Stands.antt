-- Where plain nodes stand: what rows ask of the elements that are open there.
use Rattle.std.proofs.Common.{◌≡◌, ◌∙◌, Bool, true, false, List, ◌∷◌, None, refl, sym, true≢false}
use Rattle.std.specs.Prelude.{codes, is_some}
use Rattle.html_plain.specs.Elements.{holds, inside, is_in_link, spelled}
use Rattle.html_plain.specs.declared.elements.CellKind.TheVariants.{Data, Header}
use Rattle.html_plain.specs.declared.elements.Format.TheVariants.{Bold, Italic, Emphasis, Code}
use Rattle.html_plain.specs.declared.elements.Level.TheVariants.{One, Two, Three, Four, Five, Six}
use Rattle.html_plain.specs.declared.elements.ListKind.{ListKind}
use Rattle.html_plain.specs.declared.elements.ListKind.TheVariants.{Unordered, Ordered}
use Rattle.html_plain.specs.declared.elements.PlainElement.{PlainElement}
use Rattle.html_plain.specs.declared.elements.PlainElement.TheVariants.{Paragraph, Heading, Division}
use Rattle.html_plain.specs.declared.elements.PlainElement.TheVariants.{List as ListElement, Item, Table, TableBody, Row, Cell}
use Rattle.html_plain.specs.declared.elements.PlainElement.TheVariants.{Break, Formatted, Link}
use Rattle.html_plain.specs.declared.place.PlainPlace.{PlainPlace}
use Rattle.html_plain.specs.declared.place.PlainPlace.TheVariants.{InFlow, InLine, InList, InTable, InTableBody, InRow}
use Rattle.html_rules.specs.ForeignContent.{is_html_element}
use Rattle.html_rules.specs.Formatting.{last_named}
use Rattle.html_rules.specs.Names as names
use Rattle.html_rules.specs.Reset.{mode_of_open}
use Rattle.html_rules.specs.Sets.{names_of}
use Rattle.html_rules.specs.Stack.{in_scope, item_name}
use Rattle.html_rules.specs.State.{Open, State, current_is, is_in}
use Rattle.html_rules.specs.declared.insertion_mode.InsertionMode.{InsertionMode}
use Rattle.html_rules.specs.declared.insertion_mode.InsertionMode.TheVariants as mode
use Rattle.html_rules.specs.declared.tag_set.TagSet.{TagSet}
use Rattle.html_rules.specs.declared.tag_set.TagSet.TheVariants as set
use Rattle.html_rules.specs.declared.rules.Rules.{Rules}
use Rattle.html_rules.specs.declared.rules.Rules.TheVariants.{Html5ever, Standard}
use Rattle.html_faithful.specs.Listing.{link_open}
use Rattle.html_faithful.specs.Spots.{Spot, entries_of, hollow, opened_at}

-- the places in the body
abbrev pub is_inner : PlainPlace → Bool
is_inner InFlow = true
is_inner (InLine in_link) = true
is_inner InList = true
is_inner InTable = true
is_inner InTableBody = true
is_inner InRow = true
is_inner place = false

abbrev pub is_line : PlainPlace → Bool
is_line (InLine in_link) = true
is_line place = false

abbrev pub is_flow : PlainPlace → Bool
is_flow InFlow = true
is_flow place = false

abbrev pub is_list : PlainPlace → Bool
is_list InList = true
is_list place = false

-- the parts of a table where white space waits
abbrev pub is_part : PlainPlace → Bool
is_part InTable = true
is_part InTableBody = true
is_part InRow = true
is_part place = false

-- what the current node is there
abbrev pub context_of : PlainPlace → TagSet
context_of InTable = set.TableScope
context_of InTableBody = set.TableBodyContext
context_of place = set.TableRowContext

-- the mode of flow content: in the body, or in a cell
abbrev pub flow_mode : Bool → InsertionMode
flow_mode true = mode.InCell
flow_mode false = mode.InBody

abbrev pub mode_at : PlainPlace → Bool → InsertionMode
mode_at InTable cell = mode.InTable
mode_at InTableBody cell = mode.InTableBody
mode_at InRow cell = mode.InRow
mode_at place cell = flow_mode cell

-- whether an element is a cell, or stood in one
abbrev pub in_cell : PlainElement → Bool → Bool
in_cell (Cell kind) cell = true
in_cell k cell = cell

-- an element that holds nothing
abbrev pub is_break : PlainElement → Bool
is_break Break = true
is_break k = false

-- an element that is opened there
abbrev pub opened : Rules → PlainElement → List Open → Open
opened rules k xs = opened_at rules names.Html (spelled k) xs

-- a spot with another mode, other elements open, and another flag
abbrev pub there : Spot → InsertionMode → List Open → Bool → Spot
there p m xs ok = record p { mode = m; orig_mode = None; path = xs; frameset_ok = ok }

-- of a state, what the reset of its mode asks besides what is open
pub record Faces (p : Spot) (s : State) : Type 0 where
  pub template_modes : s.template_modes ≡ p.template_modes
  pub head : s.head_elem ≡ (hollow p).head_elem
  pub context : s.context_elem ≡ None

-- what is asked where these elements are open
pub record Stands (p : Spot) (place : PlainPlace) (cell : Bool) (ys : List Open) : Type 0 where
  pub own : current_is is_html_element ys ≡ true
  -- the mode is the one that these elements ask for
  pub again : (s : State) → Faces p s → mode_of_open s ys ≡ mode_at place cell
  pub paragraph : is_line place ≡ false → in_scope set.ButtonScope (is_in set.P) ys ≡ false
  pub heading : is_flow place ≡ true → current_is (is_in set.HeadingTag) ys ≡ false
  pub unlisted : is_in_link place ≡ false → is_some (last_named (codes "a") (entries_of ys)) ≡ false
  pub unlinked : is_in_link place ≡ false → link_open ys ≡ false
  pub item : is_list place ≡ true → item_name set.Li ys ≡ None
  pub context : is_part place ≡ true → current_is (is_in (context_of place)) ys ≡ true
  pub foster : is_part place ≡ true → current_is (is_in set.FosterTarget) ys ≡ true

no : {A : Type 0} → false ≡ true → A
no h = absurd (true≢false (sym h))

part-alone : (place : PlainPlace) → is_part place ≡ true → (is_flow place ≡ false) × (is_list place ≡ false)
part-alone InTable h = (refl, refl)
part-alone InTableBody h = (refl, refl)
part-alone InRow h = (refl, refl)
part-alone place h = no h

-- ONE ELEMENT MORE

module _ (p : Spot) (cell : Bool) (k : PlainElement) (ys : List Open) where
  abbrev zs : List Open
  zs = opened p.rules k ys ∷ ys

  abbrev Again : PlainPlace → Type 0
  Again place = (s : State) → Faces p s → mode_of_open s zs ≡ mode_at place cell

  abbrev Outside : Type 0
  Outside = in_scope set.ButtonScope (is_in set.P) zs ≡ false

  abbrev Unlisted : Type 0
  Unlisted = is_some (last_named (codes "a") (entries_of zs)) ≡ false

  abbrev Unlinked : Type 0
  Unlinked = link_open zs ≡ false

  -- an element that holds flow content
  flow-inside : Again InFlow → Outside → is_in set.HeadingTag (opened p.rules k ys) ≡ false → Unlisted → Unlinked → Stands p InFlow cell zs
  flow-inside again paragraph heading unlisted unlinked = record {
    own = refl;
    again = again;
    paragraph = λ e. paragraph;
    heading = λ e. heading;
    unlisted = λ e. unlisted;
    unlinked = λ e. unlinked;
    item = no;
    context = no;
    foster = no;
  }

  -- a line
  line-inside : (in_link : Bool) → Again (InLine in_link) → (in_link ≡ false → Unlisted) → (in_link ≡ false → Unlinked)
      → Stands p (InLine in_link) cell zs
  line-inside in_link again unlisted unlinked = record {
    own = refl;
    again = again;
    paragraph = λ e. no (sym e);
    heading = no;
    unlisted = unlisted;
    unlinked = unlinked;
    item = no;
    context = no;
    foster = no;
  }

  -- items
  list-inside : Again InList → Outside → Unlisted → Unlinked → item_name set.Li zs ≡ None → Stands p InList cell zs
  list-inside again paragraph unlisted unlinked item = record {
    own = refl;
    again = again;
    paragraph = λ e. paragraph;
    heading = no;
    unlisted = λ e. unlisted;
    unlinked = λ e. unlinked;
    item = λ e. item;
    context = no;
    foster = no;
  }

  -- what a table holds, and its parts
  part-inside : (place : PlainPlace) → is_part place ≡ true → Again place → Outside → Unlisted → Unlinked
      → current_is (is_in (context_of place)) zs ≡ true → current_is (is_in set.FosterTarget) zs ≡ true → Stands p place cell zs
  part-inside place part again paragraph unlisted unlinked context foster = record {
    own = refl;
    again = again;
    paragraph = λ e. paragraph;
    heading = λ e. no (sym (part-alone place part).0 ∙ e);
    unlisted = λ e. unlisted;
    unlinked = λ e. unlinked;
    item = λ e. no (sym (part-alone place part).1 ∙ e);
    context = λ e. context;
    foster = λ e. foster;
  }

-- elements that bound no scope of a button
abbrev is_passed : PlainElement → Bool
is_passed Division = true
is_passed (ListElement kind) = true
is_passed Item = true
is_passed TableBody = true
is_passed Row = true
is_passed k = false

passed : (rules : Rules) (k : PlainElement) → is_passed k ≡ true → (ys : List Open) → in_scope set.ButtonScope (is_in set.P) ys ≡ false
    → in_scope set.ButtonScope (is_in set.P) (opened rules k ys ∷ ys) ≡ false
unfolding names_of
passed Html5ever Division i ys h = h
passed Standard Division i ys h = h
passed Html5ever (ListElement Unordered) i ys h = h
passed Standard (ListElement Unordered) i ys h = h
passed Html5ever (ListElement Ordered) i ys h = h
passed Standard (ListElement Ordered) i ys h = h
passed Html5ever Item i ys h = h
passed Standard Item i ys h = h
passed Html5ever TableBody i ys h = h
passed Standard TableBody i ys h = h
passed Html5ever Row i ys h = h
passed Standard Row i ys h = h
passed rules k i ys h = no i

-- no item is found in a list
itemless : (rules : Rules) (kind : ListKind) (ys : List Open) → item_name set.Li (opened rules (ListElement kind) ys ∷ ys) ≡ None
unfolding names_of
itemless Html5ever Unordered ys = refl
itemless Standard Unordered ys = refl
itemless Html5ever Ordered ys = refl
itemless Standard Ordered ys = refl

-- and elements that do
abbrev is_bound : PlainElement → Bool
is_bound Table = true
is_bound (Cell kind) = true
is_bound k = false

bounded : (rules : Rules) (k : PlainElement) → is_bound k ≡ true → (ys : List Open)
    → in_scope set.ButtonScope (is_in set.P) (opened rules k ys ∷ ys) ≡ false
unfolding names_of
bounded Html5ever Table i ys = refl
bounded Standard Table i ys = refl
bounded Html5ever (Cell Data) i ys = refl
bounded Standard (Cell Data) i ys = refl
bounded Html5ever (Cell Header) i ys = refl
bounded Standard (Cell Header) i ys = refl
bounded rules k i ys = no i

module _ (p : Spot) (cell : Bool) (ys : List Open) where
  abbrev Inside : PlainPlace → PlainElement → Type 0
  Inside place k = Stands p (inside place k) (in_cell k cell) (opened p.rules k ys ∷ ys)

  pub in-flow : (k : PlainElement) → holds InFlow k ≡ true → is_break k ≡ false → Stands p InFlow cell ys → Inside InFlow k
  unfolding names_of
  in-flow Paragraph e v h = line-inside p cell Paragraph ys false h.again h.unlisted h.unlinked
  in-flow (Heading One) e v h = line-inside p cell (Heading One) ys false h.again h.unlisted h.unlinked
  in-flow (Heading Two) e v h = line-inside p cell (Heading Two) ys false h.again h.unlisted h.unlinked
  in-flow (Heading Three) e v h = line-inside p cell (Heading Three) ys false h.again h.unlisted h.unlinked
  in-flow (Heading Four) e v h = line-inside p cell (Heading Four) ys false h.again h.unlisted h.unlinked
  in-flow (Heading Five) e v h = line-inside p cell (Heading Five) ys false h.again h.unlisted h.unlinked
  in-flow (Heading Six) e v h = line-inside p cell (Heading Six) ys false h.again h.unlisted h.unlinked
  in-flow Division e v h = flow-inside p cell Division ys h.again (passed p.rules Division refl ys (h.paragraph refl)) refl (h.unlisted refl) (h.unlinked refl)
  in-flow (ListElement Unordered) e v h =
      list-inside p cell (ListElement Unordered) ys h.again
      (passed p.rules (ListElement Unordered) refl ys (h.paragraph refl)) (h.unlisted refl) (h.unlinked refl)
      (itemless p.rules Unordered ys)
  in-flow (ListElement Ordered) e v h =
      list-inside p cell (ListElement Ordered) ys h.again
      (passed p.rules (ListElement Ordered) refl ys (h.paragraph refl)) (h.unlisted refl) (h.unlinked refl)
      (itemless p.rules Ordered ys)
  in-flow Table e v h =
      part-inside p cell Table ys InTable refl (λ s t. refl) (bounded p.rules Table refl ys) (h.unlisted refl) (h.unlinked refl) refl refl
  in-flow (Formatted Bold) e v h = line-inside p cell (Formatted Bold) ys false h.again h.unlisted h.unlinked
  in-flow (Formatted Italic) e v h = line-inside p cell (Formatted Italic) ys false h.again h.unlisted h.unlinked
  in-flow (Formatted Emphasis) e v h = line-inside p cell (Formatted Emphasis) ys false h.again h.unlisted h.unlinked
  in-flow (Formatted Code) e v h = line-inside p cell (Formatted Code) ys false h.again h.unlisted h.unlinked
  in-flow Link e v h = line-inside p cell Link ys true h.again (λ e. no (sym e)) (λ e. no (sym e))
  in-flow Break e v h = no (sym v)
  in-flow k e v h = no e

  pub in-line : (in_link : Bool) (k : PlainElement) → holds (InLine in_link) k ≡ true → is_break k ≡ false
      → Stands p (InLine in_link) cell ys → Inside (InLine in_link) k
  unfolding names_of
  in-line in_link (Formatted Bold) e v h = line-inside p cell (Formatted Bold) ys in_link h.again h.unlisted h.unlinked
  in-line in_link (Formatted Italic) e v h = line-inside p cell (Formatted Italic) ys in_link h.again h.unlisted h.unlinked
  in-line in_link (Formatted Emphasis) e v h = line-inside p cell (Formatted Emphasis) ys in_link h.again h.unlisted h.unlinked
  in-line in_link (Formatted Code) e v h = line-inside p cell (Formatted Code) ys in_link h.again h.unlisted h.unlinked
  in-line in_link Link e v h = line-inside p cell Link ys true h.again (λ e. no (sym e)) (λ e. no (sym e))
  in-line in_link Break e v h = no (sym v)
  in-line in_link k e v h = no e

  pub in-list : (k : PlainElement) → holds InList k ≡ true → Stands p InList cell ys → Inside InList k
  unfolding names_of
  in-list Item e h = flow-inside p cell Item ys h.again (passed p.rules Item refl ys (h.paragraph refl)) refl (h.unlisted refl) (h.unlinked refl)
  in-list k e h = no e

  pub in-table : (k : PlainElement) → holds InTable k ≡ true → Stands p InTable cell ys → Inside InTable k
  unfolding names_of
  in-table TableBody e h =
      part-inside p cell TableBody ys InTableBody refl (λ s t. refl)
      (passed p.rules TableBody refl ys (h.paragraph refl)) (h.unlisted refl) (h.unlinked refl) refl refl
  in-table k e h = no e

  pub in-bodies : (k : PlainElement) → holds InTableBody k ≡ true → Stands p InTableBody cell ys → Inside InTableBody k
  unfolding names_of
  in-bodies Row e h =
      part-inside p cell Row ys InRow refl (λ s t. refl)
      (passed p.rules Row refl ys (h.paragraph refl)) (h.unlisted refl) (h.unlinked refl) refl refl
  in-bodies k e h = no e

  pub in-row : (k : PlainElement) → holds InRow k ≡ true → Stands p InRow cell ys → Inside InRow k
  unfolding names_of
  in-row (Cell Data) e h = flow-inside p true (Cell Data) ys (λ s t. refl) (bounded p.rules (Cell Data) refl ys) refl refl refl
  in-row (Cell Header) e h = flow-inside p true (Cell Header) ys (λ s t. refl) (bounded p.rules (Cell Header) refl ys) refl refl refl
  in-row k e h = no e

  -- where the children of an element stand
  pub in-place : (place : PlainPlace) (k : PlainElement) → is_inner place ≡ true → holds place k ≡ true → is_break k ≡ false
      → Stands p place cell ys → Inside place k
  in-place InFlow k i e v h = in-flow k e v h
  in-place (InLine in_link) k i e v h = in-line in_link k e v h
  in-place InList k i e v h = in-list k e h
  in-place InTable k i e v h = in-table k e h
  in-place InTableBody k i e v h = in-bodies k e h
  in-place InRow k i e v h = in-row k e h
  in-place place k i e v h = no i
