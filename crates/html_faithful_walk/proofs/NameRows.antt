-- The rows that the tags of common elements take (HTML Standard, sections 13.2.6.4.4, 13.2.6.4.7 to 13.2.6.4.9, and 13.2.6.4.13 to
-- 13.2.6.4.15).
use Rattle.std.proofs.Common.{◌≡◌, ℕ, suc, Bool, true, false, List, [], ◌∷◌, refl, sym, subst}
use Rattle.std.specs.Prelude.{◌&&◌, ◌||◌, not, Some, codes}
use Rattle.std.specs.List.{list_all}
use Rattle.std.specs.Str.{bytes_eq}
use Rattle.std.proofs.lemmas.Bool.{and_parts}
use Rattle.std.proofs.lemmas.Slice.Eq.{bytes_eq-Decides}
use Rattle.markup.specs.Trees.{is_among}
use Rattle.markup.specs.declared.attributes.Attribute.{Attribute}
use Rattle.html_tokens.specs.Tags.{named}
use Rattle.html_tokens.specs.declared.states.RawKind.TheVariants.{Rcdata, Rawtext, ScriptData}
use Rattle.html_tokens.specs.declared.tags.TagKind.TheVariants.{EndTag, StartTag}
use Rattle.html_tokens.specs.declared.token.Token.{Token}
use Rattle.html_tokens.specs.declared.token.Token.TheVariants.{TagToken}
use Rattle.html_rules.specs.Names.{Html}
use Rattle.html_rules.specs.Rules.{first_fit, rows}
use Rattle.html_rules.specs.Sets.{names_of}
use Rattle.html_rules.specs.State.{Open, State, is_in}
use Rattle.html_rules.specs.Table.{AListed, Acknowledged, AnyStartTag, AnythingElse, ClearBackTo, CloseItem, CloseMisnestedA, CloseP}
use Rattle.html_rules.specs.Table.{ContextIs, CurrentIs, Done, FramesetNotOk, IgnoreLineFeed, ImpliedEndTags, InQuirksMode, InScope}
use Rattle.html_rules.specs.Table.{InsertElement}
use Rattle.html_rules.specs.Table.{InsertFormatting, InsertMarker, InsertVoid, Not, Nothing, ParseError, Pop, PopUntil, RawText}
use Rattle.html_rules.specs.Table.{Reconstruct, ReportEncoding, Row, StartTags, SetHeadElem, SwitchTo, TypeHidden, Using, When}
use Rattle.html_rules.specs.Table.{insert_raw_text, row, ◌▸◌}
use Rattle.html_rules.specs.declared.insertion_mode.InsertionMode.{InsertionMode}
use Rattle.html_rules.specs.declared.insertion_mode.InsertionMode.TheVariants as mode
use Rattle.html_rules.specs.declared.rules.Rules.{Rules}
use Rattle.html_rules.specs.declared.rules.Rules.TheVariants.{Html5ever, Standard}
use Rattle.html_rules.specs.declared.tag_set.TagSet.TheVariants as set
use Rattle.html_faithful.specs.Checks.{is_unlisted}
use Rattle.html_faithful.specs.Forms.{is_tag_name, lowered}
use Rattle.html_faithful.specs.Harmless.{Change, EntryLeft, Made, MarkerLeft, Unchanged, by_rows, nothing_yet}
use Rattle.html_faithful.specs.Spots.{Spot, hollow, is_marked}
use Rattle.html_faithful_walk.specs.Common.{spot_after}
use Rattle.html_faithful_walk.specs.Kinds.{has_end, is_common, names_as}
use Rattle.html_faithful_walk.specs.declared.kinds.Kind.{Kind}
use Rattle.html_faithful_walk.specs.declared.kinds.Kind.TheVariants as kind

-- OF EACH NAME OF A LIST

infixr 5 ◌&◌
pub data Each (P : List ℕ → Type 0) : List (List ℕ) → Type 0 where
  End : Each P []
  ◌&◌ : {name : List ℕ} {names : List (List ℕ)} → P name → Each P names → Each P (name ∷ names)

each-by : (P : List ℕ → Type 0) (x name : List ℕ) (others b : Bool) → bytes_eq name x ≡ b → P x → (others ≡ true → P name)
    → (b || others) ≡ true → P name
each-by P x name others true e is rest h = subst P (sym ((bytes_eq-Decides name x).0 e)) is
each-by P x name others false e is rest h = rest h

pub each-of : (P : List ℕ → Type 0) (names : List (List ℕ)) (name : List ℕ) → Each P names → is_among name names ≡ true → P name
each-of P [] name End h = absurd cc
each-of P (x ∷ xs) name (is & are) h =
    each-by P x name (is_among name xs) (bytes_eq name x) refl is (λ rest. each-of P xs name are rest) h

pub all-of : (p : List ℕ → Bool) (names : List (List ℕ)) (name : List ℕ) → list_all p names ≡ true → is_among name names ≡ true
    → p name ≡ true
all-of p [] name a h = absurd cc
all-of p (x ∷ xs) name a h =
    let parts = and_parts (p x) (list_all p xs) a in
    each-by (λ name. p name ≡ true) x name (is_among name xs) (bytes_eq name x) refl parts.0 (λ rest. all-of p xs name parts.1 rest) h

-- THE ROWS OF START TAGS

abbrev pub start_of : List ℕ → List Attribute → Token
start_of name attributes = TagToken (record (named StartTag name) { attrs = attributes })

-- the mode whose rows take a start tag of a kind
abbrev pub home : Kind → InsertionMode
home kind.Head = mode.BeforeHead
home kind.Body = mode.AfterHead
home kind.Metadata = mode.InHead
home kind.Title = mode.InHead
home kind.Style = mode.InHead
home kind.Script = mode.InHead
home kind.Section = mode.InTable
home kind.Row = mode.InTableBody
home kind.Cell = mode.InRow
home k = mode.InBody

abbrev pub home_row : Kind → Row
home_row kind.Phrase = row AnyStartTag (Reconstruct ▸ InsertElement) Done
home_row kind.Formatting = row (StartTags set.FormattingTag) (Reconstruct ▸ InsertFormatting) Done
home_row kind.Link = row (StartTags set.A) (When AListed CloseMisnestedA ▸ Reconstruct ▸ InsertFormatting) Done
home_row kind.Block = row (StartTags set.Block) (CloseP ▸ InsertElement) Done
home_row kind.Heading =
    row (StartTags set.HeadingTag) (CloseP ▸ When (CurrentIs set.HeadingTag) (ParseError ▸ Pop) ▸ InsertElement) Done
home_row kind.Preformatted = row (StartTags set.PreListing) (CloseP ▸ InsertElement ▸ IgnoreLineFeed ▸ FramesetNotOk) Done
home_row kind.Item = row (StartTags set.Li) (FramesetNotOk ▸ CloseItem set.Li ▸ CloseP ▸ InsertElement) Done
home_row kind.Description = row (StartTags set.DdDt) (FramesetNotOk ▸ CloseItem set.DdDt ▸ CloseP ▸ InsertElement) Done
home_row kind.VoidPhrase = row (StartTags set.VoidTag) (Reconstruct ▸ InsertVoid ▸ FramesetNotOk) Acknowledged
home_row kind.Button =
    row (StartTags set.Button)
    (When (InScope set.DefaultScope set.Button) (ParseError ▸ ImpliedEndTags ▸ PopUntil set.Button)
    ▸ Reconstruct ▸ InsertElement ▸ FramesetNotOk) Done
home_row kind.Table =
    row (StartTags set.Table) (When (Not InQuirksMode) CloseP ▸ InsertElement ▸ FramesetNotOk ▸ SwitchTo mode.InTable) Done
home_row kind.Section = row (StartTags set.TbodyTfootThead) (ClearBackTo set.TableScope ▸ InsertElement ▸ SwitchTo mode.InTableBody) Done
home_row kind.Row = row (StartTags set.Tr) (ClearBackTo set.TableBodyContext ▸ InsertElement ▸ SwitchTo mode.InRow) Done
home_row kind.Cell =
    row (StartTags set.TdTh) (ClearBackTo set.TableRowContext ▸ InsertElement ▸ SwitchTo mode.InCell ▸ InsertMarker) Done
home_row kind.VoidBlock =
    row (StartTags set.Hr)
    (CloseP ▸ When (InScope set.DefaultScope set.Select)
    (ImpliedEndTags ▸ When (InScope set.DefaultScope set.OptionOptgroup) ParseError) ▸ InsertVoid ▸ FramesetNotOk) Acknowledged
home_row kind.Input =
    row (StartTags set.Input)
    (When (ContextIs set.Select) ParseError ▸ When (InScope set.DefaultScope set.Select)
    (ParseError ▸ PopUntil set.Select) ▸ Reconstruct ▸ InsertVoid ▸ When (Not TypeHidden) FramesetNotOk) Acknowledged
home_row kind.Head = row (StartTags set.Head) (InsertElement ▸ SetHeadElem ▸ SwitchTo mode.InHead) Done
home_row kind.Body = row (StartTags set.Body) (InsertElement ▸ FramesetNotOk ▸ SwitchTo mode.InBody) Done
home_row kind.Metadata = row (StartTags set.MetadataVoid) InsertVoid ReportEncoding
home_row kind.Title = row (StartTags set.Title) insert_raw_text (RawText Rcdata)
home_row kind.Style = row (StartTags set.NoframesStyle) insert_raw_text (RawText Rawtext)
home_row kind.Script = row (StartTags set.Script) insert_raw_text (RawText ScriptData)
home_row k = row AnythingElse Nothing Done

abbrev StartsBy : Kind → List ℕ → Type 0
StartsBy k name = (attributes : List Attribute) (p : Spot)
    → first_fit (rows (home k)) (start_of name attributes) (hollow p) ≡ home_row k

-- the Standard has a row for `input` in a fragment, which no document meets
input-row : (rules : Rules) (attributes : List Attribute) (p : Spot)
    → first_fit (rows mode.InBody) (start_of (codes "input") attributes) (hollow (record p { rules = rules })) ≡ home_row kind.Input
unfolding rows names_of
input-row Html5ever attributes p = refl
input-row Standard attributes p = refl

starts : (k : Kind) → is_common k ≡ true → Each (StartsBy k) (names_as k)
unfolding rows names_of
starts kind.Phrase h =
    (λ a s. refl) & (λ a s. refl) & (λ a s. refl) & (λ a s. refl) & (λ a s. refl) & (λ a s. refl) & (λ a s. refl)
    & (λ a s. refl) & (λ a s. refl) & (λ a s. refl) & (λ a s. refl) & (λ a s. refl) & (λ a s. refl) & (λ a s. refl)
    & (λ a s. refl) & (λ a s. refl) & (λ a s. refl) & (λ a s. refl) & (λ a s. refl) & End
starts kind.Formatting h =
    (λ a s. refl) & (λ a s. refl) & (λ a s. refl) & (λ a s. refl) & (λ a s. refl) & (λ a s. refl) & (λ a s. refl)
    & (λ a s. refl) & (λ a s. refl) & (λ a s. refl) & (λ a s. refl) & (λ a s. refl) & End
starts kind.Link h =
    (λ a s. refl) & End
starts kind.Block h =
    (λ a s. refl) & (λ a s. refl) & (λ a s. refl) & (λ a s. refl) & (λ a s. refl) & (λ a s. refl) & (λ a s. refl)
    & (λ a s. refl) & (λ a s. refl) & (λ a s. refl) & (λ a s. refl) & (λ a s. refl) & (λ a s. refl) & (λ a s. refl)
    & (λ a s. refl) & (λ a s. refl) & (λ a s. refl) & (λ a s. refl) & (λ a s. refl) & (λ a s. refl) & (λ a s. refl)
    & (λ a s. refl) & (λ a s. refl) & (λ a s. refl) & (λ a s. refl) & End
starts kind.Heading h =
    (λ a s. refl) & (λ a s. refl) & (λ a s. refl) & (λ a s. refl) & (λ a s. refl) & (λ a s. refl) & End
starts kind.Preformatted h =
    (λ a s. refl) & (λ a s. refl) & End
starts kind.Item h =
    (λ a s. refl) & End
starts kind.Description h =
    (λ a s. refl) & (λ a s. refl) & End
starts kind.VoidPhrase h =
    (λ a s. refl) & (λ a s. refl) & (λ a s. refl) & (λ a s. refl) & (λ a s. refl) & (λ a s. refl) & End
starts kind.VoidBlock h =
    (λ a s. refl) & End
starts kind.Input h =
    (λ a p. input-row p.rules a p) & End
starts kind.Head h =
    (λ a s. refl) & End
starts kind.Body h =
    (λ a s. refl) & End
starts kind.Button h =
    (λ a s. refl) & End
starts kind.Table h =
    (λ a s. refl) & End
starts kind.Section h =
    (λ a s. refl) & (λ a s. refl) & (λ a s. refl) & End
starts kind.Row h =
    (λ a s. refl) & End
starts kind.Cell h =
    (λ a s. refl) & (λ a s. refl) & End
starts kind.Metadata h =
    (λ a s. refl) & (λ a s. refl) & (λ a s. refl) & (λ a s. refl) & (λ a s. refl) & End
starts kind.Title h =
    (λ a s. refl) & End
starts kind.Style h =
    (λ a s. refl) & (λ a s. refl) & End
starts kind.Script h =
    (λ a s. refl) & End
starts k h = absurd cc

-- that may stand in a body
abbrev pub is_placed : Kind → Bool
is_placed kind.Section = false
is_placed kind.Row = false
is_placed kind.Cell = false
is_placed kind.Head = false
is_placed kind.Body = false
is_placed k = true

-- that belong to the head
abbrev pub is_headed : Kind → Bool
is_headed kind.Metadata = true
is_headed kind.Title = true
is_headed kind.Style = true
is_headed kind.Script = true
is_headed k = false

-- in a cell all is as in the body, but for what ends the cell
abbrev pub IsPassed : Token → Type 0
IsPassed t = (s : State) → first_fit (rows mode.InCell) t s ≡ row AnythingElse Nothing (Using mode.InBody)

abbrev StartsInCell : List ℕ → Type 0
StartsInCell name = (attributes : List Attribute) → IsPassed (start_of name attributes)

cell-starts : (k : Kind) → is_common k ≡ true → is_placed k ≡ true → Each StartsInCell (names_as k)
unfolding rows names_of
cell-starts kind.Phrase h g =
    (λ a s. refl) & (λ a s. refl) & (λ a s. refl) & (λ a s. refl) & (λ a s. refl) & (λ a s. refl) & (λ a s. refl)
    & (λ a s. refl) & (λ a s. refl) & (λ a s. refl) & (λ a s. refl) & (λ a s. refl) & (λ a s. refl) & (λ a s. refl)
    & (λ a s. refl) & (λ a s. refl) & (λ a s. refl) & (λ a s. refl) & (λ a s. refl) & End
cell-starts kind.Formatting h g =
    (λ a s. refl) & (λ a s. refl) & (λ a s. refl) & (λ a s. refl) & (λ a s. refl) & (λ a s. refl) & (λ a s. refl)
    & (λ a s. refl) & (λ a s. refl) & (λ a s. refl) & (λ a s. refl) & (λ a s. refl) & End
cell-starts kind.Link h g =
    (λ a s. refl) & End
cell-starts kind.Block h g =
    (λ a s. refl) & (λ a s. refl) & (λ a s. refl) & (λ a s. refl) & (λ a s. refl) & (λ a s. refl) & (λ a s. refl)
    & (λ a s. refl) & (λ a s. refl) & (λ a s. refl) & (λ a s. refl) & (λ a s. refl) & (λ a s. refl) & (λ a s. refl)
    & (λ a s. refl) & (λ a s. refl) & (λ a s. refl) & (λ a s. refl) & (λ a s. refl) & (λ a s. refl) & (λ a s. refl)
    & (λ a s. refl) & (λ a s. refl) & (λ a s. refl) & (λ a s. refl) & End
cell-starts kind.Heading h g =
    (λ a s. refl) & (λ a s. refl) & (λ a s. refl) & (λ a s. refl) & (λ a s. refl) & (λ a s. refl) & End
cell-starts kind.Preformatted h g =
    (λ a s. refl) & (λ a s. refl) & End
cell-starts kind.Item h g =
    (λ a s. refl) & End
cell-starts kind.Description h g =
    (λ a s. refl) & (λ a s. refl) & End
cell-starts kind.VoidPhrase h g =
    (λ a s. refl) & (λ a s. refl) & (λ a s. refl) & (λ a s. refl) & (λ a s. refl) & (λ a s. refl) & End
cell-starts kind.VoidBlock h g =
    (λ a s. refl) & End
cell-starts kind.Input h g =
    (λ a s. refl) & End
cell-starts kind.Button h g =
    (λ a s. refl) & End
cell-starts kind.Table h g =
    (λ a s. refl) & End
cell-starts kind.Metadata h g =
    (λ a s. refl) & (λ a s. refl) & (λ a s. refl) & (λ a s. refl) & (λ a s. refl) & End
cell-starts kind.Title h g =
    (λ a s. refl) & End
cell-starts kind.Style h g =
    (λ a s. refl) & (λ a s. refl) & End
cell-starts kind.Script h g =
    (λ a s. refl) & End
cell-starts k h g = absurd cc

-- in the body what belongs to the head is as in the head
abbrev pub IsHeaded : Token → Type 0
IsHeaded t = (s : State) → first_fit (rows mode.InBody) t s ≡ row (StartTags set.HeadContent) Nothing (Using mode.InHead)

abbrev StartsInBody : List ℕ → Type 0
StartsInBody name = (attributes : List Attribute) → IsHeaded (start_of name attributes)

body-starts : (k : Kind) → is_headed k ≡ true → Each StartsInBody (names_as k)
unfolding rows names_of
body-starts kind.Metadata h =
    (λ a s. refl) & (λ a s. refl) & (λ a s. refl) & (λ a s. refl) & (λ a s. refl) & End
body-starts kind.Title h =
    (λ a s. refl) & End
body-starts kind.Style h =
    (λ a s. refl) & (λ a s. refl) & End
body-starts kind.Script h =
    (λ a s. refl) & End
body-starts k h = absurd cc

-- THE ROWS OF END TAGS

abbrev pub end_of : List ℕ → Token
end_of name = TagToken (named EndTag name)

-- the mode whose rows take an end tag of a kind
abbrev pub end_home : Kind → InsertionMode
end_home kind.Head = mode.InHead
end_home kind.Table = mode.InTable
end_home kind.Title = mode.Text
end_home kind.Style = mode.Text
end_home kind.Script = mode.Text
end_home kind.Section = mode.InTableBody
end_home kind.Row = mode.InRow
end_home kind.Cell = mode.InCell
end_home k = mode.InBody

abbrev pub change_back : Kind → Change
change_back kind.Formatting = EntryLeft
change_back kind.Link = EntryLeft
change_back kind.Cell = MarkerLeft
change_back k = Unchanged

abbrev pub open_as : Rules → List ℕ → ℕ → Open
open_as rules name number = record { number = number; namespace = Html; name = name; rules = rules }

abbrev pub by_name : List ℕ → Open
by_name name = open_as Html5ever name 0

abbrev pub inside : Rules → List ℕ → ℕ → List Open → Spot → Spot
inside rules name number xs p = record p { path = open_as rules name number ∷ xs }

abbrev pub ended : Kind → Spot → Made
ended k p = record (nothing_yet (spot_after k p)) { closed = true; change = change_back k }

abbrev EndsBy : Kind → List ℕ → Type 0
EndsBy k name = (rules : Rules) (n number : ℕ) (xs : List Open) (p : Spot)
    → by_rows (suc n) (rows (end_home k)) (end_of name) (nothing_yet (inside rules name number xs p))
    ≡ Some (ended k (inside rules name number xs p))

ends : (k : Kind) → has_end k ≡ true → Each (EndsBy k) (names_as k)
unfolding by_rows rows names_of
ends kind.Phrase h =
    (λ rules n m xs p. refl) & (λ rules n m xs p. refl) & (λ rules n m xs p. refl) & (λ rules n m xs p. refl) & (λ rules n m xs p. refl)
    & (λ rules n m xs p. refl) & (λ rules n m xs p. refl) & (λ rules n m xs p. refl) & (λ rules n m xs p. refl) & (λ rules n m xs p. refl)
    & (λ rules n m xs p. refl) & (λ rules n m xs p. refl) & (λ rules n m xs p. refl) & (λ rules n m xs p. refl) & (λ rules n m xs p. refl)
    & (λ rules n m xs p. refl) & (λ rules n m xs p. refl) & (λ rules n m xs p. refl) & (λ rules n m xs p. refl) & End
ends kind.Formatting h =
    (λ rules n m xs p. refl) & (λ rules n m xs p. refl) & (λ rules n m xs p. refl) & (λ rules n m xs p. refl) & (λ rules n m xs p. refl)
    & (λ rules n m xs p. refl) & (λ rules n m xs p. refl) & (λ rules n m xs p. refl) & (λ rules n m xs p. refl) & (λ rules n m xs p. refl)
    & (λ rules n m xs p. refl) & (λ rules n m xs p. refl) & End
ends kind.Link h =
    (λ rules n m xs p. refl) & End
ends kind.Block h =
    (λ rules n m xs p. refl) & (λ rules n m xs p. refl) & (λ rules n m xs p. refl) & (λ rules n m xs p. refl) & (λ rules n m xs p. refl)
    & (λ rules n m xs p. refl) & (λ rules n m xs p. refl) & (λ rules n m xs p. refl) & (λ rules n m xs p. refl) & (λ rules n m xs p. refl)
    & (λ rules n m xs p. refl) & (λ rules n m xs p. refl) & (λ rules n m xs p. refl) & (λ rules n m xs p. refl) & (λ rules n m xs p. refl)
    & (λ rules n m xs p. refl) & (λ rules n m xs p. refl) & (λ rules n m xs p. refl) & (λ rules n m xs p. refl) & (λ rules n m xs p. refl)
    & (λ rules n m xs p. refl) & (λ rules n m xs p. refl) & (λ rules n m xs p. refl) & (λ rules n m xs p. refl)
    & (λ rules n m xs p. refl) & End
ends kind.Heading h =
    (λ rules n m xs p. refl) & (λ rules n m xs p. refl) & (λ rules n m xs p. refl) & (λ rules n m xs p. refl) & (λ rules n m xs p. refl)
    & (λ rules n m xs p. refl) & End
ends kind.Preformatted h =
    (λ rules n m xs p. refl) & (λ rules n m xs p. refl) & End
ends kind.Item h =
    (λ rules n m xs p. refl) & End
ends kind.Description h =
    (λ rules n m xs p. refl) & (λ rules n m xs p. refl) & End
ends kind.Button h =
    (λ rules n m xs p. refl) & End
ends kind.Head h =
    (λ rules n m xs p. refl) & End
ends kind.Table h =
    (λ rules n m xs p. refl) & End
ends kind.Section h =
    (λ rules n m xs p. refl) & (λ rules n m xs p. refl) & (λ rules n m xs p. refl) & End
ends kind.Row h =
    (λ rules n m xs p. refl) & End
ends kind.Cell h =
    (λ rules n m xs p. refl) & (λ rules n m xs p. refl) & End
ends kind.Title h =
    (λ rules n m xs p. refl) & End
ends kind.Style h =
    (λ rules n m xs p. refl) & (λ rules n m xs p. refl) & End
ends kind.Script h =
    (λ rules n m xs p. refl) & End
ends k h = absurd cc

-- whose end tags are those of a body
abbrev pub is_body_end : Kind → Bool
is_body_end kind.Head = false
is_body_end kind.Table = false
is_body_end kind.Section = false
is_body_end kind.Row = false
is_body_end kind.Cell = false
is_body_end kind.Title = false
is_body_end kind.Style = false
is_body_end kind.Script = false
is_body_end k = true

cell-ends : (k : Kind) → has_end k ≡ true → is_body_end k ≡ true → Each (λ name. IsPassed (end_of name)) (names_as k)
unfolding rows names_of
cell-ends kind.Phrase h g =
    (λ s. refl) & (λ s. refl) & (λ s. refl) & (λ s. refl) & (λ s. refl) & (λ s. refl) & (λ s. refl) & (λ s. refl)
    & (λ s. refl) & (λ s. refl) & (λ s. refl) & (λ s. refl) & (λ s. refl) & (λ s. refl) & (λ s. refl) & (λ s. refl)
    & (λ s. refl) & (λ s. refl) & (λ s. refl) & End
cell-ends kind.Formatting h g =
    (λ s. refl) & (λ s. refl) & (λ s. refl) & (λ s. refl) & (λ s. refl) & (λ s. refl) & (λ s. refl) & (λ s. refl)
    & (λ s. refl) & (λ s. refl) & (λ s. refl) & (λ s. refl) & End
cell-ends kind.Link h g =
    (λ s. refl) & End
cell-ends kind.Block h g =
    (λ s. refl) & (λ s. refl) & (λ s. refl) & (λ s. refl) & (λ s. refl) & (λ s. refl) & (λ s. refl) & (λ s. refl)
    & (λ s. refl) & (λ s. refl) & (λ s. refl) & (λ s. refl) & (λ s. refl) & (λ s. refl) & (λ s. refl) & (λ s. refl)
    & (λ s. refl) & (λ s. refl) & (λ s. refl) & (λ s. refl) & (λ s. refl) & (λ s. refl) & (λ s. refl) & (λ s. refl)
    & (λ s. refl) & End
cell-ends kind.Heading h g =
    (λ s. refl) & (λ s. refl) & (λ s. refl) & (λ s. refl) & (λ s. refl) & (λ s. refl) & End
cell-ends kind.Preformatted h g =
    (λ s. refl) & (λ s. refl) & End
cell-ends kind.Item h g =
    (λ s. refl) & End
cell-ends kind.Description h g =
    (λ s. refl) & (λ s. refl) & End
cell-ends kind.Button h g =
    (λ s. refl) & End
cell-ends k h g = absurd cc

-- WHAT ELSE THE NAMES SAY

-- of the list of active formatting elements
abbrev pub listing : Kind → Open → Bool
listing kind.Formatting x = (is_in set.FormattingEnd x && not (is_marked x)) && not (is_in set.A x)
listing kind.Link x = is_in set.FormattingEnd x && not (is_marked x)
listing kind.VoidPhrase x = true
listing kind.VoidBlock x = true
listing kind.Input x = true
listing kind.Metadata x = true
listing kind.Cell x = is_marked x
listing k x = is_unlisted x

-- of the form element pointer, of integration points, and of its tags
abbrev pub is_usual : Open → Bool
is_usual x = not (is_in set.AnnotationXml x) && not (is_in set.Form x)

-- a name whose end tag closes the element
abbrev pub is_spelled : Bool → List ℕ → Bool
is_spelled ends name = (is_tag_name name && bytes_eq (lowered name) name)
    && (not (bytes_eq name (codes "template")) && not (ends && (bytes_eq name (codes "body") || bytes_eq name (codes "html"))))

abbrev pub says : Kind → List ℕ → Bool
says k name = (listing k (open_as Html5ever name 0) && is_usual (open_as Html5ever name 0)) && is_spelled (has_end k) name

all-say : (k : Kind) → is_common k ≡ true → list_all (says k) (names_as k) ≡ true
unfolding names_of
all-say kind.Phrase h = refl
all-say kind.Formatting h = refl
all-say kind.Link h = refl
all-say kind.Block h = refl
all-say kind.Heading h = refl
all-say kind.Preformatted h = refl
all-say kind.Item h = refl
all-say kind.Description h = refl
all-say kind.VoidPhrase h = refl
all-say kind.VoidBlock h = refl
all-say kind.Input h = refl
all-say kind.Head h = refl
all-say kind.Body h = refl
all-say kind.Button h = refl
all-say kind.Table h = refl
all-say kind.Section h = refl
all-say kind.Row h = refl
all-say kind.Cell h = refl
all-say kind.Metadata h = refl
all-say kind.Title h = refl
all-say kind.Style h = refl
all-say kind.Script h = refl
all-say k h = absurd cc

-- OF A NAME OF A KIND

module _ (k : Kind) (name : List ℕ) (common : is_common k ≡ true) (among : is_among name (names_as k) ≡ true) where
  pub row-of-start : StartsBy k name
  row-of-start = each-of (StartsBy k) (names_as k) name (starts k common) among

  pub row-in-cell : is_placed k ≡ true → StartsInCell name
  row-in-cell placed = each-of StartsInCell (names_as k) name (cell-starts k common placed) among

  pub row-in-body : is_headed k ≡ true → StartsInBody name
  row-in-body headed = each-of StartsInBody (names_as k) name (body-starts k headed) among

  pub said : says k name ≡ true
  said = all-of (says k) (names_as k) name (all-say k common) among

module _ (k : Kind) (name : List ℕ) (has : has_end k ≡ true) (among : is_among name (names_as k) ≡ true) where
  pub rows-of-end : EndsBy k name
  rows-of-end = each-of (EndsBy k) (names_as k) name (ends k has) among

  pub end-in-cell : is_body_end k ≡ true → IsPassed (end_of name)
  end-in-cell body = each-of (λ name. IsPassed (end_of name)) (names_as k) name (cell-ends k has body) among
