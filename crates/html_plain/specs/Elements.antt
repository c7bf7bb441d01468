-- The elements of plain documents, their names and what they may hold.
use Rattle.std.specs.Prelude.{ℕ, Bool, true, false, cond, ◌&&◌, ◌||◌, not, List, [], ◌∷◌, Option, Some, None, is_none, codes}
use Rattle.std.specs.Str.{bytes_eq}
use Rattle.markup.specs.Names.{html_namespace}
pub use Rattle.markup.specs.Names.{html_name}
use Rattle.markup.specs.declared.names.QualName.{QualName}
use Rattle.html_plain.specs.declared.elements.CellKind.{CellKind}
use Rattle.html_plain.specs.declared.elements.CellKind.TheVariants.{Data, Header}
use Rattle.html_plain.specs.declared.elements.Format.{Format}
use Rattle.html_plain.specs.declared.elements.Format.TheVariants.{Bold, Italic, Emphasis, Code}
use Rattle.html_plain.specs.declared.elements.Level.{Level}
use Rattle.html_plain.specs.declared.elements.Level.TheVariants.{One, Two, Three, Four, Five, Six}
use Rattle.html_plain.specs.declared.elements.ListKind.{ListKind}
use Rattle.html_plain.specs.declared.elements.ListKind.TheVariants.{Unordered, Ordered}
use Rattle.html_plain.specs.declared.elements.PlainElement.{PlainElement}
use Rattle.html_plain.specs.declared.elements.PlainElement.TheVariants.{Html, Head, Title, Body, Paragraph, Heading, Division}
use Rattle.html_plain.specs.declared.elements.PlainElement.TheVariants.{List as ListElement, Item, Table, TableBody, Row, Cell}
use Rattle.html_plain.specs.declared.elements.PlainElement.TheVariants.{Break, Formatted, Link}
use Rattle.html_plain.specs.declared.place.PlainPlace.{PlainPlace}
use Rattle.html_plain.specs.declared.place.TextKind.{TextKind}
use Rattle.html_plain.specs.declared.place.TextKind.TheVariants.{NoText, WhiteSpace, AnyText}
use Rattle.html_plain.specs.declared.place.PlainPlace.TheVariants.{BeforeDoctype, BeforeRoot, AfterRoot, BeforeHead, AfterHead}
use Rattle.html_plain.specs.declared.place.PlainPlace.TheVariants.{BeforeBody, AfterBody, InHead, AfterTitle, InTitle, InFlow}
use Rattle.html_plain.specs.declared.place.PlainPlace.TheVariants.{InLine, InList, InTable, InTableBody, InRow, InBreak}

-- NAMES

abbrev pub spelled_level : Level → List ℕ
spelled_level One = codes "h1"
spelled_level Two = codes "h2"
spelled_level Three = codes "h3"
spelled_level Four = codes "h4"
spelled_level Five = codes "h5"
spelled_level Six = codes "h6"

abbrev pub spelled_list : ListKind → List ℕ
spelled_list Unordered = codes "ul"
spelled_list Ordered = codes "ol"

abbrev pub spelled_cell : CellKind → List ℕ
spelled_cell Data = codes "td"
spelled_cell Header = codes "th"

abbrev pub spelled_format : Format → List ℕ
spelled_format Bold = codes "b"
spelled_format Italic = codes "i"
spelled_format Emphasis = codes "em"
spelled_format Code = codes "code"

abbrev pub spelled : PlainElement → List ℕ
spelled Html = codes "html"
spelled Head = codes "head"
spelled Title = codes "title"
spelled Body = codes "body"
spelled Paragraph = codes "p"
spelled (Heading level) = spelled_level level
spelled Division = codes "div"
spelled (ListElement kind) = spelled_list kind
spelled Item = codes "li"
spelled Table = codes "table"
spelled TableBody = codes "tbody"
spelled Row = codes "tr"
spelled (Cell kind) = spelled_cell kind
spelled Break = codes "br"
spelled (Formatted format) = spelled_format format
spelled Link = codes "a"

abbrev pub elements : List PlainElement
elements =
    Html ∷ Head ∷ Title ∷ Body ∷ Paragraph ∷ Heading One ∷ Heading Two ∷ Heading Three ∷ Heading Four ∷
    Heading Five ∷ Heading Six ∷ Division
    ∷ ListElement Unordered ∷ ListElement Ordered ∷ Item ∷ Table ∷ TableBody ∷ Row ∷ Cell Data ∷ Cell Header ∷ Break
    ∷ Formatted Bold ∷ Formatted Italic ∷ Formatted Emphasis ∷ Formatted Code ∷ Link ∷ []

-- the first of some elements that is spelled so
abbrev pub first_spelled : List PlainElement → List ℕ → Option PlainElement
first_spelled [] name = None
first_spelled (k ∷ ks) name = cond (bytes_eq name (spelled k)) (Some k) (first_spelled ks name)

-- the element that a local name spells, if it is one of them
unfoldable pub local_element : List ℕ → Option PlainElement
local_element name = first_spelled elements name

-- whether a name is HTML's and has no prefix
abbrev pub is_html : QualName → Bool
is_html name = is_none name.prefix && bytes_eq name.ns html_namespace

-- the element of a name, if it is one of them
abbrev pub element_of : QualName → Option PlainElement
element_of name = cond (is_html name) (local_element name.local) None

-- WHAT STANDS WHERE

abbrev pub is_block : PlainElement → Bool
is_block Paragraph = true
is_block (Heading level) = true
is_block Division = true
is_block (ListElement kind) = true
is_block Table = true
is_block _ = false

abbrev pub is_inline : PlainElement → Bool
is_inline Break = true
is_inline (Formatted format) = true
is_inline Link = true
is_inline _ = false

abbrev pub is_link : PlainElement → Bool
is_link Link = true
is_link _ = false

abbrev pub is_cell : PlainElement → Bool
is_cell (Cell kind) = true
is_cell _ = false

-- whether an element may stand here
abbrev pub holds : PlainPlace → PlainElement → Bool
holds BeforeRoot Html = true
holds BeforeHead Head = true
holds AfterHead Body = true
holds BeforeBody Body = true
holds InHead Title = true
holds InFlow k = is_block k || is_inline k
holds (InLine in_link) k = is_inline k && not (in_link && is_link k)
holds InList Item = true
holds InTable TableBody = true
holds InTableBody Row = true
holds InRow k = is_cell k
holds place k = false

abbrev pub is_in_link : PlainPlace → Bool
is_in_link (InLine in_link) = in_link
is_in_link _ = false

-- where the children of an element stand that stands here
abbrev pub inside : PlainPlace → PlainElement → PlainPlace
inside place Html = BeforeHead
inside place Head = InHead
inside place Title = InTitle
inside place Body = InFlow
inside place Paragraph = InLine false
inside place (Heading level) = InLine false
inside place Division = InFlow
inside place (ListElement kind) = InList
inside place Item = InFlow
inside place Table = InTable
inside place TableBody = InTableBody
inside place Row = InRow
inside place (Cell kind) = InFlow
inside place Break = InBreak
inside place (Formatted format) = InLine (is_in_link place)
inside place Link = InLine true

-- where the next node stands after an element that stands here
abbrev pub place_after_element : PlainPlace → PlainPlace
place_after_element BeforeRoot = AfterRoot
place_after_element BeforeHead = AfterHead
place_after_element AfterHead = AfterBody
place_after_element BeforeBody = AfterBody
place_after_element InHead = AfterTitle
place_after_element place = place

-- and after a text
abbrev pub place_after_text : PlainPlace → PlainPlace
place_after_text AfterHead = BeforeBody
place_after_text place = place

-- which texts may stand in a place
abbrev pub text_kind : PlainPlace → TextKind
text_kind AfterHead = WhiteSpace
text_kind InHead = WhiteSpace
text_kind AfterTitle = WhiteSpace
text_kind InTitle = AnyText
text_kind InFlow = AnyText
text_kind (InLine in_link) = AnyText
text_kind InList = WhiteSpace
text_kind InTable = WhiteSpace
text_kind InTableBody = WhiteSpace
text_kind InRow = WhiteSpace
text_kind _ = NoText

-- whether comments may stand in a place
abbrev pub takes_comments : PlainPlace → Bool
takes_comments InFlow = true
takes_comments _ = false

-- whether the children may end here
abbrev pub may_end : PlainPlace → Bool
may_end BeforeDoctype = false
may_end BeforeRoot = false
may_end BeforeHead = false
may_end AfterHead = false
may_end BeforeBody = false
may_end place = true
