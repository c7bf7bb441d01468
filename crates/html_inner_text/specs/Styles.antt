-- The display and the white space of elements in the style sheet of the HTML Standard (section 15.3), without a layout.
use Rattle.std.specs.Prelude.{◌≡◌, ℕ, ◌||◌, ◌&&◌, Bool, true, false, cond, not, List, [], ◌∷◌, Option, Some, None, is_some, codes}
use Rattle.std.specs.Prelude.{encode_utf8_all, map}
use Rattle.std.specs.Char.{to_ascii_lowercase}
use Rattle.std.specs.Str.{bytes_eq}
use Rattle.markup.specs.Forest.{Forest, data_of, element_name, parent_of}
use Rattle.markup.specs.Namespaces.{name_of}
use Rattle.markup.specs.Trees.{is_among}
use Rattle.markup.specs.declared.names.QualName.{QualName}
use Rattle.markup.specs.declared.namespaces.KnownNamespace.TheVariants.{Html}
use Rattle.markup.specs.declared.quirks.QuirksMode.{QuirksMode}
use Rattle.markup.specs.declared.quirks.QuirksMode.TheVariants.{Quirks}
use Rattle.html_nodes.specs.Looks.{attribute_of}
use Rattle.html_inner_text.specs.declared.kinds.Kind.{Kind}
use Rattle.html_inner_text.specs.declared.kinds.Kind.TheVariants.{Inline, NotRendered, Replaced, InlineBlock, LineBreak, Block}
use Rattle.html_inner_text.specs.declared.kinds.Kind.TheVariants.{Paragraph, Cell, Row, TablePart}
use Rattle.html_inner_text.specs.declared.styles.OwnStyle.{OwnStyle}
pub use Rattle.html_inner_text.specs.declared.styles.Style.{Style}

-- NAMES

-- `display: none` (section 15.3.1, and 15.4.1 for `audio`, which is below); `noscript` is as where scripts run
abbrev pub not_rendered_names : List (List ℕ)
not_rendered_names =
    codes "area" ∷ codes "base" ∷ codes "basefont" ∷ codes "datalist" ∷ codes "head" ∷ codes "link" ∷ codes "meta" ∷ codes "noembed"
    ∷ codes "noframes" ∷ codes "noscript" ∷ codes "param" ∷ codes "rp" ∷ codes "script" ∷ codes "style" ∷ codes "template" ∷
    codes "title" ∷ []

-- `display: block`, `list-item`, `table` or `table-caption` (sections 15.3.2, 15.3.3, 15.3.7, 15.3.8, 15.3.11 and 15.5); `p` is apart
abbrev pub block_names : List (List ℕ)
block_names =
    codes "address" ∷ codes "article" ∷ codes "aside" ∷ codes "blockquote" ∷ codes "body" ∷ codes "caption" ∷ codes "center" ∷ codes "dd"
    ∷ codes "details" ∷ codes "dialog" ∷ codes "dir" ∷ codes "div" ∷ codes "dl" ∷ codes "dt" ∷ codes "fieldset" ∷
    codes "figcaption" ∷ codes "figure" ∷ codes "footer" ∷ codes "form" ∷ codes "frame" ∷ codes "frameset" ∷ codes "h1" ∷ codes "h2" ∷
    codes "h3" ∷ codes "h4" ∷ codes "h5" ∷ codes "h6" ∷ codes "header" ∷ codes "hgroup" ∷ codes "hr" ∷ codes "html" ∷ codes "legend" ∷
    codes "li" ∷ codes "listing" ∷ codes "main" ∷ codes "menu" ∷ codes "nav" ∷ codes "ol" ∷ codes "optgroup" ∷ codes "option" ∷
    codes "plaintext" ∷ codes "pre" ∷ codes "search" ∷ codes "section" ∷ codes "summary" ∷ codes "table" ∷ codes "ul" ∷ codes "xmp" ∷ []

-- replaced elements (section 15.4), and form controls that show a value in place of what is in them
abbrev pub replaced_names : List (List ℕ)
replaced_names =
    codes "audio" ∷ codes "canvas" ∷ codes "embed" ∷ codes "iframe" ∷ codes "img" ∷ codes "input" ∷ codes "meter" ∷ codes "progress" ∷
    codes "video" ∷ []

-- `display: inline-block` (sections 15.3.12 and 15.5)
abbrev pub inline_block_names : List (List ℕ)
inline_block_names = codes "button" ∷ codes "marquee" ∷ codes "textarea" ∷ []

-- the parts of a table (section 15.3.8): `display: table-cell`, and those that hold rows or columns
abbrev pub cell_names : List (List ℕ)
cell_names = codes "td" ∷ codes "th" ∷ []

abbrev pub table_part_names : List (List ℕ)
table_part_names = codes "col" ∷ codes "colgroup" ∷ codes "tbody" ∷ codes "tfoot" ∷ codes "thead" ∷ []

-- `white-space: pre` or `pre-wrap` (sections 15.3.3 and 15.5)
abbrev pub preserving_names : List (List ℕ)
preserving_names = codes "listing" ∷ codes "plaintext" ∷ codes "pre" ∷ codes "textarea" ∷ codes "xmp" ∷ []

-- elements of SVG and of MathML that are never rendered directly (SVG 2, section 5.1; MathML Core, section 4.1)
abbrev pub foreign_names : List (List ℕ)
foreign_names =
    codes "annotation" ∷ codes "annotation-xml" ∷ codes "clipPath" ∷ codes "defs" ∷ codes "desc" ∷ codes "linearGradient" ∷ codes "marker"
    ∷ codes "mask" ∷ codes "metadata" ∷ codes "pattern" ∷ codes "radialGradient" ∷ codes "script" ∷ codes "style" ∷ codes "symbol" ∷
    codes "title" ∷ []

-- KINDS

unfoldable pub kind_named : List ℕ → Kind
kind_named local =
    cond (is_among local block_names) Block
    (cond (is_among local not_rendered_names) NotRendered
    (cond (is_among local replaced_names) Replaced
    (cond (is_among local inline_block_names) InlineBlock
    (cond (is_among local cell_names) Cell
    (cond (is_among local table_part_names) TablePart
    (cond (bytes_eq local (codes "p")) Paragraph
    (cond (bytes_eq local (codes "tr")) Row
    (cond (bytes_eq local (codes "br")) LineBreak Inline))))))))

abbrev pub has : Forest → ℕ → List ℕ → Bool
has f n attribute = is_some (attribute_of f n attribute)

-- whether there is a value, which is `hidden` in any case
abbrev pub is_hidden_type : Option (List ℕ) → Bool
is_hidden_type None = false
is_hidden_type (Some value) = bytes_eq (map to_ascii_lowercase (encode_utf8_all value)) (codes "hidden")

-- whether what an HTML element of this name has for attributes keeps it from being rendered (sections 6.1, 15.3.1, 15.3.3 and 15.4.1)
unfoldable pub is_hidden : Forest → ℕ → List ℕ → Bool
is_hidden f n local =
    has f n (codes "hidden") || ((bytes_eq local (codes "dialog") && not (has f n (codes "open")))
    || ((bytes_eq local (codes "audio") && not (has f n (codes "controls")))
    || (bytes_eq local (codes "input") && is_hidden_type (attribute_of f n (codes "type")))))

abbrev pub html_kind : Forest → ℕ → List ℕ → Kind
html_kind f n local = cond (is_hidden f n local) NotRendered (kind_named local)

-- a drawing is a box in the line, and each text in it a block (SVG 2, sections 11.1 and 12.4)
abbrev pub foreign_kind : List ℕ → Kind
foreign_kind local =
    cond (is_among local foreign_names) NotRendered
    (cond (bytes_eq local (codes "svg")) InlineBlock
    (cond (bytes_eq local (codes "text") || bytes_eq local (codes "foreignObject")) Block Inline))

abbrev pub kind_by : Forest → ℕ → Option QualName → Kind
kind_by f n None = Inline
kind_by f n (Some name) =
    cond (bytes_eq name.ns (name_of Html)) (html_kind f n (encode_utf8_all name.local)) (foreign_kind (encode_utf8_all name.local))

-- how a node takes part in the layout, by its own style; what is no element is as one that is inline
abbrev pub kind_of : Forest → ℕ → Kind
kind_of f n = kind_by f n (element_name (data_of f n))

-- WHITE SPACE

abbrev pub is_quirks : QuirksMode → Bool
is_quirks Quirks = true
is_quirks _ = false

-- `white-space: nowrap` (`nobr`, and cells with `nowrap`), and `initial` (tables in quirks mode, section 15.3.8)
unfoldable pub collapses : Forest → ℕ → List ℕ → Bool
collapses f n local =
    bytes_eq local (codes "nobr") || ((is_among local cell_names && has f n (codes "nowrap"))
    || (bytes_eq local (codes "table") && is_quirks f.quirks))

abbrev pub html_white_space : Forest → ℕ → List ℕ → Option Bool
html_white_space f n local = cond (is_among local preserving_names) (Some true) (cond (collapses f n local) (Some false) None)

abbrev pub white_space_by : Forest → ℕ → Option QualName → Option Bool
white_space_by f n None = None
white_space_by f n (Some name) = cond (bytes_eq name.ns (name_of Html)) (html_white_space f n (encode_utf8_all name.local)) None

-- whether white space is preserved in a node, where it is not inherited
abbrev pub white_space : Forest → ℕ → Option Bool
white_space f n = white_space_by f n (element_name (data_of f n))

-- INHERITANCE

-- whether what is in such an element is rendered
abbrev pub renders_inside : Kind → Bool
renders_inside NotRendered = false
renders_inside Replaced = false
renders_inside _ = true

abbrev pub own : Forest → ℕ → OwnStyle
own f n = record { rendered = renders_inside (kind_of f n); preserves = white_space f n }

abbrev pub value_or : Option Bool → Bool → Bool
value_or None inherited = inherited
value_or (Some value) inherited = value

-- the style in an element, from its own and the one that it inherits
abbrev pub under : OwnStyle → Style → Style
under o s = record { rendered = o.rendered && s.rendered; preserves = value_or o.preserves s.preserves }

abbrev pub inside : Forest → Style → ℕ → Style
inside f s n = under (own f n) s

abbrev pub initial : Style
initial = record { rendered = true; preserves = false }

-- the style that a node inherits
pub data Inherits (f : Forest) : ℕ → Style → Type 0 where
  top : {n : ℕ} → parent_of f n ≡ None → Inherits f n initial
  child : {n p : ℕ} {s : Style} → parent_of f n ≡ Some p → Inherits f p s → Inherits f n (inside f s p)
