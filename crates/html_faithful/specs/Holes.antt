-- Holes in documents, as page templates have them: some siblings, the text of an element or a tag's attributes are left open.
use Rattle.std.specs.Prelude.{◌≡◌, ℕ, Bool, true, false, cond, ◌&&◌, ◌||◌, not, List, [], ◌∷◌, Option, Some, None, is_none}
use Rattle.std.specs.Str.{bytes_eq}
use Rattle.markup.specs.Trees.{Trees, Nothing, Text, Comment, ProcessingInstruction, Doctype, Element}
use Rattle.markup.specs.declared.attributes.Attribute.{Attribute}
use Rattle.markup.specs.declared.names.QualName.{QualName}
use Rattle.markup.specs.declared.quirks.QuirksMode.TheVariants.{NoQuirks, Quirks}
use Rattle.html_tokens.specs.declared.states.RawKind.{RawKind}
use Rattle.html_rules.specs.Choice.{choose}
use Rattle.html_rules.specs.ForeignContent.{is_html_element}
use Rattle.html_rules.specs.State.{current_is}
use Rattle.html_rules.specs.declared.insertion_mode.InsertionMode.{InsertionMode}
use Rattle.html_rules.specs.declared.insertion_mode.InsertionMode.TheVariants as mode
use Rattle.html_rules.specs.declared.rules.Rules.{Rules}
use Rattle.html_faithful.specs.Forms.{is_kept, is_raw_text, lowered}
use Rattle.html_faithful.specs.Harmless.{Made, and_then}
use Rattle.html_faithful.specs.Spots.{Spot}
use Rattle.html_faithful.specs.Walk.{OfDocument, Parent, are_none, below, comment_put, first_spot, is_current, is_faithful_by}
use Rattle.html_faithful.specs.Walk.{is_raw_inside, is_void}
use Rattle.html_faithful.specs.Walk.{started, text_put, walk}

-- trees, and others after them
abbrev pub joined : Trees → Trees → Trees
joined Nothing behind = behind
joined (Text text rest) behind = Text text (joined rest behind)
joined (Comment text rest) behind = Comment text (joined rest behind)
joined (ProcessingInstruction target text rest) behind = ProcessingInstruction target text (joined rest behind)
joined (Doctype name public_id system_id rest) behind = Doctype name public_id system_id (joined rest behind)
joined (Element name attributes template kids rest) behind = Element name attributes template kids (joined rest behind)

-- trees with a hole: the hole and what follows it; or the hole is in an element, or behind a node
pub data Holed : Type 0 where
  Here : (behind : Trees) → Holed
  Within : (name : QualName) (attributes : List Attribute) (template : Bool) (hole : Holed) (behind : Trees) → Holed
  AfterText : (text : List ℕ) (hole : Holed) → Holed
  AfterComment : (text : List ℕ) (hole : Holed) → Holed
  AfterDoctype : (name public_id system_id : List ℕ) (hole : Holed) → Holed
  AfterElement : (name : QualName) (attributes : List Attribute) (template : Bool) (kids : Trees) (hole : Holed) → Holed

-- the trees, with a value in the hole
abbrev pub filled : Holed → Trees → Trees
filled (Here behind) value = joined value behind
filled (Within name attributes template hole behind) value = Element name attributes template (filled hole value) behind
filled (AfterText text hole) value = Text text (filled hole value)
filled (AfterComment text hole) value = Comment text (filled hole value)
filled (AfterDoctype name public_id system_id hole) value = Doctype name public_id system_id (filled hole value)
filled (AfterElement name attributes template kids hole) value = Element name attributes template kids (filled hole value)

-- WHERE A HOLE IS

-- the raw text, or escapable raw text, in which a hole is: its kind, and the element's name
pub record Raw : Type 0 where
  pub kind : RawKind
  pub name : List ℕ

-- What is known of a hole: what a value stands in and at which spot, whether a text is just before it, whether a line feed that comes
-- first is dropped, the raw text that it is in, and what follows.
pub record Hole : Type 0 where
  pub parent : Parent
  pub spot : Spot
  pub after_text : Bool
  pub drops : Bool
  pub raw : Option Raw
  pub behind : Trees

abbrev pub raw_of : QualName → Option RawKind → Option Raw
raw_of name None = None
raw_of name (Some kind) = Some (record { kind = kind; name = name.local })

abbrev pub is_here : Holed → Bool
is_here (Here behind) = true
is_here hole = false

-- Found by a walk of what is before it. There is none in a void element, nor behind a node in raw text.
abbrev pub hole_at : Bool → Parent → Bool → Bool → Option Raw → Holed → Spot → Option Hole
hole_at scripting parent after_text drops raw (Here behind) p =
    Some (record { parent = parent; spot = p; after_text = after_text; drops = drops; raw = raw; behind = behind })
hole_at scripting parent after_text drops raw (Within name attributes template hole behind) p =
    choose (is_void name) (λ _. None)
    (λ _. and_then (started name attributes template p)
    (λ made. choose (is_none made.raw || is_here hole)
    (λ _. hole_at scripting (below parent) false made.drops_line_feed (raw_of name made.raw) hole made.spot) (λ _. None)))
hole_at scripting parent after_text drops raw (AfterText text hole) p =
    and_then (text_put text p) (λ p. hole_at scripting parent true false None hole p)
hole_at scripting parent after_text drops raw (AfterComment text hole) p =
    and_then (comment_put parent text p) (λ p. hole_at scripting parent false false None hole p)
hole_at scripting parent after_text drops raw (AfterDoctype name public_id system_id hole) p = None
hole_at scripting parent after_text drops raw (AfterElement name attributes template kids hole) p =
    and_then (walk scripting parent false false (Element name attributes template kids Nothing) p)
    (λ p. hole_at scripting parent false false None hole p)

abbrev pub hole_from : Bool → Holed → Spot → Option Hole
hole_from scripting holed p = hole_at scripting OfDocument false false None holed p

-- in a document: behind comments and a doctype, or with no doctype before it
abbrev pub hole_of : Rules → Bool → Holed → Option Hole
hole_of rules scripting (AfterComment text hole) = hole_of rules scripting hole
hole_of rules scripting (AfterDoctype name public_id system_id hole) = hole_from scripting hole (first_spot rules scripting NoQuirks)
hole_of rules scripting (Within name attributes template hole behind) =
    hole_from scripting (Within name attributes template hole behind) (first_spot rules scripting Quirks)
hole_of rules scripting (AfterElement name attributes template kids hole) =
    hole_from scripting (AfterElement name attributes template kids hole) (first_spot rules scripting Quirks)
hole_of rules scripting holed = None

-- VALUES THAT ARE ALIKE

abbrev pub begins_with_text : Trees → Bool
begins_with_text (Text text rest) = true
begins_with_text trees = false

-- whether a text is just before what follows trees
abbrev pub ends_in_text : Bool → Trees → Bool
ends_in_text after_text Nothing = after_text
ends_in_text after_text (Text text rest) = ends_in_text true rest
ends_in_text after_text (Comment text rest) = ends_in_text false rest
ends_in_text after_text (ProcessingInstruction target text rest) = ends_in_text false rest
ends_in_text after_text (Doctype name public_id system_id rest) = ends_in_text false rest
ends_in_text after_text (Element name attributes template kids rest) = ends_in_text false rest

-- whether a line feed would still be dropped there
abbrev pub still_drops : Bool → Trees → Bool
still_drops drops Nothing = drops
still_drops drops trees = false

-- whether a value is read as it is written, where it is in raw text
abbrev pub fits_raw : Hole → Trees → Bool
fits_raw hole value = elim hole.raw as (λ _. Bool) [
  | None ↦ true
  | Some raw ↦ bytes_eq (lowered raw.name) raw.name && is_raw_inside raw.kind raw.name (joined value hole.behind)
]

-- Two values are alike in a hole: from its spot they walk to one spot; in raw text both are read as they are written, or neither; and
-- where a text follows, both end in a text or neither.
pub record AreAlike (scripting : Bool) (hole : Hole) (a b : Trees) : Type 0 where
  pub walked : walk scripting hole.parent hole.after_text hole.drops a hole.spot
      ≡ walk scripting hole.parent hole.after_text hole.drops b hole.spot
  pub raw : fits_raw hole a ≡ fits_raw hole b
  pub ends : begins_with_text hole.behind ≡ true → ends_in_text hole.after_text a ≡ ends_in_text hole.after_text b
  pub drops : begins_with_text hole.behind ≡ true → still_drops hole.drops a ≡ still_drops hole.drops b

-- With one such value in place of another, trees walk as before; and a document is as faithful as before.
pub record AreHolesFilled : Type 0 where
  pub trees : (scripting : Bool) (parent : Parent) (after_text drops : Bool) (raw : Option Raw) (holed : Holed) (p : Spot) (hole : Hole)
      (a b : Trees) → hole_at scripting parent after_text drops raw holed p ≡ Some hole → AreAlike scripting hole a b
      → walk scripting parent after_text drops (filled holed a) p ≡ walk scripting parent after_text drops (filled holed b) p
  pub documents : (rules : Rules) (scripting : Bool) (holed : Holed) (hole : Hole) (a b : Trees)
      → hole_of rules scripting holed ≡ Some hole → AreAlike scripting hole a b
      → is_faithful_by rules scripting (filled holed a) ≡ is_faithful_by rules scripting (filled holed b)

-- TEXTS

-- a value that is text
abbrev pub text_value : List ℕ → Trees
text_value [] = Nothing
text_value (c ∷ cs) = Text (c ∷ cs) Nothing

-- in the body, or in a cell
abbrev pub is_flow_mode : InsertionMode → Bool
is_flow_mode mode.InBody = true
is_flow_mode mode.InCell = true
is_flow_mode m = false

abbrev pub is_text_mode : InsertionMode → Bool
is_text_mode mode.Text = true
is_text_mode m = false

-- A hole for text: no text is beside it, and no line feed is dropped there. It is in the body, in HTML, after the first thing that rules
-- out a frameset; or it is all that is in an element of raw text or escapable raw text.
abbrev pub is_text_hole : Hole → Bool
is_text_hole hole =
    not hole.after_text && not hole.drops && not (begins_with_text hole.behind)
    && current_is is_html_element hole.spot.path && is_current hole.parent hole.spot
    && cond (is_none hole.raw) (is_flow_mode hole.spot.mode && not hole.spot.frameset_ok)
    (is_text_mode hole.spot.mode && are_none hole.behind)

-- Whether a text is read as it is written: in raw text, as of `script` and `style`, nothing is escaped, so it must not end the element.
abbrev pub is_text_fit : Hole → List ℕ → Bool
is_text_fit hole text = elim hole.raw as (λ _. Bool) [ None ↦ true | Some raw ↦ is_raw_text raw.kind raw.name text ]

-- In such a hole any two texts are alike that have no U+0000 and no U+000D, and in raw text where both fit it or neither does.
abbrev pub AreTextsAlike : Type 0
AreTextsAlike = (scripting : Bool) (hole : Hole) → is_text_hole hole ≡ true → (a b : List ℕ) → is_kept a ≡ true → is_kept b ≡ true
    → is_text_fit hole a ≡ is_text_fit hole b → AreAlike scripting hole (text_value a) (text_value b)

-- ATTRIBUTES

-- two start tags of an element are taken alike, but for the attributes that they put
pub record AreTagsAlike (name : QualName) (template : Bool) (p : Spot) (a b : List Attribute) : Type 0 where
  pub first : Made
  pub second : Made
  pub first_made : started name a template p ≡ Some first
  pub second_made : started name b template p ≡ Some second
  pub spot : first.spot ≡ second.spot
  pub raw : first.raw ≡ second.raw
  pub drops : first.drops_line_feed ≡ second.drops_line_feed

-- So an element with some attributes, as where a value is put into one, is like the same element with others.
abbrev pub AreAttributesAlike : Type 0
AreAttributesAlike = (scripting : Bool) (hole : Hole) (name : QualName) (template : Bool) (kids : Trees) (a b : List Attribute)
    → AreTagsAlike name template hole.spot a b
    → AreAlike scripting hole (Element name a template kids Nothing) (Element name b template kids Nothing)
