-- Page templates with any number of holes, which are checked once.
use Rattle.std.specs.Prelude.{◌≡◌, ℕ, Bool, true, false, cond, ◌&&◌, ◌||◌, not, List, [], ◌∷◌, ◌++◌, map, Option, Some, None, codes}
use Rattle.std.specs.Prelude.{is_none}
use Rattle.std.specs.List.{list_all}
use Rattle.std.specs.Str.{bytes_eq}
use Rattle.markup.specs.Trees.{Trees, Doctype}
use Rattle.markup.specs.Trees as trees
use Rattle.markup.specs.declared.attributes.Attribute.{Attribute}
use Rattle.markup.specs.declared.names.QualName.{QualName}
use Rattle.markup.specs.declared.quirks.QuirksMode.TheVariants.{NoQuirks}
use Rattle.html_plain.specs.Frames.{text_before}
use Rattle.html_plain.specs.Grammar.{is_plain}
use Rattle.html_plain.specs.declared.place.PlainPlace.{PlainPlace}
use Rattle.html_rules.specs.Choice.{choose}
use Rattle.html_rules.specs.ForeignContent.{is_html_element}
use Rattle.html_rules.specs.State.{current_is}
use Rattle.html_tokens.specs.declared.states.RawKind.{RawKind}
use Rattle.html_rules.specs.declared.rules.Rules.TheVariants.{Html5ever}
use Rattle.html_faithful.specs.Forms.{is_comment_text, is_kept, is_raw_text, lowered, told_attribute}
use Rattle.html_faithful.specs.Harmless.{and_then}
use Rattle.html_faithful.specs.Holes.{is_flow_mode, is_text_mode, joined}
use Rattle.html_faithful.specs.Spots.{Spot}
use Rattle.html_faithful.specs.Walk.{OfDocument, Parent, below, comment_put, finished, first_spot, is_at_end, is_current, is_faithful}
use Rattle.html_faithful.specs.Walk.{is_rcdata, is_text, is_void, is_written_so, may_stay, started, text_put}
use Rattle.html_faithful_plain.specs.PlainHoles.{holds_plain, is_flow, is_in_current, is_line}

-- a part of a text: characters, or a hole for a text, by its number
pub data Part : Type 0 where
  Fixed : (text : List ℕ) → Part
  Hole : (n : ℕ) → Part

-- an attribute, whose value may have holes
pub record Slot : Type 0 where
  pub name : QualName
  pub value : List Part

-- trees with holes: in texts, in values of attributes, and for plain trees
pub data Template : Type 0 where
  Nothing : Template
  Text : (parts : List Part) (rest : Template) → Template
  Comment : (text : List ℕ) (rest : Template) → Template
  Plain : (place : PlainPlace) (n : ℕ) (rest : Template) → Template
  Element : (name : QualName) (slots : List Slot) (template : Bool) (kids rest : Template) → Template

-- what is put into the holes
pub record Values : Type 0 where
  pub text : ℕ → List ℕ
  pub plain : ℕ → Trees

-- THE FILLED PAGE

abbrev pub text_with : Values → List Part → List ℕ
text_with values [] = []
text_with values (Fixed text ∷ parts) = text ++ text_with values parts
text_with values (Hole n ∷ parts) = values.text n ++ text_with values parts

abbrev pub attribute_with : Values → Slot → Attribute
attribute_with values slot = record { name = slot.name; value = text_with values slot.value }

-- a text that is empty is left out
abbrev pub filled : Values → Template → Trees
filled values Nothing = trees.Nothing
filled values (Text parts rest) = text_before (text_with values parts) (filled values rest)
filled values (Comment text rest) = trees.Comment text (filled values rest)
filled values (Plain place n rest) = joined (values.plain n) (filled values rest)
filled values (Element name slots template kids rest) =
    trees.Element name (map (attribute_with values) slots) template (filled values kids) (filled values rest)

-- nothing in the holes
abbrev pub no_values : Values
no_values = record { text = λ n. []; plain = λ n. trees.Nothing }

-- THE CHECK

abbrev pub are_fixed : List Part → Bool
are_fixed [] = true
are_fixed (Fixed text ∷ parts) = are_fixed parts
are_fixed (Hole n ∷ parts) = false

abbrev pub are_kept : List Part → Bool
are_kept [] = true
are_kept (Fixed text ∷ parts) = is_kept text && are_kept parts
are_kept (Hole n ∷ parts) = are_kept parts

-- the attributes whose values rules look at have no holes
abbrev pub is_asked : Slot → Bool
is_asked slot =
    let name = (told_attribute (attribute_with no_values slot)).name.local in
    bytes_eq name (codes "type") || bytes_eq name (codes "shadowrootmode")

abbrev pub is_slot : Slot → Bool
is_slot slot = are_kept slot.value && (are_fixed slot.value || not (is_asked slot))

-- a spot where any text is only put
abbrev pub takes_text : Parent → Spot → Bool
takes_text parent p = current_is is_html_element p.path && is_current parent p
    && ((is_flow_mode p.mode && not p.frameset_ok) || is_text_mode p.mode)

-- what stands in raw text, or in escapable raw text, which alone may have holes
abbrev pub fits_kind : RawKind → List ℕ → Template → Bool
fits_kind kind name Nothing = is_raw_text kind name []
fits_kind kind name (Text parts Nothing) =
    cond (are_fixed parts) (is_raw_text kind name (text_with no_values parts)) (is_rcdata kind && is_raw_text kind name [])
fits_kind kind name kids = false

abbrev pub fits_raw : QualName → Template → Option RawKind → Bool
fits_raw name kids None = true
fits_raw name kids (Some kind) = bytes_eq (lowered name.local) name.local && fits_kind kind name.local kids

abbrev pub is_nothing : Template → Bool
is_nothing Nothing = true
is_nothing t = false

-- As trees are walked, with nothing in the holes. Behind a hole no text stands.
unfoldable pub checked : Bool → Parent → Bool → Bool → Template → Spot → Option Spot
checked scripting parent after_text drops Nothing p = Some p
checked scripting parent after_text drops (Text parts rest) p =
    choose (are_fixed parts)
    (λ _. choose (is_text after_text drops (text_with no_values parts) && is_current parent p)
    (λ _. and_then (text_put (text_with no_values parts) p) (λ p. checked scripting parent true false rest p)) (λ _. None))
    (λ _. choose (not after_text && not drops && are_kept parts && takes_text parent p)
    (λ _. checked scripting parent true false rest p) (λ _. None))
checked scripting parent after_text drops (Comment text rest) p =
    choose (is_comment_text text)
    (λ _. and_then (comment_put parent text p) (λ p. checked scripting parent false false rest p)) (λ _. None)
checked scripting parent after_text drops (Plain place n rest) p =
    choose (not after_text && not drops && is_in_current parent && (is_flow place || is_line place) && holds_plain place p)
    (λ _. checked scripting parent true false rest p) (λ _. None)
checked scripting parent after_text drops (Element name slots template kids rest) p =
    choose (is_current parent p && may_stay parent name && list_all is_slot slots)
    (λ _. and_then (started name (map (attribute_with no_values) slots) template p)
    (λ made. choose (is_written_so scripting name made.raw)
    (λ _. and_then (choose (is_void name)
    (λ _. choose (is_nothing kids && not made.drops_line_feed && is_none made.raw) (λ _. Some made.spot) (λ _. None))
    (λ _. choose (fits_raw name kids made.raw)
    (λ _. and_then (checked scripting (below parent) false made.drops_line_feed kids made.spot) (λ p. finished name p)) (λ _. None)))
    (λ p. checked scripting parent false false rest p))
    (λ _. None)))
    (λ _. None)

-- a template of a page, with the doctype `html` before it
abbrev pub is_template : Bool → Template → Bool
is_template scripting page = is_at_end (checked scripting OfDocument false false page (first_spot Html5ever scripting NoQuirks))

abbrev pub page_with : Values → Template → Trees
page_with values page = Doctype (codes "html") [] [] (filled values page)

-- the trees that are put in are plain where they come
abbrev pub ArePlainValues : Values → Template → Type 0
ArePlainValues values Nothing = Unit {0}
ArePlainValues values (Text parts rest) = ArePlainValues values rest
ArePlainValues values (Comment text rest) = ArePlainValues values rest
ArePlainValues values (Plain place n rest) = (is_plain place false (values.plain n) ≡ true) × ArePlainValues values rest
ArePlainValues values (Element name slots template kids rest) = ArePlainValues values kids × ArePlainValues values rest

-- A template that passes the check is faithful with whatever is put into its holes: texts and values without U+0000 and U+000D, and
-- plain trees.
abbrev pub AreTemplatesFilled : Type 0
AreTemplatesFilled = (scripting : Bool) (page : Template) (values : Values) → is_template scripting page ≡ true
    → ((n : ℕ) → is_kept (values.text n) ≡ true) → ArePlainValues values page
    → is_faithful scripting (page_with values page) ≡ true
