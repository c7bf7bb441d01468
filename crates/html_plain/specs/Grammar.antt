-- The plain grammar: which trees are read back as they are written.
use lib.Utf8.{scalar}
use Rattle.std.specs.Prelude.{◌≡◌, ℕ, Bool, true, false, ◌&&◌, ◌||◌, not, nat_eq, List, [], ◌∷◌, Option, Some, None, is_none, codes}
use Rattle.std.specs.Char.{is_ascii_lowercase, is_ascii_digit}
use Rattle.std.specs.List.{list_all}
use Rattle.std.specs.Str.{bytes_eq}
pub use Rattle.markup.specs.Attributes.{are_distinct, has_local_name}
use Rattle.markup.specs.Forest.{Forest, children_of}
use Rattle.markup.specs.Trees.{Trees, Nothing, Text, Comment, ProcessingInstruction, Doctype, Element, trees_of}
use Rattle.markup.specs.declared.attributes.Attribute.{Attribute}
use Rattle.markup.specs.declared.names.QualName.{QualName}
use Rattle.html_plain.specs.Elements.{place_after_element, place_after_text, element_of, holds, html_name, inside, may_end}
use Rattle.html_plain.specs.Elements.{spelled, takes_comments, text_kind}
use Rattle.html_plain.specs.declared.place.TextKind.{TextKind}
use Rattle.html_plain.specs.declared.place.TextKind.TheVariants.{NoText, WhiteSpace, AnyText}
use Rattle.html_plain.specs.declared.elements.PlainElement.{PlainElement}
use Rattle.html_plain.specs.declared.place.PlainPlace.{PlainPlace}
use Rattle.html_plain.specs.declared.place.PlainPlace.TheVariants.{BeforeDoctype, BeforeRoot}

-- TEXTS AND ATTRIBUTES

-- a character, that is a scalar value of Unicode, but for U+0000 and a carriage return
abbrev pub is_plain_character : ℕ → Bool
is_plain_character c = (not (nat_eq c 0) && not (nat_eq c 13)) && scalar c

-- a tab, a line feed, a form feed or a space
abbrev pub is_white : ℕ → Bool
is_white c = nat_eq c 9 || nat_eq c 10 || nat_eq c 12 || nat_eq c 32

abbrev pub is_empty : List ℕ → Bool
is_empty [] = true
is_empty (c ∷ cs) = false

abbrev pub is_plain_text : List ℕ → Bool
is_plain_text text = not (is_empty text) && list_all is_plain_character text

-- a plain character, but for a hyphen, "<" and ">"
abbrev pub is_comment_character : ℕ → Bool
is_comment_character c = is_plain_character c && not (nat_eq c 45) && not (nat_eq c 60) && not (nat_eq c 62)

-- the text of a comment, which may be empty
abbrev pub is_plain_comment : List ℕ → Bool
is_plain_comment text = list_all is_comment_character text

-- a lower-case ASCII letter, a digit or a hyphen
abbrev pub is_name_character : ℕ → Bool
is_name_character c = is_ascii_lowercase c || is_ascii_digit c || nat_eq c 45

abbrev pub is_plain_name : List ℕ → Bool
is_plain_name name = not (is_empty name) && list_all is_name_character name

-- a name without prefix and namespace
abbrev pub is_unprefixed : QualName → Bool
is_unprefixed name = is_none name.prefix && is_empty name.ns

-- an attribute of such a name, and a value of plain characters
abbrev pub is_plain_attribute : Attribute → Bool
is_plain_attribute a = is_plain_name a.name.local && is_unprefixed a.name && list_all is_plain_character a.value

abbrev pub are_plain_attributes : List Attribute → Bool
are_plain_attributes attributes = list_all is_plain_attribute attributes && are_distinct attributes

abbrev pub takes_text : TextKind → List ℕ → Bool
takes_text NoText text = false
takes_text WhiteSpace text = list_all is_white text
takes_text AnyText text = true

-- a doctype of the name "html" alone
abbrev pub is_plain_doctype : List ℕ → List ℕ → List ℕ → Bool
is_plain_doctype name public_id system_id = bytes_eq name (codes "html") && (is_empty public_id && is_empty system_id)

abbrev pub is_first : PlainPlace → Bool
is_first BeforeDoctype = true
is_first _ = false

-- TREES, BY CASES

-- trees in a place, of which the first is no text if a text stands before them
abbrev pub IsPlain : PlainPlace → Bool → Trees → Type 0
IsPlain place after_text Nothing = may_end place ≡ true
IsPlain place after_text (Text text rest) = (after_text ≡ false) × (is_plain_text text ≡ true)
    × (takes_text (text_kind place) text ≡ true) × IsPlain (place_after_text place) true rest
IsPlain place after_text (Comment text rest) = (takes_comments place ≡ true) × (is_plain_comment text ≡ true) × IsPlain place false rest
IsPlain place after_text (ProcessingInstruction target text rest) = ⊥
IsPlain place after_text (Doctype name public_id system_id rest) = (place ≡ BeforeDoctype) × (name ≡ codes "html")
    × (public_id ≡ []) × (system_id ≡ []) × IsPlain BeforeRoot false rest
IsPlain place after_text (Element name attributes template kids rest) =
    (k : PlainElement)
    × ((name ≡ html_name (spelled k)) × (template ≡ false) × (holds place k ≡ true)
    × (are_plain_attributes attributes ≡ true) × IsPlain (inside place k) false kids × IsPlain (place_after_element place) false rest)

-- a plain document, by what stands in it
abbrev pub IsPlainDocument : Trees → Type 0
IsPlainDocument trees = IsPlain BeforeDoctype false trees

-- TREES, COMPUTED

-- whether there is an element, and it is so
abbrev pub is_some_and : Option PlainElement → (PlainElement → Bool) → Bool
is_some_and None test = false
is_some_and (Some k) test = test k

-- whether an element may stand in a place, apart from what stands in it
abbrev pub is_plain_start : PlainPlace → List Attribute → Bool → PlainElement → Bool
is_plain_start place attributes template k = holds place k && (not template && are_plain_attributes attributes)

unfoldable pub is_plain : PlainPlace → Bool → Trees → Bool
is_plain place after_text Nothing = may_end place
is_plain place after_text (Text text rest) =
    (not after_text && (is_plain_text text && takes_text (text_kind place) text)) && is_plain (place_after_text place) true rest
is_plain place after_text (Comment text rest) = (takes_comments place && is_plain_comment text) && is_plain place false rest
is_plain place after_text (ProcessingInstruction target text rest) = false
is_plain place after_text (Doctype name public_id system_id rest) =
    (is_first place && is_plain_doctype name public_id system_id) && is_plain BeforeRoot false rest
is_plain place after_text (Element name attributes template kids rest) =
    is_some_and (element_of name) (λ k. is_plain_start place attributes template k
    && (is_plain (inside place k) false kids && is_plain (place_after_element place) false rest))

abbrev pub is_plain_document : Trees → Bool
is_plain_document trees = is_plain BeforeDoctype false trees

-- whether a forest shows a plain document
abbrev pub is_plain_forest : Forest → Bool
is_plain_forest f = is_plain_document (trees_of f (children_of f 0))
