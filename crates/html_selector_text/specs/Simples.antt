-- What a compound selector begins with, as far as there are no selectors in it (Selectors Level 4, sections 5 to 14).
use Rattle.std.specs.Prelude.{ℕ, Bool, true, false, cond, not, ◌&&◌, ◌||◌, Option, Some, None, Result, Ok, Err}
use Rattle.std.specs.Prelude.{List, [], ◌∷◌, ◌++◌, drop, codes}
use Rattle.std.specs.Str.{bytes_eq}
use Rattle.markup.specs.declared.namespaces.KnownNamespace.{KnownNamespace}
use Rattle.markup.specs.declared.namespaces.KnownNamespace.TheVariants.{Html, Svg, MathMl, XLink, Xml, Xmlns, NoNamespace}
use Rattle.selectors.specs.declared.selector.AttributeTest.{AttributeTest}
use Rattle.selectors.specs.declared.selector.CaseSensitivity.{CaseSensitivity}
use Rattle.selectors.specs.declared.selector.CaseSensitivity.TheVariants.{AsHtml, Insensitive, Sensitive}
use Rattle.selectors.specs.declared.selector.NamespaceTest.{NamespaceTest}
use Rattle.selectors.specs.declared.selector.NamespaceTest.TheVariants.{Any, Only}
use Rattle.selectors.specs.declared.selector.Nth.{Nth}
use Rattle.selectors.specs.declared.selector.Operator.{Operator}
use Rattle.selectors.specs.declared.selector.Operator.TheVariants.{Present, Equal, Word, Hyphen, Prefix, Suffix, Substring}
use Rattle.selectors.specs.declared.selector.Simple.{Simple}
use Rattle.selectors.specs.declared.selector.Simple.TheVariants.{«Type», Namespace, Id, Class, Attribute, Root}
use Rattle.selectors.specs.declared.selector.Simple.TheVariants.{Scope, Empty, NthChild, NthOfType}
use Rattle.html_selector_text.specs.declared.fault.SyntaxFault.TheVariants.{NoName, UnknownPrefix, NoOperator, NoValue, NoBracket}
use Rattle.html_selector_text.specs.declared.fault.SyntaxFault.TheVariants.{NoParenthesis, UnknownPseudoClass, PseudoElement, HasInHas}
use Rattle.html_selector_text.specs.declared.simples.FunctionName.{FunctionName}
use Rattle.html_selector_text.specs.declared.simples.FunctionName.TheVariants.{MatchesAny, MatchesNone, Has, NthClass}
use Rattle.html_selector_text.specs.declared.simples.ListKind.TheVariants.{Plain, Forgiving, Relative}
use Rattle.html_selector_text.specs.declared.simples.Meaning.{Meaning}
use Rattle.html_selector_text.specs.declared.simples.Meaning.TheVariants.{Link, Checked, Disabled, Enabled, Required, Optional}
use Rattle.html_selector_text.specs.declared.simples.Part.{Part}
use Rattle.html_selector_text.specs.declared.simples.Part.TheVariants.{Nothing, One, Two, List as Argument, Stands}
use Rattle.html_selector_text.specs.declared.simples.Test.TheVariants.{Is, Not, NthOf}
use Rattle.html_selector_text.specs.declared.tokens.Token.{Token}
use Rattle.html_selector_text.specs.declared.tokens.TokenKind.{TokenKind}
use Rattle.html_selector_text.specs.declared.tokens.TokenKind.TheVariants.{Ident, Function, Hash, Str}
use Rattle.html_selector_text.specs.Results.{Wrong, ◌>>=◌}
use Rattle.html_selector_text.specs.Reading.{wrong, place, is_delim, ident_of, past_spaces, closes, past_close}
use Rattle.html_selector_text.specs.Scanning.{is_word}
use Rattle.html_selector_text.specs.Nth.{nth}

-- NAMESPACES (sections 5.3 and 6.4)

abbrev pub known_prefix : List ℕ → Option KnownNamespace
known_prefix name =
    cond (bytes_eq name (codes "html")) (Some Html)
    (cond (bytes_eq name (codes "svg")) (Some Svg)
    (cond (bytes_eq name (codes "math") || bytes_eq name (codes "mathml")) (Some MathMl)
    (cond (bytes_eq name (codes "xlink")) (Some XLink)
    (cond (bytes_eq name (codes "xml")) (Some Xml)
    (cond (bytes_eq name (codes "xmlns")) (Some Xmlns) None)))))

-- a bar that begins no operator
abbrev pub at_bar : List Token → Bool
at_bar tokens = is_delim 124 tokens && not (is_delim 61 (drop 1 tokens))

-- a namespace, if one is named, and what is left
abbrev pub PrefixRead : Type 0
PrefixRead = Result (Option NamespaceTest × List Token) Wrong

abbrev pub known_of : Option KnownNamespace → List Token → PrefixRead
known_of (Some known) tokens = Ok (Some (Only known), drop 2 tokens)
known_of None tokens = Err (wrong UnknownPrefix tokens)

abbrev pub prefix_named : Option (List ℕ) → List Token → PrefixRead
prefix_named (Some name) tokens = cond (at_bar (drop 1 tokens)) (known_of (known_prefix name) tokens) (Ok (None, tokens))
prefix_named None tokens = Ok (None, tokens)

-- <ns-prefix>
unfoldable pub prefix : List Token → PrefixRead
prefix tokens =
    cond (at_bar tokens) (Ok (Some (Only NoNamespace), drop 1 tokens))
    (cond (is_delim 42 tokens && at_bar (drop 1 tokens)) (Ok (Some Any, drop 2 tokens)) (prefix_named (ident_of tokens) tokens))

-- TYPE SELECTORS (sections 5.1 and 5.2)

abbrev pub namespace_simples : Option NamespaceTest → List Simple
namespace_simples (Some (Only known)) = Namespace known ∷ []
namespace_simples _ = []

-- simple selectors, and what is left
abbrev pub SimplesRead : Type 0
SimplesRead = Result (List Simple × List Token) Wrong

abbrev pub type_named : Option NamespaceTest → Option (List ℕ) → List Token → SimplesRead
type_named namespace (Some name) tokens = Ok (namespace_simples namespace ++ «Type» name ∷ [], drop 1 tokens)
type_named (Some namespace) None tokens = Err (wrong NoName tokens)
type_named None None tokens = Ok ([], tokens)

abbrev pub type_behind : Option NamespaceTest → List Token → SimplesRead
type_behind namespace tokens =
    cond (is_delim 42 tokens) (Ok (namespace_simples namespace, drop 1 tokens)) (type_named namespace (ident_of tokens) tokens)

-- <type-selector>, or nothing
unfoldable pub type_selector : List Token → SimplesRead
type_selector tokens = do
  p ← prefix tokens
  type_behind p.0 p.1

-- ATTRIBUTE SELECTORS (section 6)

abbrev pub OperatorRead : Type 0
OperatorRead = Result (Operator × List Token) Wrong

abbrev pub operator_sign : List Token → Option Operator
operator_sign tokens =
    cond (is_delim 126 tokens) (Some Word)
    (cond (is_delim 124 tokens) (Some Hyphen)
    (cond (is_delim 94 tokens) (Some Prefix)
    (cond (is_delim 36 tokens) (Some Suffix)
    (cond (is_delim 42 tokens) (Some Substring) None))))

abbrev pub operator_signed : Option Operator → List Token → OperatorRead
operator_signed (Some operator) tokens =
    cond (is_delim 61 (drop 1 tokens)) (Ok (operator, drop 2 tokens)) (Err (wrong NoOperator tokens))
operator_signed None tokens = Err (wrong NoOperator tokens)

-- <attr-matcher>
unfoldable pub operator_of : List Token → OperatorRead
operator_of tokens = cond (is_delim 61 tokens) (Ok (Equal, drop 1 tokens)) (operator_signed (operator_sign tokens) tokens)

abbrev pub value_kind : TokenKind → Option (List ℕ)
value_kind (Ident name) = Some name
value_kind (Str text) = Some text
value_kind _ = None

abbrev pub value_of : List Token → Option (List ℕ)
value_of [] = None
value_of (t ∷ ts) = value_kind t.kind

abbrev pub NameRead : Type 0
NameRead = Result (List ℕ × List Token) Wrong

abbrev pub named : Option (List ℕ) → List Token → NameRead
named (Some name) tokens = Ok (name, drop 1 tokens)
named None tokens = Err (wrong NoName tokens)

abbrev pub valued : Option (List ℕ) → List Token → NameRead
valued (Some value) tokens = Ok (value, drop 1 tokens)
valued None tokens = Err (wrong NoValue tokens)

abbrev pub CaseRead : Type 0
CaseRead = Result (CaseSensitivity × List Token) Wrong

-- <attr-modifier>
abbrev pub case_named : Option (List ℕ) → List Token → CaseRead
case_named (Some name) tokens =
    cond (is_word name (codes "i")) (Ok (Insensitive, drop 1 tokens))
    (cond (is_word name (codes "s")) (Ok (Sensitive, drop 1 tokens)) (Err (wrong NoBracket tokens)))
case_named None tokens = Ok (AsHtml, tokens)

-- a test of an attribute, and what is left
abbrev pub AttributeRead : Type 0
AttributeRead = Result (AttributeTest × List Token) Wrong

-- an attribute without a prefix has no namespace
abbrev pub namespace_or_none : Option NamespaceTest → NamespaceTest
namespace_or_none (Some namespace) = namespace
namespace_or_none None = Only NoNamespace

abbrev pub tested : NamespaceTest → List ℕ → Operator → List ℕ → CaseSensitivity → AttributeTest
tested namespace name operator value case =
    record { namespace = namespace; name = name; operator = operator; value = value; case = case }

abbrev pub closed_test : AttributeTest → List Token → AttributeRead
closed_test test tokens = cond (closes 93 tokens) (Ok (test, past_close tokens)) (Err (wrong NoBracket tokens))

unfoldable pub compared : NamespaceTest → List ℕ → List Token → AttributeRead
compared namespace name tokens = do
  operator ← operator_of tokens
  value ← valued (value_of (past_spaces operator.1)) (past_spaces operator.1)
  case ← case_named (ident_of (past_spaces value.1)) (past_spaces value.1)
  closed_test (tested namespace name operator.0 value.0 case.0) (past_spaces case.1)

-- <attribute-selector>, behind its first bracket
unfoldable pub attribute : List Token → AttributeRead
attribute tokens = do
  p ← prefix (past_spaces tokens)
  name ← named (ident_of p.1) p.1
  let next = past_spaces name.1
  cond (closes 93 next) (Ok (tested (namespace_or_none p.0) name.0 Present [] AsHtml, past_close next))
      (compared (namespace_or_none p.0) name.0 next)

-- PSEUDO-CLASSES (sections 8 to 14)

abbrev pub at_place : Bool → Nth → Nth
at_place from_end nth = record nth { from_end = from_end }

-- the first one from the start, or from the end
abbrev pub first : Bool → Nth
first from_end = record { first = 1; step = 0; descends = false; from_end = from_end }

-- those without arguments
abbrev pub plain_class : List ℕ → Part
plain_class name =
    cond (is_word name (codes "root")) (One Root)
    (cond (is_word name (codes "scope")) (One Scope)
    (cond (is_word name (codes "empty")) (One Empty)
    (cond (is_word name (codes "first-child")) (One (NthChild (first false)))
    (cond (is_word name (codes "last-child")) (One (NthChild (first true)))
    (cond (is_word name (codes "only-child")) (Two (NthChild (first false)) (NthChild (first true)))
    (cond (is_word name (codes "first-of-type")) (One (NthOfType (first false)))
    (cond (is_word name (codes "last-of-type")) (One (NthOfType (first true)))
    (cond (is_word name (codes "only-of-type")) (Two (NthOfType (first false)) (NthOfType (first true))) Nothing))))))))

-- those that stand for a selector of other parts
abbrev pub meaning_of : List ℕ → Option Meaning
meaning_of name =
    cond (is_word name (codes "link") || is_word name (codes "any-link")) (Some Link)
    (cond (is_word name (codes "checked")) (Some Checked)
    (cond (is_word name (codes "disabled")) (Some Disabled)
    (cond (is_word name (codes "enabled")) (Some Enabled)
    (cond (is_word name (codes "required")) (Some Required)
    (cond (is_word name (codes "optional")) (Some Optional) None)))))

-- a part, and what is left
abbrev pub PartRead : Type 0
PartRead = Result (Part × List Token) Wrong

-- the pseudo-elements that may be written with one colon (section 3.5)
abbrev pub unknown : List ℕ → List Token → PartRead
unknown name tokens =
    cond ((is_word name (codes "before") || is_word name (codes "after"))
    || (is_word name (codes "first-line") || is_word name (codes "first-letter")))
    (Err (wrong PseudoElement tokens)) (Err (wrong UnknownPseudoClass tokens))

abbrev pub meant : Option Meaning → List ℕ → List Token → PartRead
meant (Some meaning) name tokens = Ok (Stands meaning, drop 1 tokens)
meant None name tokens = unknown name tokens

abbrev pub class_or_meaning : Part → List ℕ → List Token → PartRead
class_or_meaning Nothing name tokens = meant (meaning_of name) name tokens
class_or_meaning part name tokens = Ok (part, drop 1 tokens)

unfoldable pub class_named : List ℕ → List Token → PartRead
class_named name tokens = class_or_meaning (plain_class name) name tokens

-- `of`, behind An+B
abbrev pub is_of : Option (List ℕ) → Bool
is_of (Some name) = is_word name (codes "of")
is_of None = false

abbrev pub nth_simple : Bool → Nth → Simple
nth_simple of_type nth = cond of_type (NthOfType nth) (NthChild nth)

abbrev pub nth_behind : Bool → Nth → List Token → PartRead
nth_behind of_type nth tokens =
    cond (closes 41 tokens) (Ok (One (nth_simple of_type nth), past_close tokens))
    (cond (not of_type && is_of (ident_of tokens)) (Ok (Argument (NthOf nth) Plain, drop 1 tokens)) (Err (wrong NoParenthesis tokens)))

-- An+B in parentheses, with `of` behind it only for children (section 13)
unfoldable pub nth_class : Bool → Bool → List Token → PartRead
nth_class of_type from_end tokens = do
  n ← nth (place tokens) (past_spaces (drop 1 tokens))
  nth_behind of_type (at_place from_end n.0) (past_spaces n.1)

-- those with arguments (sections 4.2 to 4.5 and 13)
abbrev pub function_of : List ℕ → Option FunctionName
function_of name =
    cond (is_word name (codes "is") || is_word name (codes "where")) (Some MatchesAny)
    (cond (is_word name (codes "not")) (Some MatchesNone)
    (cond (is_word name (codes "has")) (Some Has)
    (cond (is_word name (codes "nth-child")) (Some (NthClass false false))
    (cond (is_word name (codes "nth-last-child")) (Some (NthClass false true))
    (cond (is_word name (codes "nth-of-type")) (Some (NthClass true false))
    (cond (is_word name (codes "nth-last-of-type")) (Some (NthClass true true)) None))))))

-- selectors in parentheses are read next
abbrev pub function_part : Bool → Option FunctionName → List Token → PartRead
function_part in_has None tokens = Err (wrong UnknownPseudoClass tokens)
function_part in_has (Some MatchesAny) tokens = Ok (Argument Is Forgiving, drop 1 tokens)
function_part in_has (Some MatchesNone) tokens = Ok (Argument Not Plain, drop 1 tokens)
function_part in_has (Some Has) tokens = cond in_has (Err (wrong HasInHas (drop 1 tokens))) (Ok (Argument Is Relative, drop 1 tokens))
function_part in_has (Some (NthClass of_type from_end)) tokens = nth_class of_type from_end tokens

unfoldable pub function_named : Bool → List ℕ → List Token → PartRead
function_named in_has name tokens = function_part in_has (function_of name) tokens

-- behind a colon
abbrev pub pseudo_kind : Bool → TokenKind → List Token → PartRead
pseudo_kind in_has (Ident name) tokens = class_named name tokens
pseudo_kind in_has (Function name) tokens = function_named in_has name tokens
pseudo_kind in_has _ tokens = cond (is_delim 58 tokens) (Err (wrong PseudoElement tokens)) (Err (wrong NoName tokens))

unfoldable pub pseudo : Bool → List Token → PartRead
pseudo in_has [] = Err (wrong NoName [])
pseudo in_has (t ∷ ts) = pseudo_kind in_has t.kind (t ∷ ts)

-- PARTS OF A COMPOUND SELECTOR BEHIND ITS TYPE (section 3.1)

abbrev pub class_selector : Option (List ℕ) → List Token → PartRead
class_selector (Some name) tokens = Ok (One (Class name), drop 1 tokens)
class_selector None tokens = Err (wrong NoName tokens)

unfoldable pub attribute_part : List Token → PartRead
attribute_part tokens = do
  test ← attribute tokens
  Ok (One (Attribute test.0), test.1)

abbrev pub part_of_sign : Bool → List Token → PartRead
part_of_sign in_has tokens =
    cond (is_delim 46 tokens) (class_selector (ident_of (drop 1 tokens)) (drop 1 tokens))
    (cond (is_delim 91 tokens) (attribute_part (drop 1 tokens))
    (cond (is_delim 58 tokens) (pseudo in_has (drop 1 tokens)) (Ok (Nothing, tokens))))

-- an id is a hash token that begins as a name (section 6.7)
abbrev pub part_of_kind : Bool → TokenKind → List Token → PartRead
part_of_kind in_has (Hash name is_id) tokens = cond is_id (Ok (One (Id name), drop 1 tokens)) (Ok (Nothing, tokens))
part_of_kind in_has _ tokens = part_of_sign in_has tokens

unfoldable pub next_part : Bool → List Token → PartRead
next_part in_has [] = Ok (Nothing, [])
next_part in_has (t ∷ ts) = part_of_kind in_has t.kind (t ∷ ts)
