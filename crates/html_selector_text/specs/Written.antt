-- Selectors as text (CSSOM, "Serializing selectors" and "Common serializing idioms"; CSS Syntax Level 3, section 9.1).
use Rattle.std.specs.Prelude.{◌≡◌, ℕ, zero, suc, Bool, true, false, cond, not, ◌&&◌, ◌||◌, ◌==◌, ◌+◌, ◌/◌, ◌%◌, nat_lt, nat_le}
use Rattle.std.specs.Prelude.{◌≢◌, List, [], ◌∷◌, ◌++◌, length, codes, flat_map, slice_index}
use Rattle.std.specs.Char.{is_ascii_alphanumeric, is_ascii_digit}
use Rattle.markup.specs.declared.namespaces.KnownNamespace.{KnownNamespace}
use Rattle.markup.specs.declared.namespaces.KnownNamespace.TheVariants.{Html, Svg, MathMl, XLink, Xml, Xmlns, NoNamespace}
use Rattle.selectors.specs.declared.selector.AttributeTest.{AttributeTest}
use Rattle.selectors.specs.declared.selector.CaseSensitivity.{CaseSensitivity}
use Rattle.selectors.specs.declared.selector.CaseSensitivity.TheVariants.{AsHtml, Insensitive, Sensitive}
use Rattle.selectors.specs.declared.selector.Combinator.{Combinator}
use Rattle.selectors.specs.declared.selector.Combinator.TheVariants.{Descendant, Child, NextSibling, SubsequentSibling}
use Rattle.selectors.specs.declared.selector.NamespaceTest.{NamespaceTest}
use Rattle.selectors.specs.declared.selector.NamespaceTest.TheVariants.{Any, Only}
use Rattle.selectors.specs.declared.selector.Nth.{Nth}
use Rattle.selectors.specs.declared.selector.Operator.{Operator}
use Rattle.selectors.specs.declared.selector.Operator.TheVariants.{Present, Equal, Word, Hyphen, Prefix, Suffix, Substring}
use Rattle.selectors.specs.declared.selector.Simple.{Simple}
use Rattle.selectors.specs.declared.selector.Simple.TheVariants.{«Type», Namespace, Id, Class, Attribute, Root}
use Rattle.selectors.specs.declared.selector.Simple.TheVariants.{Scope, Empty, NthChild, NthOfType}
use Rattle.html_selector_text.specs.Characters.{at_escape, is_in_name}
use Rattle.html_selector_text.specs.Trees.{ListTree, NoSelectors, OrSelector, ComplexTree, AloneTree, BesideTree}
use Rattle.html_selector_text.specs.Trees.{RelativeTree, ToTree, ThenTree, TestsTree, NoTests, IsTest, NotTest, HasTest, NthOfTest}

-- IDENTIFIERS, STRINGS AND NUMBERS

abbrev pub hex_digit : ℕ → ℕ
hex_digit n = cond (nat_lt n 10) (48 + n) (87 + n)

-- "escape a character as code point", for a code point below 128
abbrev pub as_code_point : ℕ → List ℕ
as_code_point c = (92 ∷ []) ++ cond (nat_lt c 16) (hex_digit c ∷ 32 ∷ []) (hex_digit (c / 16) ∷ hex_digit (c % 16) ∷ 32 ∷ [])

abbrev pub is_control : ℕ → Bool
is_control c = nat_lt c 32 || (c == 127)

-- a character of an identifier that is not at its beginning
abbrev pub later_character : ℕ → List ℕ
later_character c =
    cond (c == 0) (65533 ∷ [])
    (cond (is_control c) (as_code_point c)
    (cond ((nat_le 128 c || is_ascii_alphanumeric c) || ((c == 45) || (c == 95))) (c ∷ []) (92 ∷ c ∷ [])))

-- the first character, and a second one behind a hyphen, are no digits
abbrev pub digit_or_later : ℕ → List ℕ
digit_or_later c = cond (is_ascii_digit c) (as_code_point c) (later_character c)

abbrev pub behind_hyphen : List ℕ → List ℕ
behind_hyphen [] = []
behind_hyphen (c ∷ cs) = digit_or_later c ++ flat_map later_character cs

-- "serialize an identifier"
unfoldable pub identifier : List ℕ → List ℕ
identifier [] = []
identifier (c ∷ cs) =
    cond (c == 45) (cond (length cs == 0) (92 ∷ 45 ∷ []) (45 ∷ behind_hyphen cs)) (digit_or_later c ++ flat_map later_character cs)

abbrev pub string_character : ℕ → List ℕ
string_character c =
    cond (c == 0) (65533 ∷ [])
    (cond (is_control c) (as_code_point c) (cond ((c == 34) || (c == 92)) (92 ∷ c ∷ []) (c ∷ [])))

-- "serialize a string"
unfoldable pub quoted : List ℕ → List ℕ
quoted text = ((34 ∷ []) ++ flat_map string_character text) ++ 34 ∷ []

-- a number in at most so many decimal digits
abbrev pub decimal_in : ℕ → ℕ → List ℕ
decimal_in zero n = []
decimal_in (suc count) n = cond (nat_lt n 10) ((48 + n) ∷ []) (decimal_in count (n / 10) ++ (48 + n % 10) ∷ [])

unfoldable pub decimal : ℕ → List ℕ
decimal n = decimal_in 10 n

-- AN+B

abbrev pub step_text : Nth → List ℕ
step_text nth = cond nth.descends (45 ∷ []) [] ++ (cond (nth.step == 1) [] (decimal nth.step) ++ 110 ∷ [])

-- "serialize an <an+b> value"
unfoldable pub nth_text : Nth → List ℕ
nth_text nth =
    cond (nth.step == 0) (decimal nth.first)
    (step_text nth ++ cond (nth.first == 0) [] ((43 ∷ []) ++ decimal nth.first))

-- SIMPLE SELECTORS

abbrev pub prefix_text : KnownNamespace → List ℕ
prefix_text Html = codes "html|"
prefix_text MathMl = codes "math|"
prefix_text Svg = codes "svg|"
prefix_text XLink = codes "xlink|"
prefix_text Xml = codes "xml|"
prefix_text Xmlns = codes "xmlns|"
prefix_text NoNamespace = codes "|"

-- no namespace needs no prefix before an attribute
abbrev pub attribute_prefix : NamespaceTest → List ℕ
attribute_prefix Any = codes "*|"
attribute_prefix (Only NoNamespace) = []
attribute_prefix (Only known) = prefix_text known

abbrev pub operator_text : Operator → List ℕ
operator_text Present = []
operator_text Equal = codes "="
operator_text Word = codes "~="
operator_text Hyphen = codes "|="
operator_text Prefix = codes "^="
operator_text Suffix = codes "$="
operator_text Substring = codes "*="

abbrev pub case_text : CaseSensitivity → List ℕ
case_text AsHtml = []
case_text Insensitive = codes " i"
case_text Sensitive = codes " s"

abbrev pub is_present : Operator → Bool
is_present Present = true
is_present _ = false

abbrev pub value_text : AttributeTest → List ℕ
value_text test =
    cond (is_present test.operator) [] ((operator_text test.operator ++ quoted test.value) ++ case_text test.case)

unfoldable pub attribute_text : AttributeTest → List ℕ
attribute_text test =
    ((codes "[" ++ attribute_prefix test.namespace) ++ identifier test.name) ++ (value_text test ++ codes "]")

-- the first one alone has a name of its own
abbrev pub is_first : Nth → Bool
is_first nth = (nth.first == 1) && (nth.step == 0)

abbrev pub nth_name : Bool → List ℕ
nth_name from_end = cond from_end (codes ":nth-last-") (codes ":nth-")

abbrev pub first_name : Bool → List ℕ
first_name from_end = cond from_end (codes ":last-") (codes ":first-")

abbrev pub nth_class_text : List ℕ → Nth → List ℕ
nth_class_text kind nth =
    cond (is_first nth) (first_name nth.from_end ++ kind) (((nth_name nth.from_end ++ kind) ++ codes "(") ++ (nth_text nth ++ codes ")"))

-- "serialize a simple selector"
abbrev pub simple_text : Simple → List ℕ
simple_text («Type» name) = identifier name
simple_text (Namespace known) = prefix_text known
simple_text (Id name) = codes "#" ++ identifier name
simple_text (Class name) = codes "." ++ identifier name
simple_text (Attribute test) = attribute_text test
simple_text Root = codes ":root"
simple_text Scope = codes ":scope"
simple_text Empty = codes ":empty"
simple_text (NthChild nth) = nth_class_text (codes "child") nth
simple_text (NthOfType nth) = nth_class_text (codes "of-type") nth

abbrev pub is_type_kind : Simple → Bool
is_type_kind («Type» name) = true
is_type_kind _ = false

abbrev pub is_type : List Simple → Bool
is_type [] = false
is_type (s ∷ simples) = is_type_kind s

abbrev pub is_prefix : Simple → Bool
is_prefix (Namespace known) = true
is_prefix _ = false

-- a prefix stands before a name, or before `*`
abbrev pub one_text : Simple → List Simple → List ℕ
one_text s simples = simple_text s ++ cond (is_prefix s && not (is_type simples)) (codes "*") []

abbrev pub simples_text : List Simple → List ℕ
simples_text [] = []
simples_text (s ∷ simples) = one_text s simples ++ simples_text simples

-- SELECTORS

-- between two compound selectors; the first one of a relative selector has no white space before it
abbrev pub combinator_text : Bool → Combinator → List ℕ
combinator_text true Descendant = []
combinator_text true Child = codes "> "
combinator_text true NextSibling = codes "+ "
combinator_text true SubsequentSibling = codes "~ "
combinator_text false Descendant = codes " "
combinator_text false Child = codes " > "
combinator_text false NextSibling = codes " + "
combinator_text false SubsequentSibling = codes " ~ "

abbrev pub has_no_tests : TestsTree → Bool
has_no_tests NoTests = true
has_no_tests _ = false

-- where nothing is asked of an element `*` is written
abbrev pub compound_text : List Simple → TestsTree → List ℕ → List ℕ
compound_text simples tests text =
    cond ((length simples == 0) && has_no_tests tests) (codes "*") (simples_text simples ++ text)

-- `:has()` asks each of its relative selectors by a selector of its own
abbrev pub is_has_alone : TestsTree → Bool
is_has_alone (HasTest relative others) = has_no_tests others
is_has_alone _ = false

abbrev pub asks_has : ComplexTree → Bool
asks_has (AloneTree simples tests) = (length simples == 0) && is_has_alone tests
asks_has (BesideTree left combinator simples tests) = false

abbrev pub all_ask_has : ListTree → Bool
all_ask_has NoSelectors = true
all_ask_has (OrSelector one others) = asks_has one && all_ask_has others

abbrev pub is_none : ListTree → Bool
is_none NoSelectors = true
is_none (OrSelector one others) = false

abbrev pub is_has : ListTree → Bool
is_has list = not (is_none list) && all_ask_has list

-- within `:has()` or not; what is read first stands last in a tree
abbrev mutual
  -- "serialize a group of selectors"
  pub list_text : Bool → ListTree → List ℕ
  list_text in_has NoSelectors = []
  list_text in_has (OrSelector one others) =
      (list_text in_has others ++ cond (is_none others) [] (codes ", ")) ++ complex_text in_has one

  -- "serialize a selector"
  pub complex_text : Bool → ComplexTree → List ℕ
  complex_text in_has (AloneTree simples tests) = compound_text simples tests (tests_text in_has tests)
  complex_text in_has (BesideTree left combinator simples tests) =
      (complex_text false left ++ combinator_text false combinator) ++ compound_text simples tests (tests_text false tests)

  -- the first compound selector, or not
  pub relative_text : Bool → RelativeTree → List ℕ
  relative_text first (ToTree combinator simples tests) =
      combinator_text first combinator ++ compound_text simples tests (tests_text false tests)
  relative_text first (ThenTree combinator simples tests rest) =
      (combinator_text first combinator ++ compound_text simples tests (tests_text false tests)) ++ relative_text false rest

  pub tests_text : Bool → TestsTree → List ℕ
  tests_text in_has NoTests = []
  tests_text in_has (IsTest list others) =
      ((tests_text false others ++ cond (is_has list) (codes ":has(") (codes ":is(")) ++ list_text (is_has list) list) ++ codes ")"
  tests_text in_has (NotTest list others) = ((tests_text false others ++ codes ":not(") ++ list_text false list) ++ codes ")"
  tests_text in_has (HasTest relative others) =
      ((tests_text false others ++ cond in_has [] (codes ":has(")) ++ relative_text true relative) ++ cond in_has [] (codes ")")
  tests_text in_has (NthOfTest nth list others) =
      (((((tests_text false others ++ nth_name nth.from_end) ++ codes "child(") ++ nth_text nth) ++ codes " of ")
      ++ list_text false list) ++ codes ")"

-- the text of selectors
unfoldable pub written : ListTree → List ℕ
written list = list_text false list

-- WHAT IS READ AGAIN

-- no character is U+0000
abbrev pub NoZero : List ℕ → Type 0
NoZero [] = Unit {0}
NoZero (c ∷ cs) = (c ≢ 0) × NoZero cs

-- what stands here goes on with no name
pub record EndsName (rest : List ℕ) : Type 0 where
  pub character : is_in_name (slice_index rest 0) ≡ false
  pub escape : at_escape rest ≡ false
