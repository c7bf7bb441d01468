-- Worked rows, which the check computes: texts, and the selectors or the fault that the definitions give them.
use Prim.Native.String.{String}
use Rattle.std.specs.Prelude.{◌≡◌, ℕ, Bool, true, false, Result, Ok, Err, List, [], ◌∷◌, map, codes}
use Rattle.markup.specs.declared.namespaces.KnownNamespace.TheVariants.{Svg, NoNamespace}
use Rattle.selectors.specs.declared.selector.CaseSensitivity.{CaseSensitivity}
use Rattle.selectors.specs.declared.selector.CaseSensitivity.TheVariants.{AsHtml, Insensitive, Sensitive}
use Rattle.selectors.specs.declared.selector.Combinator.{Combinator}
use Rattle.selectors.specs.declared.selector.Combinator.TheVariants.{Descendant, Child, NextSibling, SubsequentSibling}
use Rattle.selectors.specs.declared.selector.NamespaceTest.{NamespaceTest}
use Rattle.selectors.specs.declared.selector.NamespaceTest.TheVariants.{Any, Only}
use Rattle.selectors.specs.declared.selector.Nth.{Nth}
use Rattle.selectors.specs.declared.selector.Operator.{Operator}
use Rattle.selectors.specs.declared.selector.Operator.TheVariants.{Present, Equal, Word, Hyphen, Prefix, Suffix, Substring}
use Rattle.selectors.specs.declared.selector.Simple.{Simple}
use Rattle.selectors.specs.declared.selector.Simple.TheVariants.{«Type», Namespace, Id, Class, Attribute, Root}
use Rattle.selectors.specs.declared.selector.Simple.TheVariants.{Scope, Empty, NthChild, NthOfType}
use Rattle.html_selector_text.specs.declared.fault.SyntaxFault.{SyntaxFault}
use Rattle.html_selector_text.specs.declared.fault.SyntaxFault.TheVariants as faults
use Rattle.html_selector_text.specs.Results.{Wrong}
use Rattle.html_selector_text.specs.Trees.{ListTree, NoSelectors, OrSelector, ComplexTree, AloneTree, BesideTree}
use Rattle.html_selector_text.specs.Trees.{ToTree, ThenTree, TestsTree, NoTests, IsTest, NotTest, HasTest, NthOfTest}
use Rattle.html_selector_text.specs.Grammar.{parsed}
use Rattle.html_selector_text.specs.Written.{written}

abbrev pub Row : Type 0
Row = String × Result ListTree Wrong

abbrev pub AreParsed : List Row → Type 0
AreParsed rows = map (λ row. parsed (codes row.0)) rows ≡ map (λ row. row.1) rows

abbrev pub wrong_at : SyntaxFault → ℕ → Result ListTree Wrong
wrong_at fault at = Err (record { fault = fault; at = at })

abbrev pub complex : ComplexTree → Result ListTree Wrong
complex one = Ok (OrSelector one NoSelectors)

abbrev pub simple : List Simple → ComplexTree
simple simples = AloneTree simples NoTests

abbrev pub compound : List Simple → Result ListTree Wrong
compound simples = complex (simple simples)

abbrev pub tested : TestsTree → Result ListTree Wrong
tested tests = complex (AloneTree [] tests)

abbrev pub only : List Simple → ListTree
only simples = OrSelector (simple simples) NoSelectors

abbrev pub typed : String → List Simple
typed name = «Type» (codes name) ∷ []

abbrev pub beside : ComplexTree → Combinator → List Simple → ComplexTree
beside left combinator right = BesideTree left combinator right NoTests

abbrev pub attribute : NamespaceTest → String → Operator → String → CaseSensitivity → List Simple
attribute namespace name operator value case = Attribute (record {
  namespace = namespace;
  name = codes name;
  operator = operator;
  value = codes value;
  case = case;
}) ∷ []

abbrev pub plain_attribute : String → Operator → String → Result ListTree Wrong
plain_attribute name operator value = compound (attribute (Only NoNamespace) name operator value AsHtml)

abbrev pub places : ℕ → ℕ → Bool → Bool → Nth
places first step descends from_end = record { first = first; step = step; descends = descends; from_end = from_end }

abbrev pub child : Nth → Result ListTree Wrong
child nth = compound (NthChild nth ∷ [])

-- names, escapes, strings and comments
abbrev pub token_rows : List Row
token_rows =
    ("p", compound (typed "p"))
    ∷ ("\\70 .\\31 a", compound («Type» (codes "p") ∷ Class (codes "1a") ∷ []))
    ∷ ("\\000070q", compound (typed "pq"))
    ∷ ("\\0 a", compound («Type» (65533 ∷ 97 ∷ []) ∷ []))
    ∷ ("a\\:b", compound (typed "a:b"))
    ∷ ("--a-_1", compound (typed "--a-_1"))
    ∷ ("p/* * */#b", compound («Type» (codes "p") ∷ Id (codes "b") ∷ []))
    ∷ ("[a='b c\\'']", plain_attribute "a" Equal "b c'")
    ∷ ("[a='b\\\nc']", plain_attribute "a" Equal "bc")
    ∷ ("[a='b", plain_attribute "a" Equal "b")
    ∷ ("#1", wrong_at faults.Unexpected 0)
    ∷ (".5", wrong_at faults.Unexpected 0)
    ∷ ("-->", wrong_at faults.Unexpected 0)
    ∷ ("[a='b\nc']", wrong_at faults.NoValue 3)
    ∷ ("a\r\n !", wrong_at faults.Unexpected 4)
    ∷ []

-- types, ids, classes and attributes
abbrev pub simple_rows : List Row
simple_rows =
    ("*", compound [])
    ∷ ("svg|a", compound (Namespace Svg ∷ typed "a"))
    ∷ ("*|a", compound (typed "a"))
    ∷ ("|*", compound (Namespace NoNamespace ∷ []))
    ∷ ("a.b#c", compound («Type» (codes "a") ∷ Class (codes "b") ∷ Id (codes "c") ∷ []))
    ∷ ("[a]", plain_attribute "a" Present "")
    ∷ ("[ a ~= 'b' i ]", compound (attribute (Only NoNamespace) "a" Word "b" Insensitive))
    ∷ ("[*|a|=b S]", compound (attribute Any "a" Hyphen "b" Sensitive))
    ∷ ("[svg|a^=b", compound (attribute (Only Svg) "a" Prefix "b" AsHtml))
    ∷ ("[a$=b]", plain_attribute "a" Suffix "b")
    ∷ ("[a*=b]", plain_attribute "a" Substring "b")
    ∷ ("x|a", wrong_at faults.UnknownPrefix 0)
    ∷ ("svg|.a", wrong_at faults.NoName 4)
    ∷ (". a", wrong_at faults.NoName 1)
    ∷ ("[=b]", wrong_at faults.NoName 1)
    ∷ ("[a!b]", wrong_at faults.NoOperator 2)
    ∷ ("[a=]", wrong_at faults.NoValue 3)
    ∷ ("[a=b c]", wrong_at faults.NoBracket 5)
    ∷ []

-- combinators and lists
abbrev pub complex_rows : List Row
complex_rows =
    (" a b", complex (beside (simple (typed "a")) Descendant (typed "b")))
    ∷ (
      "a>b +c~ d",
      complex (beside (beside (beside (simple (typed "a")) Child (typed "b")) NextSibling (typed "c"))
          SubsequentSibling (typed "d")),
    )
    ∷ ("a , b", Ok (OrSelector (simple (typed "b")) (only (typed "a"))))
    ∷ ("", wrong_at faults.NoSelector 0)
    ∷ ("a,", wrong_at faults.NoSelector 2)
    ∷ ("a > > b", wrong_at faults.Unexpected 4)
    ∷ ("a)", wrong_at faults.Unexpected 1)
    ∷ ("> a", wrong_at faults.Unexpected 0)
    ∷ ("a || b", wrong_at faults.NoName 3)
    ∷ []

-- pseudo-classes
abbrev pub class_rows : List Row
class_rows =
    (":ROOT", compound (Root ∷ []))
    ∷ (":scope", compound (Scope ∷ []))
    ∷ (":last-of-type", compound (NthOfType (places 1 0 false true) ∷ []))
    ∷ []

-- pseudo-classes that are two simple selectors
abbrev pub only_rows : List Row
only_rows =
    (":only-child", compound (NthChild (places 1 0 false false) ∷ NthChild (places 1 0 false true) ∷ []))
    ∷ []

-- pseudo-classes with selectors in them
abbrev pub argument_rows : List Row
argument_rows =
    (":is(a,::b,[)]", tested (IsTest (only (typed "a")) NoTests))
    ∷ (":where()", tested (IsTest NoSelectors NoTests))
    ∷ (":not(a):empty", complex (AloneTree (Empty ∷ []) (NotTest (only (typed "a")) NoTests)))
    ∷ []

-- relative selectors
abbrev pub relative_rows : List Row
relative_rows = (
  ":has(> a b)",
  tested (IsTest (OrSelector (AloneTree [] (HasTest
      (ThenTree Child (typed "a") NoTests (ToTree Descendant (typed "b") NoTests)) NoTests)) NoSelectors) NoTests),
)
    ∷ []

-- pseudo-classes that are at fault
abbrev pub class_fault_rows : List Row
class_fault_rows =
    (":not(a,)", wrong_at faults.NoSelector 7)
    ∷ (":not(a", tested (NotTest (only (typed "a")) NoTests))
    ∷ ("a:foo", wrong_at faults.UnknownPseudoClass 2)
    ∷ (":foo(a)", wrong_at faults.UnknownPseudoClass 1)
    ∷ ("a:after", wrong_at faults.PseudoElement 2)
    ∷ ("a::b", wrong_at faults.PseudoElement 2)
    ∷ (
      ":has(a:is(:has(b)))",
      tested (IsTest (OrSelector (AloneTree [] (HasTest
          (ToTree Descendant (typed "a") (IsTest NoSelectors NoTests)) NoTests)) NoSelectors) NoTests),
    )
    ∷ (":has(:not(:has(b)))", wrong_at faults.HasInHas 15)
    ∷ []

-- An+B
abbrev pub nth_rows : List Row
nth_rows =
    (":nth-child( ODD )", child (places 1 2 false false))
    ∷ (":nth-child(5)", child (places 5 0 false false))
    ∷ (":nth-child(2n+1)", child (places 1 2 false false))
    ∷ []

-- An+B with signs
abbrev pub nth_sign_rows : List Row
nth_sign_rows =
    (":nth-child(+3n - 2)", child (places 1 3 false false))
    ∷ (":nth-child(-n+ 3)", child (places 3 1 true false))
    ∷ (":nth-child(4N- 7)", child (places 1 4 false false))
    ∷ []

-- An+B with selectors
abbrev pub nth_selectors_rows : List Row
nth_selectors_rows =
    (":nth-child(1 of a)", tested (NthOfTest (places 1 0 false false) (only (typed "a")) NoTests))
    ∷ []

-- what is no An+B
abbrev pub nth_fault_rows : List Row
nth_fault_rows =
    (":nth-child(- n)", wrong_at faults.NoNth 1)
    ∷ (":nth-child(n + -1)", wrong_at faults.NoNth 1)
    ∷ (":nth-child(2 p)", wrong_at faults.NoParenthesis 13)
    ∷ []

-- SELECTORS AS TEXT

abbrev pub WrittenRow : Type 0
WrittenRow = ListTree × String

-- the text that is written, which is read back as the same selectors
pub record AreWritten (rows : List WrittenRow) : Type 0 where
  pub texts : map (λ row. written row.0) rows ≡ map (λ row. codes row.1) rows
  pub read_back : map (λ row. parsed (codes row.1)) rows ≡ map (λ row. Ok row.0) rows

abbrev pub alone : ComplexTree → ListTree
alone one = OrSelector one NoSelectors

abbrev pub written_rows : List WrittenRow
written_rows =
    (only [], "*")
    ∷ (only (Namespace Svg ∷ []), "svg|*")
    ∷ (only (Namespace NoNamespace ∷ typed "a"), "|a")
    ∷ (only («Type» (codes "a:b") ∷ Id (codes "1") ∷ Class (codes "-") ∷ []), "a\\:b#\\31 .\\-")
    ∷ (only (attribute Any "a" Hyphen "b\"c" Insensitive), "[*|a|=\"b\\\"c\" i]")
    ∷ (only (attribute (Only NoNamespace) "a" Present "" AsHtml), "[a]")
    ∷ (OrSelector (simple (typed "b")) (only (typed "a")), "a, b")
    ∷ (alone (beside (beside (simple (typed "a")) Child (typed "b")) Descendant (typed "c")), "a > b c")
    ∷ []

abbrev pub written_class_rows : List WrittenRow
written_class_rows =
    (alone (AloneTree (Root ∷ []) (NotTest (only (typed "b")) (IsTest (only (typed "a")) NoTests))), ":root:is(a):not(b)")
    ∷ (only (NthOfType (places 1 0 false true) ∷ []), ":last-of-type")
    ∷ []

abbrev pub written_nth_rows : List WrittenRow
written_nth_rows =
    (only (NthChild (places 3 2 true false) ∷ []), ":nth-child(-2n+3)")
    ∷ (alone (AloneTree [] (IsTest (alone (AloneTree [] (HasTest (ToTree Child (typed "a") NoTests) NoTests))) NoTests)), ":has(> a)")
    ∷ []
