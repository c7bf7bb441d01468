-- What is written has no character that preprocessing changes.
use Rattle.std.proofs.Common.{◌≡◌, ℕ, zero, suc, ◌+◌, ◌/◌, ◌%◌, Bool, true, false, cond, not, ◌&&◌, ◌||◌}
use Rattle.std.proofs.Common.{List, [], ◌∷◌, ◌++◌, length, refl, ap, arith, inl, inr}
use Rattle.std.specs.Prelude.{◌==◌, codes, flat_map, nat_lt, nat_le}
use Rattle.std.specs.Char.{is_ascii_alphanumeric, is_ascii_digit}
use Rattle.std.proofs.lemmas.Bool.{cases_Bool, and_parts, and_from}
use Rattle.std.proofs.lemmas.Bool.Decides.{nat_tests}
use Rattle.std.proofs.lemmas.List.Concat.{flat_map-cons}
use Rattle.markup.specs.declared.namespaces.KnownNamespace.{KnownNamespace}
use Rattle.markup.specs.declared.namespaces.KnownNamespace.TheVariants.{Html, Svg, MathMl, XLink, Xml, Xmlns, NoNamespace}
use Rattle.selectors.specs.declared.selector.AttributeTest.{AttributeTest}
use Rattle.selectors.specs.declared.selector.CaseSensitivity.{CaseSensitivity}
use Rattle.selectors.specs.declared.selector.CaseSensitivity.TheVariants.{AsHtml, Insensitive, Sensitive}
use Rattle.selectors.specs.declared.selector.Combinator.{Combinator}
use Rattle.selectors.specs.declared.selector.Combinator.TheVariants.{Descendant, Child, NextSibling, SubsequentSibling}
use Rattle.selectors.specs.declared.selector.NamespaceTest.{NamespaceTest}
use Rattle.selectors.specs.declared.selector.NamespaceTest.TheVariants.{Any, Only}
use Rattle.selectors.specs.declared.selector.Nth.{Nth}
use Rattle.selectors.specs.declared.selector.Operator.{Operator}
use Rattle.selectors.specs.declared.selector.Operator.TheVariants.{Present, Equal, Word, Hyphen, Prefix, Suffix, Substring}
use Rattle.selectors.specs.declared.selector.Simple.{Simple}
use Rattle.selectors.specs.declared.selector.Simple.TheVariants.{«Type», Namespace, Id, Class, Attribute, Root, Scope, Empty, NthChild}
use Rattle.selectors.specs.declared.selector.Simple.TheVariants.{NthOfType}
use Rattle.html_selector_text.specs.Characters.{preprocessed, preprocessed_after}
use Rattle.html_selector_text.specs.Trees.{ListTree, NoSelectors, OrSelector, ComplexTree, AloneTree, BesideTree, RelativeTree, ToTree}
use Rattle.html_selector_text.specs.Trees.{ThenTree}
use Rattle.html_selector_text.specs.Trees.{TestsTree, NoTests, IsTest, NotTest, HasTest, NthOfTest}
use Rattle.html_selector_text.specs.Written.{hex_digit, as_code_point, is_control, later_character, digit_or_later, behind_hyphen}
use Rattle.html_selector_text.specs.Written.{identifier}
use Rattle.html_selector_text.specs.Written.{string_character, quoted, decimal_in, decimal, step_text, nth_text, prefix_text}
use Rattle.html_selector_text.specs.Written.{attribute_prefix}
use Rattle.html_selector_text.specs.Written.{operator_text, case_text, is_present, value_text, attribute_text, is_first, nth_name}
use Rattle.html_selector_text.specs.Written.{first_name}
use Rattle.html_selector_text.specs.Written.{nth_class_text, simple_text, is_prefix, is_type, one_text, simples_text, combinator_text}
use Rattle.html_selector_text.specs.Written.{has_no_tests, compound_text, is_none, is_has, list_text, complex_text, relative_text}
use Rattle.html_selector_text.specs.Written.{tests_text}

abbrev is_clean : ℕ → Bool
is_clean c = not ((c == 12) || (c == 13)) && not (c == 0)

abbrev pub clean : List ℕ → Bool
clean [] = true
clean (c ∷ cs) = is_clean c && clean cs

no_return : (c : ℕ) → is_clean c ≡ true → (c == 13) ≡ false
no_return c h = grind (arith, nat_tests)

no_break : (c : ℕ) → is_clean c ≡ true → ((c == 12) || (c == 13)) ≡ false
no_break c h = grind (arith, nat_tests)

no_nothing : (c : ℕ) → is_clean c ≡ true → (c == 0) ≡ false
no_nothing c h = grind (arith, nat_tests)

unchanged : (text : List ℕ) → clean text ≡ true → preprocessed_after false text ≡ text
unchanged [] h = refl
unchanged (c ∷ cs) h =
    let both = and_parts (is_clean c) (clean cs) h in
    rw (no_break c both.0, no_nothing c both.0, no_return c both.0) (ap (λ (t : List ℕ). c ∷ t) (unchanged cs both.1))

pub clean_same : (text : List ℕ) → clean text ≡ true → preprocessed text ≡ text
unfolding preprocessed
clean_same text h = unchanged text h

join : (a b : List ℕ) → clean a ≡ true → clean b ≡ true → clean (a ++ b) ≡ true
join [] b h k = k
join (c ∷ a) b h k =
    let both = and_parts (is_clean c) (clean a) h in
    and_from (is_clean c) (clean (a ++ b)) both.0 (join a b both.1 k)

either_clean : (b : Bool) (x y : List ℕ) → clean x ≡ true → clean y ≡ true → clean (cond b x y) ≡ true
either_clean true x y h k = h
either_clean false x y h k = k

-- CHARACTERS

low_clean : (n : ℕ) → is_clean (48 + n) ≡ true
low_clean n = grind (arith, nat_tests)

high_clean : (n : ℕ) → is_clean (87 + n) ≡ true
high_clean n = grind (arith, nat_tests)

hex_clean : (n : ℕ) → is_clean (hex_digit n) ≡ true
hex_clean n = elim (cases_Bool (nat_lt n 10)) [
  | inl is ↦ rw is (low_clean n)
  | inr is ↦ rw is (high_clean n)
]

code_clean : (c : ℕ) → clean (as_code_point c) ≡ true
code_clean c = elim (cases_Bool (nat_lt c 16)) [
  | inl is ↦ rw is (and_from _ _ (hex_clean c) refl)
  | inr is ↦ rw is (and_from _ _ (hex_clean (c / 16)) (and_from _ _ (hex_clean (c % 16)) refl))
]

plain_clean : (c : ℕ) → (c == 0) ≡ false → is_control c ≡ false → is_clean c ≡ true
plain_clean c some control = grind (arith, nat_tests)

later_clean : (c : ℕ) → clean (later_character c) ≡ true
later_clean c = elim (cases_Bool (c == 0)) [
  | inl is ↦ rw is refl
  | inr some ↦ elim (cases_Bool (is_control c)) [
    | inl is ↦ rw (some, is) (code_clean c)
    | inr control ↦
        let own : clean (c ∷ []) ≡ true = and_from (is_clean c) true (plain_clean c some control) refl in
        rw (some, control) (either_clean ((nat_le 128 c || is_ascii_alphanumeric c) || ((c == 45) || (c == 95))) (c ∷ [])
        (92 ∷ c ∷ []) own own)
  ]
]

first_clean : (c : ℕ) → clean (digit_or_later c) ≡ true
first_clean c = either_clean (is_ascii_digit c) (as_code_point c) (later_character c) (code_clean c) (later_clean c)

string_clean : (c : ℕ) → clean (string_character c) ≡ true
string_clean c = elim (cases_Bool (c == 0)) [
  | inl is ↦ rw is refl
  | inr some ↦ elim (cases_Bool (is_control c)) [
    | inl is ↦ rw (some, is) (code_clean c)
    | inr control ↦
        let own : clean (c ∷ []) ≡ true = and_from (is_clean c) true (plain_clean c some control) refl in
        rw (some, control) (either_clean ((c == 34) || (c == 92)) (92 ∷ c ∷ []) (c ∷ []) own own)
  ]
]

all_clean : (f : ℕ → List ℕ) (cs : List ℕ) → ((c : ℕ) → clean (f c) ≡ true) → clean (flat_map f cs) ≡ true
all_clean f [] h = refl
all_clean f (c ∷ cs) h = rw (flat_map-cons f c cs) (join (f c) (flat_map f cs) (h c) (all_clean f cs h))

behind_clean : (cs : List ℕ) → clean (behind_hyphen cs) ≡ true
behind_clean [] = refl
behind_clean (c ∷ cs) = join (digit_or_later c) (flat_map later_character cs) (first_clean c) (all_clean later_character cs later_clean)

identifier_clean : (text : List ℕ) → clean (identifier text) ≡ true
unfolding identifier
identifier_clean [] = refl
identifier_clean (c ∷ cs) = either_clean (c == 45) (cond (length cs == 0) (92 ∷ 45 ∷ []) (45 ∷ behind_hyphen cs))
    (digit_or_later c ++ flat_map later_character cs)
    (either_clean (length cs == 0) (92 ∷ 45 ∷ []) (45 ∷ behind_hyphen cs) refl (behind_clean cs))
    (join (digit_or_later c) (flat_map later_character cs) (first_clean c) (all_clean later_character cs later_clean))

quoted_clean : (text : List ℕ) → clean (quoted text) ≡ true
unfolding quoted
quoted_clean text = join ((34 ∷ []) ++ flat_map string_character text) (34 ∷ []) (all_clean string_character text string_clean) refl

digits_clean : (count n : ℕ) → clean (decimal_in count n) ≡ true
digits_clean zero n = refl
digits_clean (suc count) n = either_clean (nat_lt n 10) ((48 + n) ∷ []) (decimal_in count (n / 10) ++ (48 + n % 10) ∷ [])
    (and_from (is_clean (48 + n)) true (low_clean n) refl)
    (join (decimal_in count (n / 10)) ((48 + n % 10) ∷ []) (digits_clean count (n / 10)) (and_from (is_clean (48 + n % 10)) true
    (low_clean (n % 10)) refl))

decimal_clean : (n : ℕ) → clean (decimal n) ≡ true
unfolding decimal
decimal_clean n = digits_clean 10 n

-- SIMPLE SELECTORS

nth_clean : (nth : Nth) → clean (nth_text nth) ≡ true
unfolding nth_text
nth_clean nth = either_clean (nth.step == 0) (decimal nth.first) (step_text nth ++ cond (nth.first == 0) []
    ((43 ∷ []) ++ decimal nth.first))
    (decimal_clean nth.first)
    (join (step_text nth) (cond (nth.first == 0) [] ((43 ∷ []) ++ decimal nth.first))
    (join (cond nth.descends (45 ∷ []) []) (cond (nth.step == 1) [] (decimal nth.step) ++ 110 ∷ [])
    (either_clean nth.descends (45 ∷ []) [] refl refl)
    (join (cond (nth.step == 1) [] (decimal nth.step)) (110 ∷ []) (either_clean (nth.step == 1) [] (decimal nth.step) refl
    (decimal_clean nth.step)) refl))
    (either_clean (nth.first == 0) [] ((43 ∷ []) ++ decimal nth.first) refl (decimal_clean nth.first)))

prefix_clean : (known : KnownNamespace) → clean (prefix_text known) ≡ true
prefix_clean Html = refl
prefix_clean MathMl = refl
prefix_clean Svg = refl
prefix_clean XLink = refl
prefix_clean Xml = refl
prefix_clean Xmlns = refl
prefix_clean NoNamespace = refl

namespace_clean : (namespace : NamespaceTest) → clean (attribute_prefix namespace) ≡ true
namespace_clean Any = refl
namespace_clean (Only NoNamespace) = refl
namespace_clean (Only Html) = refl
namespace_clean (Only MathMl) = refl
namespace_clean (Only Svg) = refl
namespace_clean (Only XLink) = refl
namespace_clean (Only Xml) = refl
namespace_clean (Only Xmlns) = refl

operator_clean : (operator : Operator) → clean (operator_text operator) ≡ true
operator_clean Present = refl
operator_clean Equal = refl
operator_clean Word = refl
operator_clean Hyphen = refl
operator_clean Prefix = refl
operator_clean Suffix = refl
operator_clean Substring = refl

case_clean : (case : CaseSensitivity) → clean (case_text case) ≡ true
case_clean AsHtml = refl
case_clean Insensitive = refl
case_clean Sensitive = refl

value_clean : (test : AttributeTest) → clean (value_text test) ≡ true
value_clean test = either_clean (is_present test.operator) []
    ((operator_text test.operator ++ quoted test.value) ++ case_text test.case) refl
    (join (operator_text test.operator ++ quoted test.value) (case_text test.case)
    (join (operator_text test.operator) (quoted test.value) (operator_clean test.operator) (quoted_clean test.value))
    (case_clean test.case))

attribute_clean : (test : AttributeTest) → clean (attribute_text test) ≡ true
unfolding attribute_text
attribute_clean test = join ((codes "[" ++ attribute_prefix test.namespace) ++ identifier test.name) (value_text test ++ codes "]")
    (join (codes "[" ++ attribute_prefix test.namespace) (identifier test.name)
    (join (codes "[") (attribute_prefix test.namespace) refl (namespace_clean test.namespace)) (identifier_clean test.name))
    (join (value_text test) (codes "]") (value_clean test) refl)

class_clean : (kind : List ℕ) (nth : Nth) → clean kind ≡ true → clean (nth_class_text kind nth) ≡ true
class_clean kind nth h = either_clean (is_first nth) (first_name nth.from_end ++ kind)
    (((nth_name nth.from_end ++ kind) ++ codes "(") ++ (nth_text nth ++ codes ")"))
    (join (first_name nth.from_end) kind (either_clean nth.from_end (codes ":last-") (codes ":first-") refl refl) h)
    (join ((nth_name nth.from_end ++ kind) ++ codes "(") (nth_text nth ++ codes ")")
    (join (nth_name nth.from_end ++ kind) (codes "(")
    (join (nth_name nth.from_end) kind (either_clean nth.from_end (codes ":nth-last-") (codes ":nth-") refl refl) h) refl)
    (join (nth_text nth) (codes ")") (nth_clean nth) refl))

simple_clean : (simple : Simple) → clean (simple_text simple) ≡ true
simple_clean («Type» name) = identifier_clean name
simple_clean (Namespace known) = prefix_clean known
simple_clean (Id name) = identifier_clean name
simple_clean (Class name) = identifier_clean name
simple_clean (Attribute test) = attribute_clean test
simple_clean Root = refl
simple_clean Scope = refl
simple_clean Empty = refl
simple_clean (NthChild nth) = class_clean (codes "child") nth refl
simple_clean (NthOfType nth) = class_clean (codes "of-type") nth refl

simples_clean : (simples : List Simple) → clean (simples_text simples) ≡ true
simples_clean [] = refl
simples_clean (s ∷ simples) = join (one_text s simples) (simples_text simples)
    (join (simple_text s) (cond (is_prefix s && not (is_type simples)) (codes "*") []) (simple_clean s)
    (either_clean (is_prefix s && not (is_type simples)) (codes "*") [] refl refl)) (simples_clean simples)

-- SELECTORS

combinator_clean : (first : Bool) (combinator : Combinator) → clean (combinator_text first combinator) ≡ true
combinator_clean true Descendant = refl
combinator_clean true Child = refl
combinator_clean true NextSibling = refl
combinator_clean true SubsequentSibling = refl
combinator_clean false Descendant = refl
combinator_clean false Child = refl
combinator_clean false NextSibling = refl
combinator_clean false SubsequentSibling = refl

compound_clean : (simples : List Simple) (tests : TestsTree) (text : List ℕ) → clean text ≡ true
    → clean (compound_text simples tests text) ≡ true
compound_clean simples tests text h = either_clean ((length simples == 0) && has_no_tests tests) (codes "*")
    (simples_text simples ++ text) refl
    (join (simples_text simples) text (simples_clean simples) h)

join3 : (a b c : List ℕ) → clean a ≡ true → clean b ≡ true → clean c ≡ true → clean ((a ++ b) ++ c) ≡ true
join3 a b c x y z = join (a ++ b) c (join a b x y) z

mutual
  pub list_clean : (list : ListTree) (in_has : Bool) → clean (list_text in_has list) ≡ true
  list_clean NoSelectors in_has = refl
  list_clean (OrSelector one others) in_has =
      join3 (list_text in_has others) (cond (is_none others) [] (codes ", ")) (complex_text in_has one) (list_clean others in_has)
      (either_clean (is_none others) [] (codes ", ") refl refl) (complex_clean one in_has)

  complex_clean : (one : ComplexTree) (in_has : Bool) → clean (complex_text in_has one) ≡ true
  complex_clean (AloneTree simples tests) in_has = compound_clean simples tests (tests_text in_has tests) (tests_clean tests in_has)
  complex_clean (BesideTree left combinator simples tests) in_has =
      join3 (complex_text false left) (combinator_text false combinator) (compound_text simples tests (tests_text false tests))
      (complex_clean left false) (combinator_clean false combinator) (compound_clean simples tests (tests_text false tests)
      (tests_clean tests false))

  relative_clean : (one : RelativeTree) (first : Bool) → clean (relative_text first one) ≡ true
  relative_clean (ToTree combinator simples tests) first =
      join (combinator_text first combinator) (compound_text simples tests (tests_text false tests)) (combinator_clean first combinator)
      (compound_clean simples tests (tests_text false tests) (tests_clean tests false))
  relative_clean (ThenTree combinator simples tests rest) first =
      join3 (combinator_text first combinator) (compound_text simples tests (tests_text false tests)) (relative_text false rest)
      (combinator_clean first combinator) (compound_clean simples tests (tests_text false tests) (tests_clean tests false))
      (relative_clean rest false)

  tests_clean : (tests : TestsTree) (in_has : Bool) → clean (tests_text in_has tests) ≡ true
  tests_clean NoTests in_has = refl
  tests_clean (IsTest list others) in_has =
      join ((tests_text false others ++ cond (is_has list) (codes ":has(") (codes ":is(")) ++ list_text (is_has list) list) (codes ")")
      (join3 (tests_text false others) (cond (is_has list) (codes ":has(") (codes ":is(")) (list_text (is_has list) list)
      (tests_clean others false)
      (either_clean (is_has list) (codes ":has(") (codes ":is(") refl refl) (list_clean list (is_has list))) refl
  tests_clean (NotTest list others) in_has =
      join ((tests_text false others ++ codes ":not(") ++ list_text false list) (codes ")")
      (join3 (tests_text false others) (codes ":not(") (list_text false list) (tests_clean others false) refl (list_clean list false)) refl
  tests_clean (HasTest relative others) in_has =
      join ((tests_text false others ++ cond in_has [] (codes ":has(")) ++ relative_text true relative) (cond in_has [] (codes ")"))
      (join3 (tests_text false others) (cond in_has [] (codes ":has(")) (relative_text true relative) (tests_clean others false)
      (either_clean in_has [] (codes ":has(") refl refl) (relative_clean relative true)) (either_clean in_has [] (codes ")") refl refl)
  tests_clean (NthOfTest nth list others) in_has =
      join (((((tests_text false others ++ nth_name nth.from_end) ++ codes "child(") ++ nth_text nth) ++ codes " of ") ++ list_text false
      list)
      (codes ")")
      (join3 (((tests_text false others ++ nth_name nth.from_end) ++ codes "child(") ++ nth_text nth) (codes " of ") (list_text false list)
      (join3 (tests_text false others ++ nth_name nth.from_end) (codes "child(") (nth_text nth)
      (join (tests_text false others) (nth_name nth.from_end) (tests_clean others false)
      (either_clean nth.from_end (codes ":nth-last-") (codes ":nth-") refl refl)) refl (nth_clean nth)) refl (list_clean list false)) refl
