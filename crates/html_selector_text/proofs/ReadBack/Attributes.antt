-- Prefixes and attribute selectors that are written are read back.
use Rattle.std.proofs.Common.{◌≡◌, ◌∙◌, ℕ, ◌-◌, ◌<◌, ◌≤◌, true, false, cond, Ok, Option, Some, None}
use Rattle.std.proofs.Common.{List, [], ◌∷◌, ◌++◌, length, refl, sym, ap, subst, arith, append_assoc, inl, inr}
use Rattle.std.specs.Prelude.{codes}
use Rattle.std.proofs.lemmas.Bool.{cases_Bool, true≢false, false≢true}
use Rattle.markup.specs.declared.namespaces.KnownNamespace.{KnownNamespace}
use Rattle.markup.specs.declared.namespaces.KnownNamespace.TheVariants.{Html, Svg, MathMl, XLink, Xml, Xmlns, NoNamespace}
use Rattle.selectors.specs.declared.selector.AttributeTest.{AttributeTest}
use Rattle.selectors.specs.declared.selector.CaseSensitivity.{CaseSensitivity}
use Rattle.selectors.specs.declared.selector.CaseSensitivity.TheVariants.{AsHtml, Insensitive, Sensitive}
use Rattle.selectors.specs.declared.selector.NamespaceTest.{NamespaceTest}
use Rattle.selectors.specs.declared.selector.NamespaceTest.TheVariants.{Any, Only}
use Rattle.selectors.specs.declared.selector.Operator.{Operator}
use Rattle.selectors.specs.declared.selector.Operator.TheVariants.{Present, Equal, Word, Hyphen, Prefix, Suffix, Substring}
use Rattle.selectors.specs.declared.selector.Simple.TheVariants.{Attribute}
use Rattle.html_selector_text.specs.declared.tokens.Token.{Token}
use Rattle.html_selector_text.specs.declared.tokens.TokenKind.TheVariants.{Ident, Delim, Str}
use Rattle.html_selector_text.specs.Characters.{at_name, at_number}
use Rattle.html_selector_text.specs.Reading.{is_delim, past_spaces, closes, past_close, ident_of}
use Rattle.html_selector_text.specs.Scanning.{placed, token}
use Rattle.html_selector_text.specs.Simples.{next_part, attribute_part, attribute, at_bar, known_prefix, prefix, namespace_or_none}
use Rattle.html_selector_text.specs.Simples.{operator_of, compared, tested, case_named, AttributeRead}
use Rattle.html_selector_text.specs.Written.{identifier, quoted, NoZero, prefix_text, attribute_prefix, operator_text, case_text}
use Rattle.html_selector_text.specs.Written.{value_text}
use Rattle.html_selector_text.specs.Written.{is_present, attribute_text, simple_text}
use Rattle.html_selector_text.specs.Readable.{IsAttribute}
use Rattle.html_selector_text.proofs.ReadBack.Lexing.{tokens_of, token_first}
use Rattle.html_selector_text.proofs.ReadBack.Words.{ends_ident, ident_token, string_token, space_token}
use Rattle.html_selector_text.proofs.ReadBack.Parts.{IsRead, IsWord, no_zeros, word_token, bracket_token, end_bracket_token, bar_token}
use Rattle.html_selector_text.proofs.ReadBack.Parts.{star_token, equals_token}

-- PREFIXES

-- a prefix is read of a text, before a name or `*`
pub record IsPrefix (total : ℕ) (namespace : Option NamespaceTest) (chars rest : List ℕ) : Type 0 where
  pub spaces : past_spaces (tokens_of total chars) ≡ tokens_of total chars
  pub read : prefix (tokens_of total chars) ≡ Ok (namespace, tokens_of total rest)
  pub fewer : length (tokens_of total rest) ≤ length (tokens_of total chars)

named_prefix : (total : ℕ) (word rest : List ℕ) (known : KnownNamespace) → IsWord word → known_prefix word ≡ Some known
    → is_delim 61 (tokens_of total rest) ≡ false → IsPrefix total (Some (Only known)) (word ++ 124 ∷ rest) rest
unfolding prefix
named_prefix total word rest known is known_is equals =
    let name = word_token total word (124 ∷ rest) is refl in
    let bar = bar_token total rest in
    record {
      spaces = rw (name, bar) refl;
      read = rw (name, bar, equals, known_is) refl;
      fewer = rw (name, bar) (omega arith);
    }

any_prefix : (total : ℕ) (rest : List ℕ) → is_delim 61 (tokens_of total rest) ≡ false
    → IsPrefix total (Some Any) (42 ∷ 124 ∷ rest) rest
unfolding prefix
any_prefix total rest equals =
    let star = star_token total (124 ∷ rest) in
    let bar = bar_token total rest in
    record { spaces = rw (star, bar) refl; read = rw (star, bar, equals) refl; fewer = rw (star, bar) (omega arith) }

bare_prefix : (total : ℕ) (rest : List ℕ) → is_delim 61 (tokens_of total rest) ≡ false
    → IsPrefix total (Some (Only NoNamespace)) (124 ∷ rest) rest
unfolding prefix
bare_prefix total rest equals =
    let bar = bar_token total rest in
    record { spaces = rw bar refl; read = rw (bar, equals) refl; fewer = rw bar (omega arith) }

html_word : IsWord (codes "html")
unfolding identifier
html_word = record { is_name = no_zeros (codes "html") refl; as_it_is = refl }

math_word : IsWord (codes "math")
unfolding identifier
math_word = record { is_name = no_zeros (codes "math") refl; as_it_is = refl }

svg_word : IsWord (codes "svg")
unfolding identifier
svg_word = record { is_name = no_zeros (codes "svg") refl; as_it_is = refl }

xlink_word : IsWord (codes "xlink")
unfolding identifier
xlink_word = record { is_name = no_zeros (codes "xlink") refl; as_it_is = refl }

xml_word : IsWord (codes "xml")
unfolding identifier
xml_word = record { is_name = no_zeros (codes "xml") refl; as_it_is = refl }

xmlns_word : IsWord (codes "xmlns")
unfolding identifier
xmlns_word = record { is_name = no_zeros (codes "xmlns") refl; as_it_is = refl }

pub known_read : (total : ℕ) (known : KnownNamespace) (rest : List ℕ) → is_delim 61 (tokens_of total rest) ≡ false
    → IsPrefix total (Some (Only known)) (prefix_text known ++ rest) rest
known_read total Html rest equals = named_prefix total (codes "html") rest Html html_word refl equals
known_read total MathMl rest equals = named_prefix total (codes "math") rest MathMl math_word refl equals
known_read total Svg rest equals = named_prefix total (codes "svg") rest Svg svg_word refl equals
known_read total XLink rest equals = named_prefix total (codes "xlink") rest XLink xlink_word refl equals
known_read total Xml rest equals = named_prefix total (codes "xml") rest Xml xml_word refl equals
known_read total Xmlns rest equals = named_prefix total (codes "xmlns") rest Xmlns xmlns_word refl equals
known_read total NoNamespace rest equals = bare_prefix total rest equals

-- no prefix stands before a name that no bar follows
no_prefix : (total at : ℕ) (name rest more : List ℕ) → tokens_of total rest ≡ placed (Ident name) at ∷ tokens_of total more
    → at_bar (tokens_of total more) ≡ false → IsPrefix total None rest rest
unfolding prefix
no_prefix total at name rest more is bar = record { spaces = rw is refl; read = rw (is, bar) refl; fewer = omega arith }

-- the prefix of an attribute
pub record HasPrefix (total : ℕ) (namespace : NamespaceTest) (chars rest : List ℕ) : Type 0 where
  pub read_as : Option NamespaceTest
  pub stands_for : namespace_or_none read_as ≡ namespace
  pub is_prefix : IsPrefix total read_as chars rest

prefix_read : (total at : ℕ) (namespace : NamespaceTest) (name rest more : List ℕ)
    → tokens_of total rest ≡ placed (Ident name) at ∷ tokens_of total more → at_bar (tokens_of total more) ≡ false
    → HasPrefix total namespace (attribute_prefix namespace ++ rest) rest
prefix_read total at Any name rest more is bar =
    record { read_as = Some Any; stands_for = refl; is_prefix = any_prefix total rest (rw is refl) }
prefix_read total at (Only NoNamespace) name rest more is bar =
    record { read_as = None; stands_for = refl; is_prefix = no_prefix total at name rest more is bar }
prefix_read total at (Only Html) name rest more is bar =
    record { read_as = Some (Only Html); stands_for = refl; is_prefix = known_read total Html rest (rw is refl) }
prefix_read total at (Only MathMl) name rest more is bar =
    record { read_as = Some (Only MathMl); stands_for = refl; is_prefix = known_read total MathMl rest (rw is refl) }
prefix_read total at (Only Svg) name rest more is bar =
    record { read_as = Some (Only Svg); stands_for = refl; is_prefix = known_read total Svg rest (rw is refl) }
prefix_read total at (Only XLink) name rest more is bar =
    record { read_as = Some (Only XLink); stands_for = refl; is_prefix = known_read total XLink rest (rw is refl) }
prefix_read total at (Only Xml) name rest more is bar =
    record { read_as = Some (Only Xml); stands_for = refl; is_prefix = known_read total Xml rest (rw is refl) }
prefix_read total at (Only Xmlns) name rest more is bar =
    record { read_as = Some (Only Xmlns); stands_for = refl; is_prefix = known_read total Xmlns rest (rw is refl) }

-- VALUES

-- what is read behind the name of an attribute
abbrev behind_name : NamespaceTest → List ℕ → List Token → AttributeRead
behind_name namespace name tokens =
    cond (closes 93 tokens) (Ok (tested namespace name Present [] AsHtml, past_close tokens)) (compared namespace name tokens)

record IsValue (total : ℕ) (test : AttributeTest) (chars rest : List ℕ) : Type 0 where
  pub spaces : past_spaces (tokens_of total chars) ≡ tokens_of total chars
  pub bar : at_bar (tokens_of total chars) ≡ false
  pub ends : ends_ident chars ≡ true
  pub read : behind_name test.namespace test.name (tokens_of total chars) ≡ Ok (test, tokens_of total rest)
  pub fewer : length (tokens_of total rest) < length (tokens_of total chars)

-- an operator
record IsOperator (total : ℕ) (operator : Operator) (chars rest : List ℕ) : Type 0 where
  pub spaces : past_spaces (tokens_of total chars) ≡ tokens_of total chars
  pub bar : at_bar (tokens_of total chars) ≡ false
  pub more : closes 93 (tokens_of total chars) ≡ false
  pub ends : ends_ident chars ≡ true
  pub read : operator_of (tokens_of total chars) ≡ Ok (operator, tokens_of total rest)
  pub fewer : length (tokens_of total rest) ≤ length (tokens_of total chars)

word_operator : (total : ℕ) (rest : List ℕ) → IsOperator total Word (126 ∷ 61 ∷ rest) rest
unfolding token at_number at_name operator_of
word_operator total rest =
    let sign = token_first total 126 (61 ∷ rest) (61 ∷ rest) (Delim 126) refl refl in
    let equal = equals_token total rest in
    record {
      spaces = rw (sign, equal) refl;
      bar = rw sign refl;
      more = rw sign refl;
      ends = refl;
      read = rw (sign, equal) refl;
      fewer = rw (sign, equal) (omega arith);
    }

hyphen_operator : (total : ℕ) (rest : List ℕ) → IsOperator total Hyphen (124 ∷ 61 ∷ rest) rest
unfolding token at_number at_name operator_of
hyphen_operator total rest =
    let sign = token_first total 124 (61 ∷ rest) (61 ∷ rest) (Delim 124) refl refl in
    let equal = equals_token total rest in
    record {
      spaces = rw (sign, equal) refl;
      bar = rw (sign, equal) refl;
      more = rw sign refl;
      ends = refl;
      read = rw (sign, equal) refl;
      fewer = rw (sign, equal) (omega arith);
    }

prefix_operator : (total : ℕ) (rest : List ℕ) → IsOperator total Prefix (94 ∷ 61 ∷ rest) rest
unfolding token at_number at_name operator_of
prefix_operator total rest =
    let sign = token_first total 94 (61 ∷ rest) (61 ∷ rest) (Delim 94) refl refl in
    let equal = equals_token total rest in
    record {
      spaces = rw (sign, equal) refl;
      bar = rw sign refl;
      more = rw sign refl;
      ends = refl;
      read = rw (sign, equal) refl;
      fewer = rw (sign, equal) (omega arith);
    }

suffix_operator : (total : ℕ) (rest : List ℕ) → IsOperator total Suffix (36 ∷ 61 ∷ rest) rest
unfolding token at_number at_name operator_of
suffix_operator total rest =
    let sign = token_first total 36 (61 ∷ rest) (61 ∷ rest) (Delim 36) refl refl in
    let equal = equals_token total rest in
    record {
      spaces = rw (sign, equal) refl;
      bar = rw sign refl;
      more = rw sign refl;
      ends = refl;
      read = rw (sign, equal) refl;
      fewer = rw (sign, equal) (omega arith);
    }

substring_operator : (total : ℕ) (rest : List ℕ) → IsOperator total Substring (42 ∷ 61 ∷ rest) rest
unfolding token at_number at_name operator_of
substring_operator total rest =
    let sign = token_first total 42 (61 ∷ rest) (61 ∷ rest) (Delim 42) refl refl in
    let equal = equals_token total rest in
    record {
      spaces = rw (sign, equal) refl;
      bar = rw sign refl;
      more = rw sign refl;
      ends = refl;
      read = rw (sign, equal) refl;
      fewer = rw (sign, equal) (omega arith);
    }

equal_operator : (total : ℕ) (rest : List ℕ) → IsOperator total Equal (61 ∷ rest) rest
unfolding operator_of
equal_operator total rest =
    let is = equals_token total rest in
    record { spaces = rw is refl; bar = rw is refl; more = rw is refl; ends = refl; read = rw is refl; fewer = rw is (omega arith) }

operator_read : (total : ℕ) (operator : Operator) (rest : List ℕ) → is_present operator ≡ false
    → IsOperator total operator (operator_text operator ++ rest) rest
operator_read total Present rest some = absurd (true≢false some)
operator_read total Equal rest some = equal_operator total rest
operator_read total Word rest some = word_operator total rest
operator_read total Hyphen rest some = hyphen_operator total rest
operator_read total Prefix rest some = prefix_operator total rest
operator_read total Suffix rest some = suffix_operator total rest
operator_read total Substring rest some = substring_operator total rest

-- what is read behind a value
record IsCase (total : ℕ) (case : CaseSensitivity) (chars rest : List ℕ) : Type 0 where
  pub read : case_named (ident_of (past_spaces (tokens_of total chars))) (past_spaces (tokens_of total chars))
      ≡ Ok (case, placed (Delim 93) (total - length (93 ∷ rest)) ∷ tokens_of total rest)
  pub fewer : length (tokens_of total rest) < length (tokens_of total chars)

i_word : IsWord (codes "i")
unfolding identifier
i_word = record { is_name = no_zeros (codes "i") refl; as_it_is = refl }

s_word : IsWord (codes "s")
unfolding identifier
s_word = record { is_name = no_zeros (codes "s") refl; as_it_is = refl }

case_read : (total : ℕ) (case : CaseSensitivity) (rest : List ℕ) → IsCase total case (case_text case ++ 93 ∷ rest) rest
case_read total AsHtml rest =
    let end = end_bracket_token total rest in
    record { read = rw end refl; fewer = rw end (omega arith) }
case_read total Insensitive rest =
    let space = space_token total (105 ∷ 93 ∷ rest) refl in
    let word = word_token total (codes "i") (93 ∷ rest) i_word refl in
    let end = end_bracket_token total rest in
    record { read = rw (space, word, end) refl; fewer = rw (space, word, end) (omega arith) }
case_read total Sensitive rest =
    let space = space_token total (115 ∷ 93 ∷ rest) refl in
    let word = word_token total (codes "s") (93 ∷ rest) s_word refl in
    let end = end_bracket_token total rest in
    record { read = rw (space, word, end) refl; fewer = rw (space, word, end) (omega arith) }

-- an operator, a value and what it is compared by
value_fewer : (total : ℕ) (test : AttributeTest) (rest : List ℕ)
    → length (tokens_of total (quoted test.value ++ (case_text test.case ++ 93 ∷ rest)))
    ≤ length (tokens_of total (operator_text test.operator ++ (quoted test.value ++ (case_text test.case ++ 93 ∷ rest))))
    → tokens_of total (quoted test.value ++ (case_text test.case ++ 93 ∷ rest))
    ≡ placed (Str test.value) (total - length (quoted test.value ++ (case_text test.case ++ 93 ∷ rest)))
    ∷ tokens_of total (case_text test.case ++ 93 ∷ rest)
    → length (tokens_of total rest) < length (tokens_of total (case_text test.case ++ 93 ∷ rest))
    → length (tokens_of total rest)
    < length (tokens_of total (operator_text test.operator ++ (quoted test.value ++ (case_text test.case ++ 93 ∷ rest))))
value_fewer total test rest operator value case = omega (arith, operator, ap length value, case)

compared_read : (total : ℕ) (test : AttributeTest) (rest : List ℕ) → NoZero test.value → is_present test.operator ≡ false
    → IsValue total test (operator_text test.operator ++ (quoted test.value ++ (case_text test.case ++ 93 ∷ rest))) rest
unfolding compared
compared_read total test rest value some =
    let behind = case_text test.case ++ 93 ∷ rest in
    let o = operator_read total test.operator (quoted test.value ++ behind) some in
    let v = string_token total test.value behind value in
    let c = case_read total test.case rest in
    record {
      spaces = o.spaces;
      bar = o.bar;
      ends = o.ends;
      read = rw (o.more, o.read, v, c.read) refl;
      fewer = value_fewer total test rest o.fewer v c.fewer;
    }

no_operator : (namespace : NamespaceTest) (name : List ℕ) (operator : Operator) (value : List ℕ) (case : CaseSensitivity)
    → operator ≡ Present → value ≡ [] → case ≡ AsHtml → tested namespace name Present [] AsHtml ≡ tested namespace name operator value case
no_operator namespace name operator value case a b c = cc

present_is : (operator : Operator) → is_present operator ≡ true → operator ≡ Present
present_is Present h = refl
present_is Equal h = absurd (false≢true h)
present_is Word h = absurd (false≢true h)
present_is Hyphen h = absurd (false≢true h)
present_is Prefix h = absurd (false≢true h)
present_is Suffix h = absurd (false≢true h)
present_is Substring h = absurd (false≢true h)

present_read : (total : ℕ) (test : AttributeTest) (rest : List ℕ) → IsAttribute test → test.operator ≡ Present
    → IsValue total test (93 ∷ rest) rest
present_read total test rest is present =
    let end = end_bracket_token total rest in
    let none : is_present test.operator ≡ true = ap is_present present in
    record {
      spaces = rw end refl;
      bar = rw end refl;
      ends = refl;
      read = rw end (ap (λ (t : AttributeTest). Ok (t, tokens_of total rest))
          (no_operator test.namespace test.name test.operator test.value test.case present (is.no_value none) (is.no_case none)));
      fewer = rw end (omega arith);
    }

value_read : (total : ℕ) (test : AttributeTest) (rest : List ℕ) → IsAttribute test → IsValue total test (value_text test ++ 93 ∷ rest) rest
value_read total test rest is = elim (cases_Bool (is_present test.operator)) [
  | inl present ↦ rw present (present_read total test rest is (present_is test.operator present))
  | inr some ↦ rw some (subst (λ (x : List ℕ). IsValue total test x rest)
      (sym (append_assoc (operator_text test.operator ++ quoted test.value) (case_text test.case) (93 ∷ rest)
      ∙ append_assoc (operator_text test.operator) (quoted test.value) (case_text test.case ++ 93 ∷ rest)))
      (compared_read total test rest is.value some))
]

-- ATTRIBUTE SELECTORS

attribute_fewer : (total : ℕ) (test : AttributeTest) (rest : List ℕ)
    → tokens_of total (91 ∷ (attribute_prefix test.namespace ++ (identifier test.name ++ (value_text test ++ 93 ∷ rest))))
    ≡ placed (Delim 91) (total - length (91 ∷ (attribute_prefix test.namespace ++ (identifier test.name ++
    (value_text test ++ 93 ∷ rest)))))
    ∷ tokens_of total (attribute_prefix test.namespace ++ (identifier test.name ++ (value_text test ++ 93 ∷ rest)))
    → length (tokens_of total (identifier test.name ++ (value_text test ++ 93 ∷ rest)))
    ≤ length (tokens_of total (attribute_prefix test.namespace ++ (identifier test.name ++ (value_text test ++ 93 ∷ rest))))
    → tokens_of total (identifier test.name ++ (value_text test ++ 93 ∷ rest))
    ≡ placed (Ident test.name) (total - length (identifier test.name ++ (value_text test ++ 93 ∷ rest)))
    ∷ tokens_of total (value_text test ++ 93 ∷ rest)
    → length (tokens_of total rest) < length (tokens_of total (value_text test ++ 93 ∷ rest))
    → length (tokens_of total rest)
    < length (tokens_of total (91 ∷ (attribute_prefix test.namespace ++ (identifier test.name ++ (value_text test ++ 93 ∷ rest)))))
attribute_fewer total test rest bracket prefix_fewer name value = omega (arith, ap length bracket, prefix_fewer, ap length name, value)

behind_bracket : (total : ℕ) (test : AttributeTest) (rest : List ℕ) → IsAttribute test
    → IsRead total (Attribute test) (91 ∷ (attribute_prefix test.namespace ++ (identifier test.name ++
    (value_text test ++ 93 ∷ rest)))) rest
unfolding next_part attribute_part attribute
behind_bracket total test rest is =
    let behind = value_text test ++ 93 ∷ rest in
    let v = value_read total test rest is in
    let name = ident_token total test.name behind is.name v.ends in
    let p = prefix_read total (total - length (identifier test.name ++ behind)) test.namespace test.name
    (identifier test.name ++ behind) behind name v.bar in
    let bracket = bracket_token total (attribute_prefix test.namespace ++ (identifier test.name ++ behind)) in
    record {
      next = λ in_has. rw (bracket, p.is_prefix.spaces, p.is_prefix.read, name, v.spaces, p.stands_for, v.read) refl;
      fewer = attribute_fewer total test rest bracket p.is_prefix.fewer name v.fewer;
    }

pub attribute_read : (total : ℕ) (test : AttributeTest) (rest : List ℕ) → IsAttribute test
    → IsRead total (Attribute test) (simple_text (Attribute test) ++ rest) rest
unfolding attribute_text
attribute_read total test rest is =
    let front = (codes "[" ++ attribute_prefix test.namespace) ++ identifier test.name in
    let all : (front ++ (value_text test ++ codes "]")) ++ rest
    ≡ 91 ∷ (attribute_prefix test.namespace ++ (identifier test.name ++ (value_text test ++ 93 ∷ rest))) =
    append_assoc front (value_text test ++ codes "]") rest
    ∙ (ap (λ (x : List ℕ). front ++ x) (append_assoc (value_text test) (codes "]") rest)
    ∙ append_assoc (codes "[" ++ attribute_prefix test.namespace) (identifier test.name) (value_text test ++ 93 ∷ rest)) in
    subst (λ (x : List ℕ). IsRead total (Attribute test) x rest) (sym all) (behind_bracket total test rest is)
