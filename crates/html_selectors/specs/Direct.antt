-- Direct selectors: whether one of them selects an element is seen at the element, and at the parents and previous elements to which its
-- combinators lead, with no search of the page.
use Rattle.std.specs.Prelude.{◌&&◌, Bool, true, false, not}
use Rattle.std.specs.List.{list_all}
use Rattle.selectors.specs.declared.selector.Combinator.{Combinator}
use Rattle.selectors.specs.declared.selector.Combinator.TheVariants.{Child, NextSibling}
use Rattle.selectors.specs.declared.selector.Complex.{Complex, Alone', Beside'}
use Rattle.selectors.specs.declared.selector.Compound.{Compound}
use Rattle.selectors.specs.declared.selector.Operator.{Operator}
use Rattle.selectors.specs.declared.selector.Operator.TheVariants.{Substring}
use Rattle.selectors.specs.declared.selector.Selectors as selectors
use Rattle.selectors.specs.declared.selector.Selectors.{Selectors, Or'}
use Rattle.selectors.specs.declared.selector.Simple.{Simple}
use Rattle.selectors.specs.declared.selector.Simple.TheVariants.{Attribute as WithAttribute, NthChild, NthOfType}
use Rattle.selectors.specs.declared.selector.Tests as tests
use Rattle.selectors.specs.declared.selector.Tests.{Tests, Is', Not', Has', NthOf'}

abbrev pub is_substring : Operator → Bool
is_substring Substring = true
is_substring _ = false

-- places are counted, and substrings are found in values that are put in lower case first
abbrev pub is_direct_simple : Simple → Bool
is_direct_simple (WithAttribute test) = not (is_substring test.operator)
is_direct_simple (NthChild nth) = false
is_direct_simple (NthOfType nth) = false
is_direct_simple _ = true

-- a combinator that leads from an element to one other at most
abbrev pub leads_to_one : Combinator → Bool
leads_to_one Child = true
leads_to_one NextSibling = true
leads_to_one _ = false

abbrev mutual
  pub are_direct : Selectors → Bool
  are_direct selectors.Nothing = true
  are_direct (Or' p one q others) = is_direct one && are_direct others

  pub is_direct : Complex → Bool
  is_direct (Alone' simples tests) = list_all is_direct_simple simples.items && are_direct_tests tests
  is_direct (Beside' p left combinator simples tests) =
      leads_to_one combinator && (is_direct left && (list_all is_direct_simple simples.items && are_direct_tests tests))

  pub are_direct_tests : Tests → Bool
  are_direct_tests tests.Nothing = true
  are_direct_tests (Is' p those q others) = are_direct those && are_direct_tests others
  are_direct_tests (Not' p those q others) = are_direct those && are_direct_tests others
  are_direct_tests (Has' p relative q others) = false
  are_direct_tests (NthOf' nth p those q others) = false

abbrev pub is_direct_compound : Compound → Bool
is_direct_compound compound = list_all is_direct_simple compound.simples.items && are_direct_tests compound.tests
