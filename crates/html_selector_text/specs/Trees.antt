-- Selectors as the definitions see them: what the crate `selectors` has, without where it lies in memory.
use Rattle.std.specs.Prelude.{List, [], ◌∷◌}
use Rattle.selectors.specs.declared.selector.Combinator.{Combinator}
use Rattle.selectors.specs.declared.selector.Complex.{Complex, Alone', Beside'}
use Rattle.selectors.specs.declared.selector.Compound.{Compound}
use Rattle.selectors.specs.declared.selector.Nth.{Nth}
use Rattle.selectors.specs.declared.selector.Relative.{Relative, To', Then'}
use Rattle.selectors.specs.declared.selector.Selectors as selectors
use Rattle.selectors.specs.declared.selector.Selectors.{Selectors, Or'}
use Rattle.selectors.specs.declared.selector.Simple.{Simple}
use Rattle.selectors.specs.declared.selector.Tests as tests
use Rattle.selectors.specs.declared.selector.Tests.{Tests, Is', Not', Has', NthOf'}
use Rattle.html_selector_text.specs.declared.trees.LeftPart.{LeftPart}

mutual
  -- selectors, one of which is to select, from the last one on
  pub data ListTree : Type 0 where
    NoSelectors : ListTree
    OrSelector : ComplexTree → ListTree → ListTree

  -- compound selectors with the combinators between them; the last one is asked of the element itself
  pub data ComplexTree : Type 0 where
    AloneTree : List Simple → TestsTree → ComplexTree
    BesideTree : ComplexTree → Combinator → List Simple → TestsTree → ComplexTree

  -- compound selectors behind the combinators in front of them
  pub data RelativeTree : Type 0 where
    ToTree : Combinator → List Simple → TestsTree → RelativeTree
    ThenTree : Combinator → List Simple → TestsTree → RelativeTree → RelativeTree

  -- pseudo-classes with selectors in them, from the last one on
  pub data TestsTree : Type 0 where
    NoTests : TestsTree
    IsTest : ListTree → TestsTree → TestsTree
    NotTest : ListTree → TestsTree → TestsTree
    HasTest : RelativeTree → TestsTree → TestsTree
    NthOfTest : Nth → ListTree → TestsTree → TestsTree

-- a compound selector: its simple selectors, and its pseudo-classes with selectors in them
pub record CompoundTree : Type 0 where
  pub simples : List Simple
  pub tests : TestsTree

abbrev mutual
  pub list_tree : Selectors → ListTree
  list_tree selectors.Nothing = NoSelectors
  list_tree (Or' p one q others) = OrSelector (complex_tree one) (list_tree others)

  pub complex_tree : Complex → ComplexTree
  complex_tree (Alone' simples tests) = AloneTree simples.items (tests_tree tests)
  complex_tree (Beside' p left combinator simples tests) =
      BesideTree (complex_tree left) combinator simples.items (tests_tree tests)

  pub relative_tree : Relative → RelativeTree
  relative_tree (To' combinator simples tests) = ToTree combinator simples.items (tests_tree tests)
  relative_tree (Then' combinator simples tests p rest) =
      ThenTree combinator simples.items (tests_tree tests) (relative_tree rest)

  pub tests_tree : Tests → TestsTree
  tests_tree tests.Nothing = NoTests
  tests_tree (Is' p those q others) = IsTest (list_tree those) (tests_tree others)
  tests_tree (Not' p those q others) = NotTest (list_tree those) (tests_tree others)
  tests_tree (Has' p relative q others) = HasTest (relative_tree relative) (tests_tree others)
  tests_tree (NthOf' nth p those q others) = NthOfTest nth (list_tree those) (tests_tree others)

abbrev pub compound_tree : Compound → CompoundTree
compound_tree compound = record { simples = compound.simples.items; tests = tests_tree compound.tests }

-- a compound selector with the combinator in front of it
pub record LeftTree : Type 0 where
  pub combinator : Combinator
  pub compound : CompoundTree

abbrev pub left_tree : LeftPart → LeftTree
left_tree part = record { combinator = part.combinator; compound = compound_tree part.compound }

-- a relative selector with compound selectors in front of it
abbrev pub joined : List LeftTree → RelativeTree → RelativeTree
joined [] rest = rest
joined (left ∷ lefts) rest = ThenTree left.combinator left.compound.simples left.compound.tests (joined lefts rest)
