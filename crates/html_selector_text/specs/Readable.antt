-- Selectors whose text is read back as the same selectors.
use Rattle.std.specs.Prelude.{◌≡◌, ◌≤◌, ◌⊎◌, ℕ, ◌-◌, Bool, true, false, List, [], ◌∷◌}
use Rattle.selectors.specs.declared.selector.AttributeTest.{AttributeTest}
use Rattle.selectors.specs.declared.selector.CaseSensitivity.TheVariants.{AsHtml}
use Rattle.selectors.specs.declared.selector.Nth.{Nth}
use Rattle.selectors.specs.declared.selector.Simple.{Simple}
use Rattle.selectors.specs.declared.selector.Simple.TheVariants.{«Type», Namespace, Id, Class, Attribute, Root}
use Rattle.selectors.specs.declared.selector.Simple.TheVariants.{Scope, Empty, NthChild, NthOfType}
use Rattle.html_selector_text.specs.Parts.{beyond_limit}
use Rattle.html_selector_text.specs.Scanning.{tokens}
use Rattle.html_selector_text.specs.Trees.{ListTree, NoSelectors, OrSelector, ComplexTree, AloneTree, BesideTree}
use Rattle.html_selector_text.specs.Trees.{RelativeTree, ToTree, ThenTree, TestsTree, NoTests, IsTest, NotTest, HasTest, NthOfTest}
use Rattle.html_selector_text.specs.Written.{NoZero, is_none, is_present, written}

-- an identifier has a character at least, and no U+0000
abbrev pub IsName : List ℕ → Type 0
IsName [] = ⊥
IsName (c ∷ cs) = NoZero (c ∷ cs)

-- numbers are at most 1,000,000,000, and only with a step do they descend
pub record IsNth (nth : Nth) : Type 0 where
  pub first : nth.first ≤ 1000000000
  pub step : nth.step ≤ 1000000000
  pub rises : nth.step ≡ 0 → nth.descends ≡ false

-- without an operator there is no value
pub record IsAttribute (test : AttributeTest) : Type 0 where
  pub name : IsName test.name
  pub value : NoZero test.value
  pub no_value : is_present test.operator ≡ true → test.value ≡ []
  pub no_case : is_present test.operator ≡ true → test.case ≡ AsHtml

-- a simple selector that stands behind a type selector
abbrev pub IsPart : Simple → Type 0
IsPart («Type» name) = ⊥
IsPart (Namespace known) = ⊥
IsPart (Id name) = IsName name
IsPart (Class name) = IsName name
IsPart (Attribute test) = IsAttribute test
IsPart Root = Unit {0}
IsPart Scope = Unit {0}
IsPart Empty = Unit {0}
IsPart (NthChild nth) = IsNth nth
IsPart (NthOfType nth) = IsNth nth

abbrev pub AreParts : List Simple → Type 0
AreParts [] = Unit {0}
AreParts (s ∷ simples) = IsPart s × AreParts simples

-- a name comes first
abbrev pub AreNamed : List Simple → Type 0
AreNamed [] = Unit {0}
AreNamed («Type» name ∷ simples) = IsName name × AreParts simples
AreNamed (s ∷ simples) = AreParts (s ∷ simples)

-- a namespace stands before it
abbrev pub AreSimples : List Simple → Type 0
AreSimples [] = Unit {0}
AreSimples (Namespace known ∷ simples) = AreNamed simples
AreSimples (s ∷ simples) = AreNamed (s ∷ simples)

-- within `:has()` or not, with at most so many parentheses in one another
abbrev mutual
  pub IsList : ListTree → ℕ → Bool → Type 0
  IsList NoSelectors depth in_has = Unit {0}
  IsList (OrSelector one others) depth in_has = IsComplex one depth in_has × IsList others depth in_has

  pub IsComplex : ComplexTree → ℕ → Bool → Type 0
  IsComplex (AloneTree simples tests) depth in_has = AreSimples simples × IsTests tests depth in_has
  IsComplex (BesideTree left combinator simples tests) depth in_has =
      IsComplex left depth in_has × (AreSimples simples × IsTests tests depth in_has)

  -- what `:has()` asks
  pub IsHasList : ListTree → ℕ → Type 0
  IsHasList NoSelectors depth = Unit {0}
  IsHasList (OrSelector one others) depth = IsHas one depth × IsHasList others depth

  pub IsHas : ComplexTree → ℕ → Type 0
  IsHas (AloneTree simples tests) depth = (simples ≡ []) × IsHasAlone tests depth
  IsHas (BesideTree left combinator simples tests) depth = ⊥

  pub IsHasAlone : TestsTree → ℕ → Type 0
  IsHasAlone NoTests depth = ⊥
  IsHasAlone (IsTest list others) depth = ⊥
  IsHasAlone (NotTest list others) depth = ⊥
  IsHasAlone (HasTest relative others) depth = IsRelative relative depth × (others ≡ NoTests)
  IsHasAlone (NthOfTest nth list others) depth = ⊥

  pub IsRelative : RelativeTree → ℕ → Type 0
  IsRelative (ToTree combinator simples tests) depth = AreSimples simples × IsTests tests depth true
  IsRelative (ThenTree combinator simples tests rest) depth =
      (AreSimples simples × IsTests tests depth true) × IsRelative rest depth

  -- `:is()` may be empty, and stands for `:has()`, which is not in another one
  pub IsTests : TestsTree → ℕ → Bool → Type 0
  IsTests NoTests depth in_has = Unit {0}
  IsTests (IsTest list others) depth in_has = (1 ≤ depth)
      × ((IsList list (depth - 1) in_has ⊎ ((in_has ≡ false) × ((is_none list ≡ false) × IsHasList list (depth - 1))))
      × IsTests others depth in_has)
  IsTests (NotTest list others) depth in_has =
      (1 ≤ depth) × ((is_none list ≡ false) × (IsList list (depth - 1) in_has × IsTests others depth in_has))
  IsTests (HasTest relative others) depth in_has = ⊥
  IsTests (NthOfTest nth list others) depth in_has =
      (1 ≤ depth) × (IsNth nth × ((is_none list ≡ false) × (IsList list (depth - 1) in_has × IsTests others depth in_has)))

-- as the grammar gives selectors
pub record IsParsed (list : ListTree) : Type 0 where
  pub some : is_none list ≡ false
  pub parts : IsList list 32 false

-- and their text has at most 4,096 parts: as parsing gives selectors
pub record IsReadable (list : ListTree) : Type 0 where
  pub parsed : IsParsed list
  pub short : beyond_limit (tokens (written list)) ≡ []
