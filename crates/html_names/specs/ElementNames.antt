-- The namespace and the name of an element, and how they are held.
use Rattle.std.specs.Prelude.{◌≡◌, ◌<◌, ℕ, List, [], length, slice_index_or, false, ⊤}
use Rattle.std.specs.List.{list_any}
use Rattle.std.specs.Str.{bytes_eq}
use Rattle.markup.specs.KnownNames.{names}
use Rattle.html_rules.specs.Names.{Namespace, namespace_of}
use Rattle.html_rules.specs.declared.rules.Rules.{Rules}
use Rattle.html_names.specs.Classes.{IsRowBy, kind_of}
use Rattle.html_names.specs.declared.element_class.ElementNamespace.{ElementNamespace}
use Rattle.html_names.specs.declared.element_class.ElementNamespace.TheVariants.{Html, MathMl, Svg, Other}
use Rattle.html_names.specs.declared.element_name.NameForm.{NameForm}
use Rattle.html_names.specs.declared.element_name.NameForm.TheVariants.{Known, Rare}

pub record Named : Type 0 where
  pub namespace : Namespace
  pub name : List ℕ
  pub rules : Rules

-- the namespace of a kind that is no other
abbrev pub space_of : ElementNamespace → Namespace
space_of Html = Namespace.Html
space_of MathMl = Namespace.MathMl
space_of Svg = Namespace.Svg
space_of Other = Namespace.Other []

-- what a name is held as
abbrev pub space_by : ElementNamespace → NameForm → Namespace
space_by kind (Known known) = space_of kind
space_by kind (Rare rare) = namespace_of rare.value.namespace

abbrev pub name_by : NameForm → List ℕ
name_by (Known known) = slice_index_or names known.place []
name_by (Rare rare) = rare.value.name

abbrev pub named_by : Rules → ElementNamespace → NameForm → Named
named_by rules kind form = record { namespace = space_by kind form; name = name_by form; rules = rules }

-- a known name is in the table, and of a namespace that is known; another name of HTML is not known
abbrev pub FitsForm : ElementNamespace → NameForm → Type 0
FitsForm kind (Known known) = known.place < length names
FitsForm Html (Rare rare) = list_any (bytes_eq rare.value.name) names ≡ false
FitsForm kind (Rare rare) = ⊤

-- what is held fits the name
pub record IsFormed (rules : Rules) (kind : ElementNamespace) (sets : ℕ) (form : NameForm) : Type 0 where
  pub same : kind_of (named_by rules kind form).namespace ≡ kind
  pub row : IsRowBy rules (named_by rules kind form).namespace (named_by rules kind form).name sets
  pub fits : FitsForm kind form

-- a name is held with its namespace
abbrev pub IsRareForm : NameForm → List ℕ → List ℕ → Type 0
IsRareForm (Known known) uri name = ⊥
IsRareForm (Rare rare) uri name = (rare.value.namespace ≡ uri) × (rare.value.name ≡ name)

-- what is held is a name of a class
pub record Holds (rules : Rules) (kind : ElementNamespace) (form : NameForm) (space : Namespace) (name : List ℕ) : Type 0 where
  pub same : named_by rules kind form ≡ record { namespace = space; name = name; rules = rules }
  pub fits : FitsForm kind form
