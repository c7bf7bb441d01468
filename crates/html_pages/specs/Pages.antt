-- The documents and the fragments that pages are read as (HTML Standard, sections 13.2 and 13.4).
use Rattle.std.specs.Prelude.{◌≡◌, ℕ, Bool, List, None, Ok}
use Rattle.std.specs.Str.{chars}
use Rattle.markup.specs.Forest.{Forest}
use Rattle.markup.specs.Namespaces.{name_of}
use Rattle.markup.specs.TreeLaws.{with_errors}
use Rattle.markup.specs.declared.names.QualName.{QualName}
use Rattle.markup.specs.declared.namespaces.KnownNamespace.TheVariants.{Html}
use Rattle.html_rules.specs.State.{State}
use Rattle.html_rules.specs.declared.rules.Rules.{Rules}
use Rattle.html_rules.specs.declared.rules.Rules.TheVariants.{Html5ever}
use Rattle.html_tokens.specs.Table.{Row}
use Rattle.html_normal.specs.Document.{CountsErrorsBy, IsDocumentBy}
use Rattle.html_normal.specs.Fragment.{fragment_by}

-- A forest is the document that the rules give bytes of UTF-8, and its number of errors counts what is told of them: `exact` is whether
-- control characters and noncharacters are told.
pub record IsPageBy (rules : Rules) (table : List Row) (exact : Bool) (bytes : List ℕ) (f : Forest) : Type 0 where
  pub document : IsDocumentBy rules table bytes (with_errors 0 f)
  pub counts : CountsErrorsBy rules table exact (chars bytes) f.errors

-- by html5ever's rules
abbrev pub IsPage : List Row → Bool → List ℕ → Forest → Type 0
IsPage table exact bytes f = IsPageBy Html5ever table exact bytes f

-- the name of an element of HTML
abbrev pub html_name : List ℕ → QualName
html_name local = record { prefix = None; ns = name_of Html; local = local }

-- A forest is what the rules make of a text in an element of that name, where scripts run.
pub record IsFragmentBy (rules : Rules) (table : List Row) (name : QualName) (text : List ℕ) (f : Forest) : Type 0 where
  pub state : State
  pub read : fragment_by rules table name text ≡ Ok state
  pub tree : with_errors 0 f ≡ state.forest

-- by html5ever's rules
abbrev pub IsFragment : List Row → QualName → List ℕ → Forest → Type 0
IsFragment table name text f = IsFragmentBy Html5ever table name text f
