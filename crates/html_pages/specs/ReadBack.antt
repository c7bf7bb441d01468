-- What is written of a document is read as that document again.
use Rattle.std.specs.Prelude.{◌≡◌, List, None}
use Rattle.markup.specs.Calls.{Call, calls_of}
use Rattle.markup.specs.Forest.{Forest}
use Rattle.markup.specs.declared.serializer.TraversalScope.TheVariants.{ChildrenOnly}
use Rattle.html_forest.specs.Walk.{walked}
use Rattle.html_rules.specs.declared.rules.Rules.{Rules}
use Rattle.html_rules.specs.declared.rules.Rules.TheVariants.{Html5ever}
use Rattle.html_tokens.specs.Table.{Row}
use Rattle.html_normal.specs.Document.{IsDocumentBy, document_bytes}

-- what a serializer is told of a document: its elements with their attributes, its texts, comments and processing instructions, and the
-- names of its doctypes, but not their identifiers, which are not written
abbrev pub told_of : Forest → List Call
told_of f = calls_of (walked f 0 (ChildrenOnly None))

-- The rules give what is written of a document a document of which a serializer is told the same, in the same quirks mode.
pub record IsReadBackBy (rules : Rules) (table : List Row) (f : Forest) : Type 0 where
  pub document : Forest
  pub input : IsDocumentBy rules table (document_bytes f) document
  pub told : told_of document ≡ told_of f
  pub quirks : document.quirks ≡ f.quirks

-- by html5ever's rules
abbrev pub IsReadBack : List Row → Forest → Type 0
IsReadBack table f = IsReadBackBy Html5ever table f
