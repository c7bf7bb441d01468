-- Faithful pages are read back.
use lib.Utf8.{scalars}
use Rattle.std.specs.Prelude.{◌≡◌, true, List}
use Rattle.markup.specs.Forest.{Forest, data_of}
use Rattle.markup.specs.Forest.NodeData.{Document}
use Rattle.html_tokens.specs.Laws.{ReadsEscapes}
use Rattle.html_tokens.specs.Table.{Row}
use Rattle.html_plain.specs.Grammar.{is_plain_document}
use Rattle.html_rules.specs.declared.rules.Rules.{Rules}
use Rattle.html_faithful.specs.Walk.{is_faithful_by}
use Rattle.html_faithful_documents.specs.Documents.{document_trees, text_of, told_quirks}
use Rattle.html_pages.specs.ReadBack.{IsReadBackBy}

-- A document whose trees are faithful by html5ever's rules or by the Standard's, in the quirks mode that its written text asks for: these
-- rules give its bytes a document for which a serializer gets the same calls, in the same quirks mode. The text consists of scalar values,
-- as every text of a program does.
abbrev pub AreFaithfulPagesReadBack : Type 0
AreFaithfulPagesReadBack = (rules : Rules) (table : List Row) → ReadsEscapes table → (f : Forest) → data_of f 0 ≡ Document
    → is_faithful_by rules true (document_trees f) ≡ true → scalars (text_of true (document_trees f)) ≡ true
    → f.quirks ≡ told_quirks (document_trees f) → IsReadBackBy rules table f

-- So plain documents are read back, by either rules.
abbrev pub ArePlainPagesReadBack : Type 0
ArePlainPagesReadBack = (rules : Rules) (table : List Row) → ReadsEscapes table → (f : Forest) → data_of f 0 ≡ Document
    → is_plain_document (document_trees f) ≡ true → f.quirks ≡ told_quirks (document_trees f)
    → scalars (text_of true (document_trees f)) ≡ true → IsReadBackBy rules table f
