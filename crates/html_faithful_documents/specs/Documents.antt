-- What it means that a document is read back from its written text.
use lib.Utf8.{scalars}
use Rattle.std.specs.Prelude.{◌≡◌, ℕ, Bool, true, false, List, [], None, Ok, IsUtf8, encode_utf8_all}
use Rattle.std.specs.Str.{chars}
use Rattle.markup.specs.Calls.{calls_of}
use Rattle.markup.specs.Forest.{Forest, children_of, empty_forest}
use Rattle.markup.specs.Named.{IsTree}
use Rattle.markup.specs.Trees.{Trees, Nothing, Text, Comment, ProcessingInstruction, Doctype, Element, default_entry, trees_of, written}
use Rattle.markup.specs.declared.quirks.QuirksMode.{QuirksMode}
use Rattle.markup.specs.declared.quirks.QuirksMode.TheVariants.{NoQuirks, Quirks}
use Rattle.html_rules.specs.Documents.{document}
use Rattle.html_rules.specs.State.{Answers, State}
use Rattle.html_rules.specs.declared.rules.Rules.{Rules}
use Rattle.html_tokens.specs.Laws.{ReadsEscapes}
use Rattle.html_tokens.specs.Table.{Row}
use Rattle.html_tokens.specs.declared.options.TokenizerOpts.{TokenizerOpts}
use Rattle.html_faithful.specs.Spots.{setting_of}
use Rattle.html_faithful.specs.Walk.{is_faithful_by}

abbrev pub document_trees : Forest → Trees
document_trees f = trees_of f (children_of f 0)

-- the text of a document, where scripts run or do not
abbrev pub text_of : Bool → Trees → List ℕ
text_of scripting trees = written scripting default_entry trees

-- The trees of a document as its text tells them: the identifiers of its doctype are not written (HTML Standard, section 13.3).
abbrev pub as_told : Trees → Trees
as_told Nothing = Nothing
as_told (Text text rest) = Text text (as_told rest)
as_told (Comment text rest) = Comment text (as_told rest)
as_told (ProcessingInstruction target text rest) = ProcessingInstruction target text (as_told rest)
as_told (Doctype name public_id system_id rest) = Doctype name [] [] (as_told rest)
as_told (Element name attributes template kids rest) = Element name attributes template kids (as_told rest)

-- the quirks mode that a text asks for whose doctype has no identifiers: none if there is a doctype (section 13.2.6.4.1)
abbrev pub told_quirks : Trees → QuirksMode
told_quirks (Comment text rest) = told_quirks rest
told_quirks (Doctype name public_id system_id rest) = NoQuirks
told_quirks trees = Quirks

-- The document of the written text of trees has just these trees, in the quirks mode that the text asks for, and is written so again.
pub record IsReadBack (rows : List Row) (opts : TokenizerOpts) (rules : Rules) (answers : Answers) (scripting : Bool) (trees : Trees) : Type 0 where
  pub left : State
  pub gives : document rows opts (setting_of rules scripting answers) empty_forest (text_of scripting trees) ≡ Ok left
  pub tree : IsTree left.forest
  pub shows : document_trees left.forest ≡ as_told trees
  -- so its walk makes the same calls of a serializer
  pub told : calls_of (document_trees left.forest) ≡ calls_of trees
  pub quirks : left.forest.quirks ≡ told_quirks trees
  pub written_again : text_of scripting (document_trees left.forest) ≡ text_of scripting trees

-- The written text of faithful trees is read as just them, by every table that reads what escaping writes, whatever a sink answers.
abbrev pub AreFaithfulTreesReadBack : Type 0
AreFaithfulTreesReadBack = (rows : List Row) → ReadsEscapes rows → (opts : TokenizerOpts) → opts.initial_state ≡ None
    → (rules : Rules) (answers : Answers) (scripting : Bool) (trees : Trees) → is_faithful_by rules scripting trees ≡ true → IsReadBack rows opts rules answers scripting trees

-- The bytes of such a text: UTF-8, of which the document is that of the text, and is written as the same bytes.
pub record AreBytesReadBack (rows : List Row) (opts : TokenizerOpts) (rules : Rules) (answers : Answers) (scripting : Bool) (trees : Trees)
    (bytes : List ℕ) : Type 0 where
  pub utf8 : IsUtf8 bytes
  pub text : chars bytes ≡ text_of scripting trees
  pub read : IsReadBack rows opts rules answers scripting trees
  pub same_bytes : encode_utf8_all (text_of scripting (document_trees read.left.forest)) ≡ bytes

-- where the text is made of scalar values, as every text of a program is
abbrev pub AreFaithfulBytesReadBack : Type 0
AreFaithfulBytesReadBack = (rows : List Row) → ReadsEscapes rows → (opts : TokenizerOpts) → opts.initial_state ≡ None
    → (rules : Rules) (answers : Answers) (scripting : Bool) (trees : Trees) → is_faithful_by rules scripting trees ≡ true → scalars (text_of scripting trees) ≡ true
    → AreBytesReadBack rows opts rules answers scripting trees (encode_utf8_all (text_of scripting trees))
