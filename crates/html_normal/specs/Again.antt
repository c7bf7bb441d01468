-- What is written of a plain document is read again as that document.
use Rattle.std.specs.Prelude.{◌≡◌, ℕ, true, List}
use Rattle.std.specs.Str.{chars}
use Rattle.markup.specs.Forest.{Forest}
use Rattle.markup.specs.Trees.{Trees}
use Rattle.markup.specs.declared.quirks.QuirksMode.TheVariants.{NoQuirks}
use Rattle.html_plain.specs.Grammar.{is_plain_forest}
use Rattle.html_tokens.specs.Table.{Row}
use Rattle.html_normal.specs.Document.{IsDocument, document_bytes, document_trees, is_quiet_document}

-- Bytes are a text that is read without an error, whose document has just these trees, is plain, not in quirks mode, and written as just
-- these bytes.
pub record IsNormal (table : List Row) (given : Trees) (bytes : List ℕ) : Type 0 where
  pub document : Forest
  pub input : IsDocument table bytes document
  pub trees : document_trees document ≡ given
  pub plain : is_plain_forest document ≡ true
  pub no_quirks : document.quirks ≡ NoQuirks
  pub same : document_bytes document ≡ bytes
  pub quiet : is_quiet_document table (chars bytes) ≡ true
