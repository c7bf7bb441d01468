-- What calls of `normalise` come to, by what they promise alone.
use Rattle.std.specs.Prelude.{◌≡◌, ℕ, Bool, true, List, Option}
use Rattle.std.specs.Io.KnownBytes.{append_known}
use Rattle.std.specs.Str.{chars}
use Rattle.markup.specs.Forest.{Forest}
use Rattle.markup.specs.Trees.{Trees}
use Rattle.markup.specs.declared.quirks.QuirksMode.TheVariants.{NoQuirks}
use Rattle.html_plain.specs.Grammar.{is_plain_forest}
use Rattle.html_tokens.specs.Laws.{ReadsEscapes}
use Rattle.html_tokens.specs.Table.{Row}
use Rattle.html_normal.specs.Again.{IsNormal}
use Rattle.html_normal.specs.Document.{document_bytes, document_trees, is_free_of_emitted}
use Rattle.html_normal.specs.Normal.{IsNormalised}
use Rattle.html_normal.specs.declared.report.Report.{Report}

-- a report of a plain document that is not in quirks mode, which was written as these bytes after what was written before; no error was
-- counted, unless they have control characters or noncharacters and these are told
pub record IsWritten (exact : Bool) (bytes : List ℕ) (old new : Option (List ℕ)) (report : Report) : Type 0 where
  pub plain : report.plain ≡ true
  pub no_quirks : report.quirks ≡ NoQuirks
  pub output : new ≡ append_known old bytes
  pub no_error : is_free_of_emitted exact (chars bytes) ≡ true → report.errors ≡ 0

-- Normal bytes are read as a document with the trees that they are normal with, and written as they are, however they are read, and
-- without an error.
abbrev pub AreNormalBytesKept : Type 0
AreNormalBytesKept = (table : List Row) (exact : Bool) (trees : Trees) (bytes : List ℕ)
    (left old new : Option (List ℕ)) (report : Report) → IsNormal table trees bytes
    → (given : IsNormalised table exact bytes left old new report)
    → IsWritten exact bytes old new report × (document_trees given.document ≡ trees)

-- What a plain forest is written as is normal with its trees, by whatever table that reads what escaping writes.
abbrev pub ArePlainForestsNormal : Type 0
ArePlainForestsNormal = (table : List Row) → ReadsEscapes table → (f : Forest) → is_plain_forest f ≡ true
    → IsNormal table (document_trees f) (document_bytes f)
