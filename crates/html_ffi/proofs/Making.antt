-- What was made of a page in memory, and why nothing was.
use Rattle.std.proofs.Common.{◌∙◌, ◌≡◌, ℕ, true, false, List, [], Option, Some, ap, refl, subst, sym, encode_utf8_all}
use Rattle.std.specs.Io.KnownBytes.{append_known}
use Rattle.std.specs.Str.{IsValidUpTo, chars}
use Rattle.markup.specs.Trees.{Trees}
use Rattle.html_clean.specs.Pieces.{written_pieces}
use Rattle.html_clean.specs.declared.counts.Cleaned.{Cleaned}
use Rattle.html_clean.specs.declared.policy.Policy.{Policy}
use Rattle.html_clean_document.specs.Clean.{IsCleaned}
use Rattle.html_input.specs.TableFault.{IsTableFault, IsTableFile}
use Rattle.html_input.specs.declared.table.TableFileFault.{TableFileFault}
use Rattle.html_input.specs.declared.table.TableFileFault.TheVariants as file
use Rattle.html_tokens.specs.declared.table.TableFault.TheVariants as table
use Rattle.html_tokens.specs.Table.{Row}
use Rattle.html_normal.specs.Document.{document_bytes}
use Rattle.html_normal.specs.Normal.{IsNormalised}
use Rattle.html_normal.specs.declared.fault.NormalFault.{NormalFault}
use Rattle.html_normal.specs.declared.fault.NormalFault.TheVariants as normal
use Rattle.html_normal.specs.declared.report.Report.{Report}
use Rattle.html_ffi.specs.Answers.{Fails, failure_of, table_failure_of}
use Rattle.html_ffi.specs.Calls.{IsNormalText}
use Rattle.html_ffi.specs.declared.answer.Failure.{Failure}

table-fails : (bytes page left : List ℕ) (fault : TableFileFault) → IsTableFault (Some bytes) (Some left) fault
    → Fails bytes page (table_failure_of fault).answer (table_failure_of fault).at
table-fails bytes page left (file.NotUtf8 at) is = (is bytes left refl refl).front
table-fails bytes page left file.Read is = refl
table-fails bytes page left (file.BadLine line) is = is bytes refl
table-fails bytes page left (file.Table (table.BadName row)) is = is.1 bytes refl
table-fails bytes page left (file.Table (table.Duplicate row)) is = is.1 bytes refl
table-fails bytes page left (file.Table (table.BadValue row)) is = is.1 bytes refl
table-fails bytes page left (file.Table table.Memory) is = refl
table-fails bytes page left file.Memory is = refl

-- what is wrong with a table whose bytes were read
pub table-failed : (bytes page read left : List ℕ) (fault : TableFileFault) (made : Failure) → read ≡ bytes
    → made ≡ table_failure_of fault → IsTableFault (Some read) (Some left) fault → Fails bytes page made.answer made.at
table-failed bytes page read left fault made same is given =
    subst (λ (f : Failure). Fails bytes page f.answer f.at) (sym is)
    (table-fails bytes page left fault (subst (λ (bs : List ℕ). IsTableFault (Some bs) (Some left) fault) same given))

-- what is wrong with a page of which no text was made, by what a fault of reading and writing says
pub page-failed : (bytes page : List ℕ) (Given : NormalFault → Type 0) (fault : NormalFault) (made : Failure)
    → ((at : ℕ) → Given (normal.NotUtf8 at) → IsValidUpTo page at) → made ≡ failure_of fault → Given fault
    → Fails bytes page made.answer made.at
page-failed bytes page Given (normal.NotUtf8 at) made valid is given =
    subst (λ (f : Failure). Fails bytes page f.answer f.at) (sym is) (valid at given)
page-failed bytes page Given normal.Read made valid is given = subst (λ (f : Failure). Fails bytes page f.answer f.at) (sym is) refl
page-failed bytes page Given normal.Write made valid is given = subst (λ (f : Failure). Fails bytes page f.answer f.at) (sym is) refl
page-failed bytes page Given normal.Memory made valid is given = subst (λ (f : Failure). Fails bytes page f.answer f.at) (sym is) refl
page-failed bytes page Given normal.Refused made valid is given = subst (λ (f : Failure). Fails bytes page f.answer f.at) (sym is) refl

-- a page that was normalised to a writer with nothing in it
pub normal-made : (file page : List ℕ) (rows : List Row) (left : Option (List ℕ)) (old written : List ℕ)
    (report : Report) → IsTableFile file (Some []) rows → old ≡ [] → IsNormalised rows false page left (Some old)
    (Some written) report → IsNormalText file page written report
normal-made file page rows left old written report table none n = record {
  rows = rows;
  table = table;
  normal = record {
    document = n.document;
    input = n.input;
    taken = refl;
    output = n.output ∙ ap (λ (o : List ℕ). append_known (Some o) (document_bytes n.document)) none;
    plain = n.plain;
    quirks = n.quirks;
    errors = n.errors;
    again = n.again;
  };
}

-- what a policy keeps of a page, written to a writer with nothing in it
pub cleaned-made : (of : List ℕ → Trees → Type 0) (policy : Policy) (page : List ℕ) (left : Option (List ℕ))
    (old written : List ℕ) (counts : Cleaned) → old ≡ [] → IsCleaned of policy page left (Some old)
    (Some written) counts → IsCleaned of policy page (Some []) (Some []) (Some written) counts
cleaned-made of policy page left old written counts none c = record {
  pieces = c.pieces;
  kept = c.kept;
  taken = refl;
  output = c.output ∙ ap (λ (o : List ℕ). append_known (Some o) (encode_utf8_all (written_pieces c.pieces))) none;
  counts_are = c.counts_are;
}

-- a table that was read to its end
pub table-made : (bytes : List ℕ) (left : Option (List ℕ)) (rows : List Row) → IsTableFile bytes left rows
    → IsTableFile bytes (Some []) rows
table-made bytes left rows t = record { text = t.text; taken = refl; lines = t.lines; checked = t.checked }
