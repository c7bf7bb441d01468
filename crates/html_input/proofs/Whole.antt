-- Bytes that were read to the end of a source.
use Rattle.std.proofs.Common.{◌≡◌, ℕ, List, [], ◌++◌, ap, sym, ◌∙◌, Option, None, Some, IsUtf8, subst}
use Rattle.std.specs.Prelude.{Ok}
use Rattle.std.specs.Io.KnownBytes.{IsAtEnd, prepend_known}
use Rattle.std.proofs.lemmas.List.{append-nil}
use Rattle.html_references.specs.References.{IsCheckedTable, IsFirstFault}
use Rattle.html_tokens.specs.declared.table.ReferenceRow.{ReferenceRow}
use Rattle.html_tokens.specs.declared.table.TableFault.{TableFault}
use Rattle.html_tokens.specs.declared.table.TableFault.TheVariants as table
use Rattle.html_input.specs.TableFile.{rows_of}
use Rattle.html_input.specs.TableFault.{HasBadRow, IsTableFault, IsTableFile, row_fault_of}

-- bytes that were read to the end of a source are all that it had
pub record IsAll (bytes whole : List ℕ) (left : Option (List ℕ)) : Type 0 where
  pub same : bytes ≡ whole
  pub taken : left ≡ Some []

pub all-read : (old new : Option (List ℕ)) (bytes whole : List ℕ) → old ≡ prepend_known bytes new → IsAtEnd new
    → old ≡ Some whole → IsAll bytes whole new
all-read old None bytes whole moved end told = let clash : None ≡ Some whole = sym moved ∙ told in cc
all-read old (Some left) bytes whole moved end told =
    let all : Some (bytes ++ left) ≡ Some whole = sym moved ∙ told in
    let joined : bytes ++ left ≡ whole = cc in
    record { same = sym (append-nil bytes) ∙ ap (λ t. bytes ++ t) (sym end) ∙ joined; taken = ap Some end }

bad-row : (fault : TableFault) (old new : Option (List ℕ)) (bytes : List ℕ) (rows : List ReferenceRow)
    → old ≡ prepend_known bytes new → IsAtEnd new → IsUtf8 bytes → rows_of bytes ≡ Ok rows → IsFirstFault rows fault
    → (whole : List ℕ) → old ≡ Some whole → HasBadRow whole fault
bad-row fault old new bytes rows moved end text lines first whole told =
    let all = all-read old new bytes whole moved end told in
    record { text = subst IsUtf8 all.same text; rows = rows; lines = ap rows_of (sym all.same) ∙ lines; first = first }

-- a file whose rows are a checked table
pub good-file : (old new : Option (List ℕ)) (bytes : List ℕ) (rows table : List ReferenceRow)
    → old ≡ prepend_known bytes new → IsAtEnd new → IsUtf8 bytes → rows_of bytes ≡ Ok rows → table ≡ rows
    → IsCheckedTable rows → (whole : List ℕ) → old ≡ Some whole → IsTableFile whole new table
good-file old new bytes rows table moved end text lines same checked whole told =
    let all = all-read old new bytes whole moved end told in
    record {
      text = subst IsUtf8 all.same text;
      taken = all.taken;
      lines = ap rows_of (sym all.same) ∙ lines ∙ ap Ok (sym same);
      checked = subst IsCheckedTable (sym same) checked;
    }

-- a fault of the rows of a file
pub row-fault : (fault : TableFault) (old new : Option (List ℕ)) (bytes : List ℕ) (rows : List ReferenceRow)
    → old ≡ prepend_known bytes new → IsAtEnd new → IsUtf8 bytes → rows_of bytes ≡ Ok rows
    → ((fault ≡ table.Memory → ⊥) → IsFirstFault rows fault)
    → IsTableFault old new (row_fault_of fault)
row-fault (table.BadName row) old new bytes rows moved end text lines first =
    (λ e. absurd cc, bad-row (table.BadName row) old new bytes rows moved end text lines (first (λ e. absurd cc)))
row-fault (table.Duplicate row) old new bytes rows moved end text lines first =
    (λ e. absurd cc, bad-row (table.Duplicate row) old new bytes rows moved end text lines (first (λ e. absurd cc)))
row-fault (table.BadValue row) old new bytes rows moved end text lines first =
    (λ e. absurd cc, bad-row (table.BadValue row) old new bytes rows moved end text lines (first (λ e. absurd cc)))
row-fault table.Memory old new bytes rows moved end text lines first = tt
