use Rattle.std.proofs.Common.{◌≡◌, List, ℕ, sym, subst}
use Rattle.std.specs.Io.KnownBytes.{prepend_known}
use Rattle.html_input.proofs.Whole.{good-file, row-fault}
use Rattle.html_input.proofs.table.read_table.Goals as goal

pub returns-clause-err : goal.returns-clause-err
returns-clause-err g c =
    let old = g.R.Source.left c.args.reader.now in
    let new = g.R.Source.left c.read_text.new.reader in
    let moved = subst (λ (bs : List ℕ). old ≡ prepend_known bs new) (sym c.as_str.ensures.value) c.in_ok-text.ensures.ok in
    rw c.row_fault.ensures
    (row-fault c.in-Err.fault old new c.as_str.result.now c.in_ok-rows.rows.items moved c.in_ok-text.ensures.end
    c.as_str.utf8 c.in_ok-rows.ensures.ok
    c.in-Err.ensures.first)

pub returns-in-Ok-clause-ok : goal.returns-in-Ok-clause-ok
returns-in-Ok-clause-ok g c =
    let old = g.R.Source.left c.args.reader.now in
    let new = g.R.Source.left c.read_text.new.reader in
    let moved = subst (λ (bs : List ℕ). old ≡ prepend_known bs new) (sym c.as_str.ensures.value) c.in_ok-text.ensures.ok in
    good-file old new c.as_str.result.now c.in_ok-rows.rows.items _ moved c.in_ok-text.ensures.end c.as_str.utf8
    c.in_ok-rows.ensures.ok c.in-Ok.ensures.ok c.in-Ok.ensures.table
