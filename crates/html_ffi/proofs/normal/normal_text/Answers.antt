use Rattle.std.proofs.Common.{ℕ, List, Some, ap, refl, subst, sym}
use Rattle.devices.specs.VecWriter.{Growing}
use Rattle.html_normal.specs.Normal.{IsFailed}
use Rattle.html_ffi.proofs.Making.{normal-made, page-failed}
use Rattle.html_ffi.specs.Calls.{IsNormalText}
use Rattle.html_ffi.proofs.normal.normal_text.Goals as goal

pub returns-in-Ok-clause-ok : goal.returns-in-Ok-clause-ok
returns-in-Ok-clause-ok c =
    subst (λ (text : List ℕ). IsNormalText c.args.file.now c.args.page.now text c.in-Ok.report) (sym c.into_bytes.ensures)
    (normal-made c.args.file.now c.args.page.now c.in_ok-table.table _ c.new-writer.result.written _ c.in-Ok.report c.in_ok-table.ensures.ok
    (ap (λ (w : Growing). w.written) c.new-writer.ensures) (c.in-Ok.ensures.ok c.args.page.now (ap Some c.new.ensures)))

pub returns-in-Err-clause-err : goal.returns-in-Err-clause-err
returns-in-Err-clause-err c =
    page-failed c.args.file.now c.args.page.now
    (IsFailed c.in_ok-table.table (Some c.new.result.left.now) (Some c.normalise.new.reader.left.now)
    (Some c.new-writer.result.written) (Some c.normalise.new.writer.written))
    c.in-Err.fault c.from.result
    (λ at is. (is.1 c.args.page.now c.normalise.new.reader.left.now (ap Some c.new.ensures) refl).front)
    c.from.ensures c.in-Err.ensures.err
