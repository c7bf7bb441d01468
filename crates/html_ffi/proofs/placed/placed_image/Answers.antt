use Rattle.std.proofs.lemmas.Result.{err_from_is_err_and}
use Rattle.html_ffi.specs.Trees.{IsNotedBy}
use Rattle.html_ffi.proofs.Trees.{over-fails, over-large, tree-fails}
use Rattle.html_ffi.proofs.placed.placed_image.Goals as goal

pub returns-in_err-table-clause-err : goal.returns-in_err-table-clause-err
returns-in_err-table-clause-err c =
    let p = err_from_is_err_and c.from_residual.result c.from_residual.ensures.1 in
    rw (p.1, p.2) (tree-fails IsNotedBy c.args.file.now c.args.page.now _ _ (c.in_err-table.ensures.err c.args.page.now))

pub returns-in_err-noted-clause-err : goal.returns-in_err-noted-clause-err
returns-in_err-noted-clause-err c =
    let p = err_from_is_err_and c.from_residual-in_err-noted.result c.from_residual-in_err-noted.ensures.1 in
    rw (p.1, p.2) (tree-fails IsNotedBy c.args.file.now c.args.page.now _ _ (c.in_err-noted.ensures.err c.args.file.now))

pub returns-in_err-made-clause-err : goal.returns-in_err-made-clause-err
returns-in_err-made-clause-err c =
    let p = err_from_is_err_and c.from_residual-in_err-made.result c.from_residual-in_err-made.ensures.1 in
    rw (p.1, p.2) (over-fails IsNotedBy c.args.file.now c.args.page.now c.in_ok-noted.noted.forest
    (over-large IsNotedBy c.args.file.now c.args.page.now c.in_ok-table.table c.in_ok-noted.noted.forest
    c.in_ok-table.ensures.ok c.in_ok-noted.ensures.ok) _ _ c.in_err-made.ensures.err)

pub returns-clause-ok : goal.returns-clause-ok
returns-clause-ok c = record {
  rows = c.in_ok-table.table;
  table = c.in_ok-table.ensures.ok;
  noted = c.in_ok-noted.noted;
  is = c.in_ok-noted.ensures.ok;
  placed = c.in_ok-noted.ensures.places;
  bytes_are = c.in_ok-made.ensures.ok;
  report_is = c.in_ok-made.ensures.report;
}
