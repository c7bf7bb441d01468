use Rattle.std.proofs.lemmas.Result.{err_from_is_err_and}
use Rattle.html_ffi.specs.Trees.{IsFragmentIn}
use Rattle.html_ffi.proofs.Trees.{context-fails, fragment-fails, fragment-is, over-fails, over-large, tree-fails}
use Rattle.html_ffi.proofs.tree.fragment_image.Goals as goal

pub returns-in_err-text-clause-err : goal.returns-in_err-text-clause-err
returns-in_err-text-clause-err c =
    let p = err_from_is_err_and c.from_residual.result c.from_residual.ensures.1 in
    rw (p.1, p.2) (context-fails c.args.context.now c.args.file.now c.args.page.now _ _
    c.in_err-text.ensures.answer c.in_err-text.ensures.at)

pub returns-in_err-table-clause-err : goal.returns-in_err-table-clause-err
returns-in_err-table-clause-err c =
    let p = err_from_is_err_and c.from_residual-in_err-table.result c.from_residual-in_err-table.ensures.1 in
    rw (p.1, p.2) (fragment-fails c.args.context.now c.args.file.now c.args.page.now _ _
    (tree-fails (IsFragmentIn c.args.context.now) c.args.file.now c.args.page.now _ _ (c.in_err-table.ensures.err c.args.page.now)))

pub returns-in_err-forest-clause-err : goal.returns-in_err-forest-clause-err
returns-in_err-forest-clause-err c =
    let p = err_from_is_err_and c.from_residual-in_err-forest.result c.from_residual-in_err-forest.ensures.1 in
    rw (p.1, p.2) (fragment-fails c.args.context.now c.args.file.now c.args.page.now _ _
    (tree-fails (IsFragmentIn c.args.context.now) c.args.file.now c.args.page.now _ _ (c.in_err-forest.ensures.err c.args.file.now)))

pub returns-in_err-made-clause-err : goal.returns-in_err-made-clause-err
returns-in_err-made-clause-err c =
    let p = err_from_is_err_and c.from_residual-in_err-made.result c.from_residual-in_err-made.ensures.1 in
    rw (p.1, p.2) (fragment-fails c.args.context.now c.args.file.now c.args.page.now _ _
    (over-fails (IsFragmentIn c.args.context.now) c.args.file.now c.args.page.now c.in_ok-forest.forest
    (over-large (IsFragmentIn c.args.context.now) c.args.file.now c.args.page.now c.in_ok-table.table c.in_ok-forest.forest
    c.in_ok-table.ensures.ok (fragment-is c.args.context.now c.in_ok-text.text.now c.in_ok-table.table c.args.page.now c.in_ok-forest.forest
    c.in_ok-text.ensures.ok c.in_ok-text.ensures.utf8 c.in_ok-forest.ensures.ok))
    _ _ c.in_err-made.ensures.err))

pub returns-clause-ok : goal.returns-clause-ok
returns-clause-ok c = record {
  rows = c.in_ok-table.table;
  table = c.in_ok-table.ensures.ok;
  forest = c.in_ok-forest.forest;
  is = fragment-is c.args.context.now c.in_ok-text.text.now c.in_ok-table.table c.args.page.now c.in_ok-forest.forest
      c.in_ok-text.ensures.ok c.in_ok-text.ensures.utf8 c.in_ok-forest.ensures.ok;
  bytes_are = c.in_ok-made.ensures.image;
  report_is = c.in_ok-made.ensures.report;
}
