use Rattle.std.proofs.lemmas.Result.{err_from_is_err_and}
use Rattle.html_ffi.proofs.Selecting.{fails-too, selection-made}
use Rattle.html_ffi.proofs.select.node_selection.Goals as goal

pub returns-in_err-found-clause-err : goal.returns-in_err-found-clause-err
returns-in_err-found-clause-err c =
    let p = err_from_is_err_and c.from_residual-in_err-found.result c.from_residual-in_err-found.ensures.1 in
    rw (p.1, p.2) (fails-too c.args.selector.now c.args.image.now c.args.node _ _ c.in_err-found.ensures.err)

pub returns-clause-ok : goal.returns-clause-ok
returns-clause-ok c = selection-made c.args.selector.now c.args.image.now c.in_ok-text.text.now c.args.node c.in_ok-found.found.forest
    c.in_ok-found.found.id _ _ c.in_ok-text.ensures.ok c.in_ok-text.ensures.utf8 c.in_ok-found.ensures.ok c.in_ok-bytes.ensures.ok
