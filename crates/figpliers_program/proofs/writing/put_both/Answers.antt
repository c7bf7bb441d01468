use Rattle.std.proofs.lemmas.Result.{err_from_is_err_and}
use Rattle.figpliers_program.proofs.Printing.{cut-longer, prints-behind}
use Rattle.figpliers_program.proofs.writing.put_both.Goals as goal

pub returns-in_err-put : goal.returns-in_err-put
returns-in_err-put g c =
    let p = err_from_is_err_and c.from_residual.result c.from_residual.ensures.1 in
    rw (p.1, p.2) (cut-longer _ _ c.args.text.now c.args.other.now c.in_err-put.field-0.0 c.in_err-put.ensures.prints)

pub returns : goal.returns
returns g c = prints-behind _ _ _ c.args.text.now c.args.other.now c.put-2.result c.in_ok-put.ensures.prints c.put-2.ensures.prints
