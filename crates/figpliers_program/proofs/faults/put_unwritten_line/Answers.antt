use Rattle.std.proofs.Common.{◌++◌, codes}
use Rattle.std.specs.Prelude.{is_err}
use Rattle.html_normal_program.proofs.Written.{err-is, put-ended, put-then}
use Rattle.figpliers_program.proofs.faults.put_unwritten_line.Goals as goal

pub returns-in_err-put : goal.returns-in_err-put
returns-in_err-put g c = rw (err-is _ c.from_residual.result c.from_residual.ensures.1)
    (put-ended (codes "figpliers: ") (c.args.output.now ++ codes " cannot be written\n") _ _ c.in_err-put.ensures.put)

pub returns : goal.returns
returns g c = put-then (codes "figpliers: ") (c.args.output.now ++ codes " cannot be written\n") _ _ _ (is_err c.put_unwritten.result)
    c.in_ok-put.ensures.put c.put_unwritten.ensures
