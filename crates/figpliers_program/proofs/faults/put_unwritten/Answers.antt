use Rattle.std.proofs.Common.{codes}
use Rattle.std.specs.Prelude.{is_err}
use Rattle.html_normal_program.proofs.Written.{err-is, put-ended, put-then}
use Rattle.figpliers_program.proofs.faults.put_unwritten.Goals as goal

pub returns-in_err-put : goal.returns-in_err-put
returns-in_err-put g c = rw (err-is _ c.from_residual.result c.from_residual.ensures.1)
    (put-ended c.args.output.now (codes " cannot be written\n") _ _ c.in_err-put.ensures.put)

pub returns : goal.returns
returns g c = put-then c.args.output.now (codes " cannot be written\n") _ _ _ (is_err c.put-2.result)
    c.in_ok-put.ensures.put c.put-2.ensures.put
