use Rattle.std.proofs.Common.{[], ◌∷◌}
use Rattle.std.specs.Prelude.{is_err}
use Rattle.html_normal_program.proofs.Written.{err-is, put-ended, put-then}
use Rattle.figpliers_program.specs.Verdicts.{fault_words}
use Rattle.figpliers_program.proofs.faults.put_end.Goals as goal

pub returns-in_err-put_fault : goal.returns-in_err-put_fault
returns-in_err-put_fault g c = rw (err-is _ c.from_residual.result c.from_residual.ensures.1)
    (put-ended (fault_words c.args.fault) (10 ∷ []) _ _ c.in_err-put_fault.ensures)

pub returns : goal.returns
returns g c = put-then (fault_words c.args.fault) (10 ∷ []) _ _ _ (is_err c.put.result) c.in_ok-put_fault.ensures c.put.ensures.put
