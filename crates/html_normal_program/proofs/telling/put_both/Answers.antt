use Rattle.std.specs.Prelude.{is_err}
use Rattle.html_normal_program.proofs.Written.{err-is, put-ended, put-then}
use Rattle.html_normal_program.proofs.telling.put_both.Goals as goal

pub returns-in_err-put-clause-put : goal.returns-in_err-put-clause-put
returns-in_err-put-clause-put g c =
    rw (err-is _ c.from_residual.result c.from_residual.ensures.1) (put-ended c.args.words.now c.args.word.now _ _ c.in_err-put.ensures.put)

pub returns-clause-put : goal.returns-clause-put
returns-clause-put g c = put-then c.args.words.now c.args.word.now _ _ _ (is_err c.put-2.result) c.in_ok-put.ensures.put c.put-2.ensures.put
