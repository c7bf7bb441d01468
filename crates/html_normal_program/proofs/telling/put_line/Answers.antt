use Rattle.std.proofs.Common.{[], ◌∷◌}
use Rattle.std.specs.Prelude.{is_err}
use Rattle.html_normal_program.specs.Program.{words_of}
use Rattle.html_normal_program.proofs.Written.{err-is, put-ended, put-then}
use Rattle.html_normal_program.proofs.telling.put_line.Goals as goal

pub returns-in_err-put_words-clause-put : goal.returns-in_err-put_words-clause-put
returns-in_err-put_words-clause-put g c =
    rw (err-is _ c.from_residual.result c.from_residual.ensures.1)
    (put-ended (words_of c.args.outcome.now) (10 ∷ []) _ _ c.in_err-put_words.ensures.put)

pub returns-clause-put : goal.returns-clause-put
returns-clause-put g c =
    put-then (words_of c.args.outcome.now) (10 ∷ []) _ _ _ (is_err c.put.result) c.in_ok-put_words.ensures.put c.put.ensures.put
