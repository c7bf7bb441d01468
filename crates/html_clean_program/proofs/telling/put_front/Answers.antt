use Rattle.std.proofs.Common.{codes}
use Rattle.std.specs.Prelude.{is_err}
use Rattle.html_normal_program.proofs.Written.{err-is, put-ended, put-then}
use Rattle.html_clean_program.proofs.telling.put_front.Goals as goal

pub returns-in_err-put : goal.returns-in_err-put
returns-in_err-put g c = record {
  put = rw (err-is _ c.from_residual.result c.from_residual.ensures.1)
      (put-ended c.args.name.now (codes ": ") _ _ c.in_err-put.ensures.put);
}

pub returns : goal.returns
returns g c = record {
  put = put-then c.args.name.now (codes ": ") _ _ _ (is_err c.put-2.result)
      c.in_ok-put.ensures.put c.put-2.ensures.put;
}
