use Rattle.std.proofs.Common.{[], ◌∷◌}
use Rattle.std.specs.Prelude.{is_err}
use Rattle.html_normal_program.proofs.Written.{err-is, put-ended, put-then}
use Rattle.html_clean_program.specs.Lines.{page_line}
use Rattle.html_clean_program.proofs.telling.put_page_line.Goals as goal

pub returns-in_err-put_named_fault : goal.returns-in_err-put_named_fault
returns-in_err-put_named_fault g c = record {
  put = rw (err-is _ c.from_residual.result c.from_residual.ensures.1)
      (put-ended (page_line c.args.name.now c.args.fault) (10 ∷ []) _ _ c.in_err-put_named_fault.ensures.put);
}

pub returns : goal.returns
returns g c = record {
  put = put-then (page_line c.args.name.now c.args.fault) (10 ∷ []) _ _ _ (is_err c.put.result)
      c.in_ok-put_named_fault.ensures.put c.put.ensures.put;
}
