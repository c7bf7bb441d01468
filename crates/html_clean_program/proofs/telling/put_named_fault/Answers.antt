use Rattle.std.specs.Prelude.{is_err}
use Rattle.html_normal_program.proofs.Written.{err-is, put-ended, put-then}
use Rattle.html_clean_program.specs.Lines.{front, page_fault_words}
use Rattle.html_clean_program.proofs.telling.put_named_fault.Goals as goal

pub returns-in_err-put_front : goal.returns-in_err-put_front
returns-in_err-put_front g c = record {
  put = rw (err-is _ c.from_residual.result c.from_residual.ensures.1)
      (put-ended (front c.args.name.now) (page_fault_words c.args.fault) _ _ c.in_err-put_front.ensures.put);
}

pub returns : goal.returns
returns g c = record {
  put = put-then (front c.args.name.now) (page_fault_words c.args.fault) _ _ _ (is_err c.put_page_fault.result)
      c.in_ok-put_front.ensures.put c.put_page_fault.ensures.put;
}
