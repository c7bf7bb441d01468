use Rattle.std.specs.Prelude.{is_err}
use Rattle.html_normal_program.proofs.Written.{err-is, put-ended, put-then}
use Rattle.html_clean_program.specs.Lines.{elements_words, others_words}
use Rattle.html_clean_program.proofs.telling.put_counts.Goals as goal

pub returns-in_err-put_elements : goal.returns-in_err-put_elements
returns-in_err-put_elements g c = record {
  put = rw (err-is _ c.from_residual.result c.from_residual.ensures.1)
      (put-ended (elements_words c.args.counts) (others_words c.args.counts) _ _ c.in_err-put_elements.ensures.put);
}

pub returns : goal.returns
returns g c = record {
  put = put-then (elements_words c.args.counts) (others_words c.args.counts) _ _ _ (is_err c.put_others.result)
      c.in_ok-put_elements.ensures.put c.put_others.ensures.put;
}
