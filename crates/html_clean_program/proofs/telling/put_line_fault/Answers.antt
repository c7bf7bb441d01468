use Rattle.std.specs.Prelude.{is_err}
use Rattle.html_normal_program.proofs.Written.{err-is, put-ended, put-then}
use Rattle.html_clean_program.specs.Lines.{place_words, problem_words}
use Rattle.html_clean_program.proofs.telling.put_line_fault.Goals as goal

pub returns-in_err-put_named_number : goal.returns-in_err-put_named_number
returns-in_err-put_named_number g c = record {
  put = rw (err-is _ c.from_residual.result c.from_residual.ensures.1)
      (put-ended (place_words c.args.name.now c.args.line) (problem_words c.args.problem) _ _ c.in_err-put_named_number.ensures.put);
}

pub returns : goal.returns
returns g c = record {
  put = put-then (place_words c.args.name.now c.args.line) (problem_words c.args.problem) _ _ _ (is_err c.put.result)
      c.in_ok-put_named_number.ensures.put (rw c.problem_words.ensures at c.put.ensures.put);
}
