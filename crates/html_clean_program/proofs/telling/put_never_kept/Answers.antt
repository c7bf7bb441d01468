use Rattle.std.specs.Prelude.{codes, encode_utf8_all, is_err}
use Rattle.html_normal_program.proofs.Written.{err-is, put-ended, put-then}
use Rattle.html_clean_program.proofs.telling.put_never_kept.Goals as goal

pub returns-in_err-put : goal.returns-in_err-put
returns-in_err-put g c = record {
  put = rw (err-is _ c.from_residual.result c.from_residual.ensures.1)
      (put-ended (codes "fault: never kept: ") (encode_utf8_all c.args.word.now) _ _ c.in_err-put.ensures.put);
}

pub returns : goal.returns
returns g c = record {
  put = put-then (codes "fault: never kept: ") (encode_utf8_all c.args.word.now) _ _ _ (is_err c.put_text.result)
      c.in_ok-put.ensures.put c.put_text.ensures.put;
}
