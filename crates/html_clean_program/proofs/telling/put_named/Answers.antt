use Rattle.std.specs.Prelude.{encode_utf8_all, is_err}
use Rattle.html_normal_program.proofs.Written.{err-is, put-ended, put-then}
use Rattle.html_clean_program.proofs.telling.put_named.Goals as goal

pub returns-in_err-put_text : goal.returns-in_err-put_text
returns-in_err-put_text g c = record {
  put = rw (err-is _ c.from_residual.result c.from_residual.ensures.1)
      (put-ended (encode_utf8_all c.args.name.now) (c.args.words.now) _ _ c.in_err-put_text.ensures.put);
}

pub returns : goal.returns
returns g c = record {
  put = put-then (encode_utf8_all c.args.name.now) (c.args.words.now) _ _ _ (is_err c.put.result) c.in_ok-put_text.ensures.put
      c.put.ensures.put;
}
