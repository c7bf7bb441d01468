use Rattle.std.proofs.Common.{◌++◌, codes}
use Rattle.std.specs.Fmt.{decimal}
use Rattle.std.specs.Prelude.{is_err}
use Rattle.html_normal_program.proofs.Written.{err-is, put-ended, put-then}
use Rattle.html_clean_program.proofs.telling.put_elements.Goals as goal

pub returns-in_err-put_numbered : goal.returns-in_err-put_numbered
returns-in_err-put_numbered g c = record {
  put = rw (err-is _ c.from_residual.result c.from_residual.ensures.1)
      (put-ended (codes "unwrapped=" ++ decimal c.args.counts.unwrapped) (codes " dropped=" ++ decimal c.args.counts.dropped) _ _
      c.in_err-put_numbered.ensures.put);
}

pub returns : goal.returns
returns g c = record {
  put = put-then (codes "unwrapped=" ++ decimal c.args.counts.unwrapped) (codes " dropped=" ++ decimal c.args.counts.dropped) _ _ _
      (is_err c.put_numbered-2.result) c.in_ok-put_numbered.ensures.put c.put_numbered-2.ensures.put;
}
