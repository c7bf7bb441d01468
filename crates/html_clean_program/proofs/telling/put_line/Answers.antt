use Rattle.std.proofs.Common.{[], ◌∷◌}
use Rattle.std.specs.Prelude.{is_err}
use Rattle.html_normal_program.proofs.Written.{put-then}
use Rattle.html_clean_program.specs.Lines.{fault_words}
use Rattle.html_clean_program.proofs.telling.put_line.Goals as goal

pub returns : goal.returns
returns g c = record {
  put = put-then (fault_words c.args.fault.now) (10 ∷ []) _ _ _ (is_err c.put.result) c.in_ok-put_fault.ensures.put c.put.ensures.put;
}
