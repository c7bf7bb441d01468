use Rattle.std.specs.Prelude.{is_err}
use Rattle.figpliers_program.proofs.Reported.{reported-other, verdict-other}
use Rattle.figpliers_program.proofs.faults.report.Goals as goal

pub returns-in_default : goal.returns-in_default
returns-in_default g c = record {
  verdict = verdict-other c.args.fault c.in_default.not-Write;
  line = reported-other c.args.name.now c.args.fault _ _ (is_err c.put_line.result) c.in_default.not-Write c.put_line.ensures;
}
