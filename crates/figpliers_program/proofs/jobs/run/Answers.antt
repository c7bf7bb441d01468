use Rattle.std.proofs.Common.{inr}
use Rattle.figpliers_program.proofs.jobs.run.Goals as goal

pub returns : goal.returns
returns g c = inr (c.in-Ok-standard.table, c.in-Ok-standard.ensures.ok, c.run_all.ensures)
