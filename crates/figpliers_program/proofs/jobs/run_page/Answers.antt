use Rattle.std.proofs.Common.{Err, Ok, inl, inr, refl}
use Rattle.figpliers_program.proofs.jobs.run_page.Goals as goal

pub returns-in-Err : goal.returns-in-Err
returns-in-Err g c = (
  Err c.in-Err.fault,
  inl (c.in-Err.fault, refl, c.in-Err.ensures.err, refl),
  (c.report.ensures.verdict, c.report.ensures.line),
)

pub returns-in-Ok-run_job : goal.returns-in-Ok-run_job
returns-in-Ok-run_job g c = (
  Ok c.in-Ok-run_job.verdict,
  inr (c.in-Ok.bytes.items, c.in-Ok.ensures.ok, c.in-Ok-run_job.ensures),
  (refl, refl),
)

pub returns-in-Err-run_job : goal.returns-in-Err-run_job
returns-in-Err-run_job g c = (
  Err c.in-Err-run_job.fault,
  inr (c.in-Ok.bytes.items, c.in-Ok.ensures.ok, c.in-Err-run_job.ensures),
  (c.report-in-Err-run_job.ensures.verdict, c.report-in-Err-run_job.ensures.line),
)
