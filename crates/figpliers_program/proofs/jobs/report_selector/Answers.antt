use Rattle.figpliers_program.proofs.Outcomes.{refused}
use Rattle.figpliers_program.proofs.jobs.report_selector.Goals as goal

pub returns-in_default-clause-refused : goal.returns-in_default-clause-refused
returns-in_default-clause-refused g c = refused _ _ _ c.report.ensures.line
