use Rattle.std.proofs.Common.{inr}
use Rattle.figpliers_program.proofs.Answering.{nothing-done}
use Rattle.figpliers_program.proofs.program.obey_pages.Goals as goal

pub returns-in-Ok : goal.returns-in-Ok
returns-in-Ok g c = inr (inr (c.in-Ok.asked, c.in-Ok.ensures.ok, c.run.ensures))

pub returns-in-Err : goal.returns-in-Err
returns-in-Err g c = nothing-done _ _ _ _ _ _ _ _ _ c.in-Err.ensures.err c.answer.ensures
