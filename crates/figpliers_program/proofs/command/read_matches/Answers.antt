use Rattle.figpliers_program.proofs.Found.{entered}
use Rattle.figpliers_program.proofs.command.read_matches.Goals as goal

pub returns-in-Some : goal.returns-in-Some
returns-in-Some c = rw (entered _ _ _ c.in-Some.ensures.name c.in-Some.ensures.rows) c.asked_of.ensures
