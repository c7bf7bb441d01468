use Rattle.std.proofs.Common.{refl}
use Rattle.figpliers_program.proofs.rows.clean_rows.Goals as goal

pub returns : goal.returns
returns c = refl
