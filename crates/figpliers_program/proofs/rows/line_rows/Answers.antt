use Rattle.std.proofs.Common.{refl}
use Rattle.std.specs.Fmt.{digits}
use Rattle.figpliers_program.proofs.rows.line_rows.Goals as goal

pub returns : goal.returns
unfolding digits
returns c = refl
