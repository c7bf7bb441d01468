use Rattle.std.proofs.Common.{◌∙◌}
use Rattle.figpliers_program.proofs.checking.put_faithful.Goals as goal

pub returns : goal.returns
returns g c = rw (c.as_str.ensures.value ∙ c.in_ok-line.ensures.ok) at c.put.ensures.prints
