use Rattle.markup.proofs.ErrorsApart.{errors-apart}
use Rattle.markup.proofs.tree_laws.errors_stand_apart.Goals as goal

pub returns : goal.returns
returns c = errors-apart
