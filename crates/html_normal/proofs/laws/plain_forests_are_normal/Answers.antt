use Rattle.html_normal.proofs.Again.{plain-normal}
use Rattle.html_normal.proofs.laws.plain_forests_are_normal.Goals as goal

pub returns : goal.returns
returns c = plain-normal
