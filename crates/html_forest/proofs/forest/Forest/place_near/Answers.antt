use Rattle.std.proofs.Common.{rules}
use Rattle.html_forest.proofs.forest.Forest.place_near.Goals as goal

pub returns-in-Some : goal.returns-in-Some
returns-in-Some c = search rules

pub returns-in-None : goal.returns-in-None
returns-in-None c = search rules
