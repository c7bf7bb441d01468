use Rattle.html_faithful.proofs.Planting.{planted-shown}
use Rattle.html_faithful.proofs.laws.planted_trees_are_shown.Goals as goal

pub returns : goal.returns
returns c = λ trees p f tree at ok ends. planted-shown trees p f tree at ok ends
