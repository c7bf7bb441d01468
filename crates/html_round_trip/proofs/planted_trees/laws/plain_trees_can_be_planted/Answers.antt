use Rattle.html_round_trip.proofs.Planting.PlainTrees.{plain-plantable}
use Rattle.html_round_trip.proofs.planted_trees.laws.plain_trees_can_be_planted.Goals as goal

pub returns : goal.returns
returns c = plain-plantable
