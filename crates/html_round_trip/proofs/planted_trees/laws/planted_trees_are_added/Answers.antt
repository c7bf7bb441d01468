use Rattle.html_round_trip.proofs.Planting.Planting.{planted-alone}
use Rattle.html_round_trip.proofs.planted_trees.laws.planted_trees_are_added.Goals as goal

pub returns : goal.returns
returns c trees p f after_text tree at ok ends = planted-alone trees p f after_text at ok ends
