use Rattle.html_round_trip.proofs.Planting.Shown.{shown-walked}
use Rattle.html_round_trip.proofs.planted_trees.laws.shown_trees_are_walked.Goals as goal

pub returns : goal.returns
returns c low f ns trees tree plain shows = shown-walked f tree low ns trees plain shows
