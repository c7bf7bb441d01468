use Rattle.html_round_trip.proofs.ReadBack.Document.{forest-again}
use Rattle.html_round_trip.proofs.plain_documents.laws.plain_forests_are_read_again.Goals as goal

pub returns : goal.returns
returns c rows reads exact o scripting f judged = forest-again rows reads scripting o exact f judged
