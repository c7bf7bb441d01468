use Rattle.html_round_trip.proofs.ReadBack.Document.{bytes-again}
use Rattle.html_round_trip.proofs.plain_documents.laws.plain_bytes_are_read_again.Goals as goal

pub returns : goal.returns
returns c rows reads exact o scripting f judged = bytes-again rows reads scripting o exact f judged
