use Rattle.html_round_trip.proofs.ReadBack.Forms.{texts-read_there}
use Rattle.html_round_trip.proofs.plain_documents.laws.texts_are_read.Goals as goal

pub returns : goal.returns
returns c rows reads = texts-read_there rows reads
