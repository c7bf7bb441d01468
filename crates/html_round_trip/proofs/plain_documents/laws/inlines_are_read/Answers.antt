use Rattle.html_round_trip.proofs.ReadBack.Forms.{inlines-read}
use Rattle.html_round_trip.proofs.plain_documents.laws.inlines_are_read.Goals as goal

pub returns : goal.returns
returns c rows reads = inlines-read rows reads
