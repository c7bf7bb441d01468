use Rattle.html_round_trip.proofs.ReadBack.Forms.{tables-read}
use Rattle.html_round_trip.proofs.plain_documents.laws.tables_are_read.Goals as goal

pub returns : goal.returns
returns c rows reads = tables-read rows reads
