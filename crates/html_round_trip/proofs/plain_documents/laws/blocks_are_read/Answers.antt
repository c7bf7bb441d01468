use Rattle.html_round_trip.proofs.ReadBack.Forms.{blocks-read}
use Rattle.html_round_trip.proofs.plain_documents.laws.blocks_are_read.Goals as goal

pub returns : goal.returns
returns c rows reads = blocks-read rows reads
