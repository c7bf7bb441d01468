use Rattle.html_round_trip.proofs.ReadBack.Document.{document-back}
use Rattle.html_round_trip.proofs.plain_documents.laws.written_documents_are_read_back.Goals as goal

pub returns : goal.returns
returns c rows reads exact o scripting trees plain = document-back rows reads scripting o exact trees plain
