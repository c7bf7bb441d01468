use Rattle.html_round_trip.proofs.ReadBack.Document.{bytes-stable}
use Rattle.html_round_trip.proofs.plain_documents.laws.plain_bytes_write_themselves.Goals as goal

pub returns : goal.returns
returns c rows reads exact o scripting f judged left given = bytes-stable rows reads scripting o exact f judged left given
