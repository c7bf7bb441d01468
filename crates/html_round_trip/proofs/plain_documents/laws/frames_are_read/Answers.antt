use Rattle.html_round_trip.proofs.ReadBack.FrameForms.{frame-read}
use Rattle.html_round_trip.proofs.plain_documents.laws.frames_are_read.Goals as goal

pub returns : goal.returns
returns c rows reads o f n m = frame-read rows reads o f n m
