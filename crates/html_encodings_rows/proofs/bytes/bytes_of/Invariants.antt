use Rattle.std.proofs.Common.{length}
use Rattle.html_encodings_rows.proofs.bytes.bytes_of.Given as goal

abbrev pub decreases-loop-rest : goal.decreases-loop-rest
decreases-loop-rest l = length l.rest
