use Rattle.std.proofs.Common.{refl}
use Rattle.html_encodings.specs.SingleByte.{index_of}
use Rattle.html_encodings.proofs.rows.utf_8_rows.Goals as goal

pub returns : goal.returns
unfolding index_of
returns c = refl
