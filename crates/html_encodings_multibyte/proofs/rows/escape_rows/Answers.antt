use Rattle.std.proofs.Common.{refl}
use Rattle.html_encodings_multibyte.proofs.rows.escape_rows.Goals as goal

pub returns : goal.returns
returns c = refl
