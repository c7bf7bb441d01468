use Rattle.std.proofs.Common.{refl}
use Rattle.html_encodings.specs.Labels.{labels}
use Rattle.html_encodings.specs.Scanning.{past, trimmed}
use Rattle.html_encodings.proofs.rows.label_rows.Goals as goal

pub returns : goal.returns
unfolding labels past trimmed
returns c = refl
