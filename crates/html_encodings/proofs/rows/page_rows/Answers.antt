use Rattle.std.proofs.Common.{refl}
use Rattle.html_encodings.specs.Labels.{labels}
use Rattle.html_encodings.specs.Prescan.{prescanned}
use Rattle.html_encodings.specs.Scanning.{front, past, trimmed}
use Rattle.html_encodings.proofs.rows.page_rows.Goals as goal

pub returns : goal.returns
unfolding labels front past trimmed prescanned
returns c = refl
