use Rattle.std.proofs.lemmas.Str.{chars-nil}
use Rattle.markup.proofs.text.Text.empty.Goals as goal

pub returns : goal.returns
returns c = rw c.empty.ensures chars-nil
