use Rattle.std.proofs.lemmas.Str.{chars-nil}
use Rattle.markup.proofs.text.Text.clear.Goals as goal

pub returns : goal.returns
returns c = rw c.clear.ensures chars-nil
