use Rattle.std.proofs.lemmas.Str.{chars-append}
use Rattle.markup.proofs.text.Text.push_str.Goals as goal

pub returns-clause-ok : goal.returns-clause-ok
returns-clause-ok c =
    rw (c.in_ok-push_str.ensures.bytes, ← c.self.view_is) (chars-append _ _ c.in_ok-push_str.ensures.utf8)
