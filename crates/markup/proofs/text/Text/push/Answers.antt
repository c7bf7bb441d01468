use Rattle.markup.proofs.Texts.{chars-push}
use Rattle.markup.proofs.text.Text.push.Goals as goal

pub returns-clause-ok : goal.returns-clause-ok
returns-clause-ok c =
    rw (c.in_ok-push.ensures.bytes, ← c.self.view_is) (chars-push _ _ c.in_ok-push.ensures.utf8 c.ranges.character.0)
