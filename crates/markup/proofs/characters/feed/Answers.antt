use Rattle.std.proofs.lemmas.Str.{encodes-chars}
use Rattle.markup.proofs.characters.feed.Goals as goal

pub returns : goal.returns
returns g c = rw (encodes-chars _ c.utf8.text) c.hash.ensures
