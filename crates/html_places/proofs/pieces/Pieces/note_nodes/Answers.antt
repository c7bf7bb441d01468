use Rattle.std.specs.Str.{chars}
use Rattle.html_places.proofs.Takings.{nodes-noted}
use Rattle.html_places.proofs.pieces.Pieces.note_nodes.Goals as goal

pub returns-clause-taken : goal.returns-clause-taken
returns-clause-taken c =
    let t = c.note_text.ensures.taken in
    nodes-noted c.note_text.new.self c.fill_nodes.new.places t (c.fill_nodes.ensures.places (chars c.note_text.new.self.text.now) t.nodes
    t.token)
