use Rattle.std.specs.Str.{chars}
use Rattle.html_places.proofs.Takings.{nodes-noted}
use Rattle.html_places.proofs.pieces.Pieces.note_text.Goals as goal

pub returns-clause-taken : goal.returns-clause-taken
returns-clause-taken c =
    let t = c.requires.taken in
    let placed = rw c.in-Some.is at t.text_place in
    nodes-noted c.args.self.now c.fill.new.places t (c.fill.ensures.places (chars c.args.self.now.text.now) t.nodes placed)
