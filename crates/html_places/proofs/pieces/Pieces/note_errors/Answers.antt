use Rattle.std.specs.Str.{chars}
use Rattle.html_places.proofs.Takings.{errors-noted}
use Rattle.html_places.proofs.pieces.Pieces.note_errors.Goals as goal

pub returns-clause-taken : goal.returns-clause-taken
returns-clause-taken c =
    let t = c.requires.taken in
    errors-noted c.args.self.now c.fill.new.places t (c.fill.ensures.places (chars c.args.self.now.text.now) t.errors t.token)
