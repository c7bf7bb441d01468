use Rattle.html_places.proofs.Marks.{places-take}
use Rattle.html_places.proofs.pieces.Pieces.end.Goals as goal

pub returns-clause-placed : goal.returns-clause-placed
returns-clause-placed c =
    let t = c.note_last.ensures.taken in
    let text = c.note_last.ensures.text in
    record {
      each = c.has_each_place.ensures c.if-not-has_each_place.false;
      nodes = rw (c.put_places.ensures.nodes, ← text) t.nodes;
      errors = rw (c.put_places.ensures.errors, c.as_slice.ensures.value, ← text) (places-take _ _ _ t.errors);
    }
