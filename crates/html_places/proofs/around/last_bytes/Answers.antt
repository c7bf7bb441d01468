use Rattle.html_places.proofs.around.last_bytes.Goals as goal

pub returns : goal.returns
returns c = (c.halves.result.0.now, c.halves.ensures.whole)
