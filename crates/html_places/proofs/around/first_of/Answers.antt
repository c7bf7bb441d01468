use Rattle.html_places.proofs.around.first_of.Goals as goal

pub returns : goal.returns
returns c = (c.halves.result.1.now, c.halves.ensures.whole)
