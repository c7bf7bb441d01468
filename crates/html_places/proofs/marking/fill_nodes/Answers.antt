use Rattle.html_places.proofs.marking.fill_nodes.Goals as goal

pub loop-place-preserved : goal.loop-place-preserved
loop-place-preserved c = λ text are is. c.add_place.ensures.places text (c.loop-place.invariant text are is) is

pub returns-in_err-add_place : goal.returns-in_err-add_place
returns-in_err-add_place c = record {
  places = λ text are is. c.add_place.ensures.places text (c.loop-place.invariant text are is) is;
}
