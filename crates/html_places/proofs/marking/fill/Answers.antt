use Rattle.html_places.proofs.marking.fill.Goals as goal

pub loop-place-preserved : goal.loop-place-preserved
loop-place-preserved c = λ text are is. c.add_place.ensures.places text (c.loop-place.invariant text are is) is

pub returns-in_err-add_place-clause-places : goal.returns-in_err-add_place-clause-places
returns-in_err-add_place-clause-places c = λ text are is. c.add_place.ensures.places text (c.loop-place.invariant text are is) is
