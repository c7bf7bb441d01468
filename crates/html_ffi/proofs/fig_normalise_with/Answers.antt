use Rattle.html_ffi.proofs.fig_normalise_with.Goals as goal

pub returns-clause-answer : goal.returns-clause-answer
returns-clause-answer c = record { answer = c.normalise_by.result; is = c.number.ensures; says = c.normalise_by.ensures.answer }
