use Rattle.html_ffi.proofs.fig_tree_with.Goals as goal

pub returns-clause-answer : goal.returns-clause-answer
returns-clause-answer c = record { answer = c.tree_by.result; is = c.number.ensures; says = c.tree_by.ensures.answer }
