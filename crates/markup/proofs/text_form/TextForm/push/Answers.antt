use Rattle.markup.proofs.text_form.TextForm.push.Goals as goal

pub returns-in-Short-clause-utf8 : goal.returns-in-Short-clause-utf8
returns-in-Short-clause-utf8 c = rw c.in-Short.is c.push_ascii.ensures.utf8
