use Rattle.html_references.proofs.laws.five_names_read_escapes.Goals as goal

pub returns : goal.returns
returns c = c.five_names_read_escapes.ensures
