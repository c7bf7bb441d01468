use Rattle.html_selectors.proofs.selecting.select_all.Goals as goal

pub returns-clause-ok : goal.returns-clause-ok
returns-clause-ok c = rw c.in_ok-index.ensures.ok at c.select_all.ensures.ok
