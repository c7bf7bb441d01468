use Rattle.html_faithful_judge.proofs.made.Made.+by_rows.Given as goal

abbrev pub decreases-by_rows : goal.decreases-by_rows
decreases-by_rows l = l.count
