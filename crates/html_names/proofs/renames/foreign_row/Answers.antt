use Rattle.html_names.proofs.Renamed.{foreign-known, foreign-unknown, row-within}
use Rattle.html_names.proofs.renames.foreign_row.Goals as goal

pub returns-in-None-clause-found : goal.returns-in-None-clause-found
returns-in-None-clause-found c whole e = foreign-unknown whole (rw e c.in-None.ensures.missing)

pub returns-in-Some-clause-within : goal.returns-in-Some-clause-within
returns-in-Some-clause-within c = rw (c.row_at.ensures, c.foreign.ensures) (row-within c.in-Some.known.place)

pub returns-in-Some-clause-found : goal.returns-in-Some-clause-found
returns-in-Some-clause-found c whole e = rw (c.row_at.ensures, c.foreign.ensures)
    (foreign-known c.in-Some.known.place whole (rw e c.in-Some.ensures.found))
