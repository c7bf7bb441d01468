use Rattle.std.proofs.Common.{◌≡◌, drop, find, nat_eq}
use Rattle.html_names.proofs.renames.row_at.Given as goal

abbrev pub invariant-loop-row : goal.invariant-loop-row
invariant-loop-row l = find (λ x. nat_eq x.written l.place) l.rows ≡ find (λ x. nat_eq x.written l.place) (drop l.row-index l.rows)
