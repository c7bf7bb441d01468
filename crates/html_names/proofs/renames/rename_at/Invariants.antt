use Rattle.std.proofs.Common.{◌≡◌, drop, find, nat_eq}
use Rattle.html_names.proofs.renames.rename_at.Given as goal

abbrev pub invariant-loop-rename : goal.invariant-loop-rename
invariant-loop-rename l = find (λ x. nat_eq x.written l.place) l.table ≡ find (λ x. nat_eq x.written l.place) (drop l.rename-index l.table)
