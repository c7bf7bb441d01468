use Rattle.std.proofs.Common.{◌≡◌, drop, map}
use Rattle.std.specs.Prelude.{find}
use Rattle.html_encodings.specs.Labels.{is_label}
use Rattle.html_encodings.proofs.labels.encoding_of_label.Given as goal

abbrev pub invariant-loop-name : goal.invariant-loop-name
invariant-loop-name l = find (is_label l.word) (map (λ row. (row.0.now, row.1)) l.name-items)
    ≡ find (is_label l.word) (map (λ row. (row.0.now, row.1)) (drop l.name-index l.name-items))
