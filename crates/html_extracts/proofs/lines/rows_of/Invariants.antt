use Rattle.std.proofs.Common.{◌≡◌, [], drop}
use Rattle.html_extracts.specs.Lines.{rows_from}
use Rattle.html_extracts.proofs.lines.rows_of.Given as goal

abbrev pub invariant-loop-attribute : goal.invariant-loop-attribute
invariant-loop-attribute l = rows_from l.rows.entries (drop l.attribute-index l.attrs) ≡ rows_from [] l.attrs
