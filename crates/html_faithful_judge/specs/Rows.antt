-- The tables of rows.
use Rattle.std.specs.Prelude.{List}
use Rattle.html_rules.specs.Modes.Foreign.{in_foreign_content}
use Rattle.html_rules.specs.Rules.{rows}
use Rattle.html_rules.specs.Table.{Row}
use Rattle.html_faithful_judge.specs.declared.rows.Table.{Table}
use Rattle.html_faithful_judge.specs.declared.rows.Table.TheVariants.{Mode, Foreign}

abbrev pub rows_in : Table → List Row
rows_in (Mode m) = rows m
rows_in Foreign = in_foreign_content
