-- No table has many rows.
use Rattle.std.proofs.Common.{◌≤◌, length, refl}
use Rattle.std.proofs.lemmas.Bool.{leb-true}
use Rattle.html_modes.proofs.WalkedRows.{few-rows}
use Rattle.html_rules.specs.Modes.Foreign.{in_foreign_content}
use Rattle.html_faithful_judge.specs.Rows.{rows_in}
use Rattle.html_faithful_judge.specs.declared.rows.Table.{Table}
use Rattle.html_faithful_judge.specs.declared.rows.Table.TheVariants.{Mode, Foreign}

pub few-in : (table : Table) → length (rows_in table) ≤ 99
few-in (Mode m) = few-rows m
few-in Foreign = leb-true (length in_foreign_content) 99 refl
