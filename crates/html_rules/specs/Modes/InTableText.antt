-- The "in table text" insertion mode (HTML Standard, section 13.2.6.4.10).
use Rattle.std.specs.Prelude.{List, [], ◌∷◌}
use Rattle.html_rules.specs.Table.{Row, Character, Null, AnythingElse, ParseError, KeepText, InsertPendingText, Done}
use Rattle.html_rules.specs.Table.{ReprocessInOriginal, row}

abbrev pub in_table_text : List Row
in_table_text =
    row Null ParseError Done
    ∷ row Character KeepText Done
    ∷ row AnythingElse InsertPendingText ReprocessInOriginal
    ∷ []
