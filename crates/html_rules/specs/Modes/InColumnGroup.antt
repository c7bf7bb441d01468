-- The "in column group" insertion mode (HTML Standard, section 13.2.6.4.12).
use Rattle.std.specs.Prelude.{List, [], ◌∷◌}
use Rattle.html_rules.specs.Table.{Row, StartTags, EndTags, WhiteSpace, Comment, EndOfFile, AnythingElse, CurrentIs, Nothing}
use Rattle.html_rules.specs.Table.{ParseError, InsertVoid, AppendText, AppendComment, Pop, SwitchTo, Done, Acknowledged}
use Rattle.html_rules.specs.Table.{Reprocess, Using, row, row_if, ◌▸◌}
use Rattle.html_rules.specs.declared.insertion_mode.InsertionMode.TheVariants.{InHead, InBody, InTable}
use Rattle.html_rules.specs.declared.tag_set.TagSet.TheVariants as set

abbrev pub in_column_group : List Row
in_column_group =
    row WhiteSpace AppendText Done
    ∷ row Comment AppendComment Done
    ∷ row (StartTags set.Html) Nothing (Using InBody)
    ∷ row (StartTags set.Col) InsertVoid Acknowledged
    ∷ row_if (EndTags set.Colgroup) (CurrentIs set.Colgroup) (Pop ▸ SwitchTo InTable) Done
    ∷ row (EndTags set.Colgroup) ParseError Done
    ∷ row (EndTags set.Col) ParseError Done
    ∷ row (StartTags set.Template) Nothing (Using InHead)
    ∷ row (EndTags set.Template) Nothing (Using InHead)
    ∷ row EndOfFile Nothing (Using InBody)
    ∷ row_if AnythingElse (CurrentIs set.Colgroup) Pop (Reprocess InTable)
    ∷ row AnythingElse ParseError Done
    ∷ []
