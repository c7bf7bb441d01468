-- The "after frameset" insertion mode (HTML Standard, section 13.2.6.4.19).
use Rattle.std.specs.Prelude.{List, [], ◌∷◌}
use Rattle.html_rules.specs.Table.{Row, StartTags, EndTags, WhiteSpace, Comment, EndOfFile, AnythingElse, Nothing, ParseError}
use Rattle.html_rules.specs.Table.{AppendText, AppendComment, SwitchTo, Done, Using, row}
use Rattle.html_rules.specs.declared.insertion_mode.InsertionMode.TheVariants.{InHead, InBody, AfterAfterFrameset}
use Rattle.html_rules.specs.declared.tag_set.TagSet.TheVariants as set

abbrev pub after_frameset : List Row
after_frameset =
    row WhiteSpace AppendText Done
    ∷ row Comment AppendComment Done
    ∷ row (StartTags set.Html) Nothing (Using InBody)
    ∷ row (EndTags set.Html) (SwitchTo AfterAfterFrameset) Done
    ∷ row (StartTags set.Noframes) Nothing (Using InHead)
    ∷ row EndOfFile Nothing Done
    ∷ row AnythingElse ParseError Done
    ∷ []
