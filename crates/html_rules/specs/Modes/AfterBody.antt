-- The "after body" insertion mode (HTML Standard, section 13.2.6.4.17).
use Rattle.std.specs.Prelude.{List, [], ◌∷◌}
use Rattle.html_rules.specs.Table.{Row, StartTags, EndTags, WhiteSpace, Comment, EndOfFile, AnythingElse, InFragment, Nothing}
use Rattle.html_rules.specs.Table.{ParseError, AppendCommentToRoot, SwitchTo, Done, Reprocess, Using, row, row_if}
use Rattle.html_rules.specs.declared.insertion_mode.InsertionMode.TheVariants.{InBody, AfterAfterBody}
use Rattle.html_rules.specs.declared.tag_set.TagSet.TheVariants as set

abbrev pub after_body : List Row
after_body =
    row WhiteSpace Nothing (Using InBody)
    ∷ row Comment AppendCommentToRoot Done
    ∷ row (StartTags set.Html) Nothing (Using InBody)
    ∷ row_if (EndTags set.Html) InFragment ParseError Done
    ∷ row (EndTags set.Html) (SwitchTo AfterAfterBody) Done
    ∷ row EndOfFile Nothing Done
    ∷ row AnythingElse ParseError (Reprocess InBody)
    ∷ []
