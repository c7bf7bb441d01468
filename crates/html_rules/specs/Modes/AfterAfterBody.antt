-- The "after after body" insertion mode (HTML Standard, section 13.2.6.4.20).
use Rattle.std.specs.Prelude.{List, [], ◌∷◌}
use Rattle.html_rules.specs.Table.{Row, StartTags, WhiteSpace, Comment, EndOfFile, AnythingElse, Nothing, ParseError}
use Rattle.html_rules.specs.Table.{AppendCommentToDocument, Done, Reprocess, Using, row}
use Rattle.html_rules.specs.declared.insertion_mode.InsertionMode.TheVariants.{InBody}
use Rattle.html_rules.specs.declared.tag_set.TagSet.TheVariants as set

abbrev pub after_after_body : List Row
after_after_body =
    row WhiteSpace Nothing (Using InBody)
    ∷ row Comment AppendCommentToDocument Done
    ∷ row (StartTags set.Html) Nothing (Using InBody)
    ∷ row EndOfFile Nothing Done
    ∷ row AnythingElse ParseError (Reprocess InBody)
    ∷ []
