-- The "before html" insertion mode (HTML Standard, section 13.2.6.4.2).
use Rattle.std.specs.Prelude.{List, [], ◌∷◌}
use Rattle.html_rules.specs.Table.{Row, StartTags, EndTags, AnyEndTag, WhiteSpace, Comment, AnythingElse, Nothing, ParseError}
use Rattle.html_rules.specs.Table.{CreateRoot, CreateNewRoot, AppendCommentToDocument, SwitchTo, Done, Reprocess, row, ◌▸◌}
use Rattle.html_rules.specs.declared.insertion_mode.InsertionMode.TheVariants.{BeforeHead}
use Rattle.html_rules.specs.declared.tag_set.TagSet.TheVariants as set

abbrev pub before_html : List Row
before_html =
    row Comment AppendCommentToDocument Done
    ∷ row WhiteSpace Nothing Done
    ∷ row (StartTags set.Html) (CreateRoot ▸ SwitchTo BeforeHead) Done
    ∷ row (EndTags set.HeadBodyHtmlBr) CreateNewRoot (Reprocess BeforeHead)
    ∷ row AnyEndTag ParseError Done
    ∷ row AnythingElse CreateNewRoot (Reprocess BeforeHead)
    ∷ []
