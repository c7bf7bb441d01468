-- The rules for parsing tokens in foreign content (HTML Standard, section 13.2.6.5).
use Rattle.std.specs.Prelude.{List, [], ◌∷◌}
use Rattle.html_rules.specs.Table.{Row, StartTags, EndTags, AnyStartTag, AnyEndTag, Character, Null, Comment, AnythingElse}
use Rattle.html_rules.specs.Table.{FontAttributes, EndsInHtml, ForeignEndError, Nothing, When, ParseError, AppendText}
use Rattle.html_rules.specs.Table.{AppendReplacement, AppendComment, FramesetNotOkUnlessWhite, InsertForeign, PopForeign}
use Rattle.html_rules.specs.Table.{CloseForeign, Done, Acknowledged, UsingCurrentMode, row, row_if, ◌▸◌}
use Rattle.html_rules.specs.declared.tag_set.TagSet.TheVariants as set

abbrev pub in_foreign_content : List Row
in_foreign_content =
    row Null (ParseError ▸ AppendReplacement) Done
    ∷ row Character (FramesetNotOkUnlessWhite ▸ AppendText) Done
    ∷ row Comment AppendComment Done
    ∷ row (StartTags set.ForeignBreakout) (ParseError ▸ PopForeign) UsingCurrentMode
    ∷ row_if (StartTags set.Font) FontAttributes (ParseError ▸ PopForeign) UsingCurrentMode
    ∷ row (EndTags set.BrP) (ParseError ▸ PopForeign) UsingCurrentMode
    ∷ row AnyStartTag InsertForeign Acknowledged
    ∷ row_if AnyEndTag EndsInHtml ParseError UsingCurrentMode
    ∷ row AnyEndTag (When ForeignEndError ParseError ▸ CloseForeign) Done
    ∷ row AnythingElse Nothing Done
    ∷ []
