-- The "initial" insertion mode; doctypes are not among its rows (HTML Standard, section 13.2.6.4.1).
use Rattle.std.specs.Prelude.{List, [], ◌∷◌}
use Rattle.html_rules.specs.Table.{Row, WhiteSpace, Comment, AnythingElse, IframeSrcdoc, Nothing, ParseError}
use Rattle.html_rules.specs.Table.{AppendCommentToDocument, SetQuirks, Done, Reprocess, row, row_if, ◌▸◌}
use Rattle.html_rules.specs.declared.insertion_mode.InsertionMode.TheVariants.{BeforeHtml}

abbrev pub initial : List Row
initial =
    row WhiteSpace Nothing Done
    ∷ row Comment AppendCommentToDocument Done
    ∷ row_if AnythingElse IframeSrcdoc Nothing (Reprocess BeforeHtml)
    ∷ row AnythingElse (ParseError ▸ SetQuirks) (Reprocess BeforeHtml)
    ∷ []
