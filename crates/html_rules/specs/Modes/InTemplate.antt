-- The "in template" insertion mode (HTML Standard, section 13.2.6.4.16).
use Rattle.std.specs.Prelude.{List, [], ◌∷◌}
use Rattle.html_rules.specs.Table.{Row, StartTags, EndTags, AnyStartTag, Character, Comment, EndOfFile, AnythingElse}
use Rattle.html_rules.specs.Table.{TemplateOpen, Nothing, ParseError, PopUntil, ClearToMarker, ResetMode, SetTemplateMode}
use Rattle.html_rules.specs.Table.{PopTemplateMode, Done, Reprocess, ReprocessInMode, Using, row, row_if, ◌▸◌}
use Rattle.html_rules.specs.declared.insertion_mode.InsertionMode.TheVariants.{InHead, InBody, InTable, InColumnGroup, InTableBody, InRow}
use Rattle.html_rules.specs.declared.tag_set.TagSet.TheVariants as set

abbrev pub in_template : List Row
in_template =
    row Character Nothing (Using InBody)
    ∷ row Comment Nothing (Using InBody)
    ∷ row (StartTags set.HeadContent) Nothing (Using InHead)
    ∷ row (EndTags set.Template) Nothing (Using InHead)
    ∷ row (StartTags set.TableTemplate) (SetTemplateMode InTable) (Reprocess InTable)
    ∷ row (StartTags set.Col) (SetTemplateMode InColumnGroup) (Reprocess InColumnGroup)
    ∷ row (StartTags set.Tr) (SetTemplateMode InTableBody) (Reprocess InTableBody)
    ∷ row (StartTags set.TdTh) (SetTemplateMode InRow) (Reprocess InRow)
    ∷ row AnyStartTag (SetTemplateMode InBody) (Reprocess InBody)
    ∷ row_if EndOfFile TemplateOpen (ParseError ▸ PopUntil set.Template ▸ ClearToMarker ▸ PopTemplateMode ▸ ResetMode) ReprocessInMode
    ∷ row EndOfFile Nothing Done
    ∷ row AnythingElse ParseError Done
    ∷ []
