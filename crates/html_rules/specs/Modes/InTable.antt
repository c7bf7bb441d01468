-- The "in table" insertion mode (HTML Standard, section 13.2.6.4.9).
use Rattle.std.specs.Prelude.{List, [], ◌∷◌, codes}
use Rattle.html_rules.specs.Table.{Row, StartTags, EndTags, Character, Null, Comment, EndOfFile, AnythingElse, Not, Both}
use Rattle.html_rules.specs.Table.{CurrentIs, TemplateOpen, InScope, HasFormElem, TypeHidden, Nothing, ParseError}
use Rattle.html_rules.specs.Table.{InsertElement, InsertVoid, InsertFormVoid, InsertNew, AppendComment, PopUntil, ClearBackTo}
use Rattle.html_rules.specs.Table.{InsertMarker, SwitchTo, SaveMode, ResetMode, EnableFosterParenting, Done, Acknowledged}
use Rattle.html_rules.specs.Table.{Reprocess, ReprocessInMode, Using, row, row_if, ◌▸◌, fostered}
use Rattle.html_rules.specs.declared.insertion_mode.InsertionMode.TheVariants.{InHead, InBody, InTableText, InCaption}
use Rattle.html_rules.specs.declared.insertion_mode.InsertionMode.TheVariants.{InColumnGroup, InTableBody}
use Rattle.html_rules.specs.declared.tag_set.TagSet.TheVariants as set

abbrev pub in_table : List Row
in_table =
    row_if Character (CurrentIs set.FosterTarget) SaveMode (Reprocess InTableText)
    ∷ row_if Null (CurrentIs set.FosterTarget) SaveMode (Reprocess InTableText)
    ∷ row Character (ParseError ▸ EnableFosterParenting) fostered
    ∷ row Null (ParseError ▸ EnableFosterParenting) fostered
    ∷ row Comment AppendComment Done
    ∷ row (StartTags set.Caption) (ClearBackTo set.TableScope ▸ InsertMarker ▸ InsertElement ▸ SwitchTo InCaption) Done
    ∷ row (StartTags set.Colgroup) (ClearBackTo set.TableScope ▸ InsertElement ▸ SwitchTo InColumnGroup) Done
    ∷ row (StartTags set.Col) (ClearBackTo set.TableScope ▸ InsertNew (codes "colgroup")) (Reprocess InColumnGroup)
    ∷ row (StartTags set.TbodyTfootThead) (ClearBackTo set.TableScope ▸ InsertElement ▸ SwitchTo InTableBody) Done
    ∷ row (StartTags set.TdThTr) (ClearBackTo set.TableScope ▸ InsertNew (codes "tbody")) (Reprocess InTableBody)
    ∷ row_if (StartTags set.Table) (InScope set.TableScope set.Table) (ParseError ▸ PopUntil set.Table ▸ ResetMode) ReprocessInMode
    ∷ row (StartTags set.Table) ParseError Done
    ∷ row_if (EndTags set.Table) (InScope set.TableScope set.Table) (PopUntil set.Table ▸ ResetMode) Done
    ∷ row (EndTags set.Table) ParseError Done
    ∷ row (EndTags set.InTableIgnoredEnd) ParseError Done
    ∷ row (StartTags set.StyleScriptTemplate) Nothing (Using InHead)
    ∷ row (EndTags set.Template) Nothing (Using InHead)
    ∷ row_if (StartTags set.Input) TypeHidden (ParseError ▸ InsertVoid) Acknowledged
    ∷ row_if (StartTags set.Form) (Both (Not TemplateOpen) (Not HasFormElem)) (ParseError ▸ InsertFormVoid) Done
    ∷ row (StartTags set.Form) ParseError Done
    ∷ row EndOfFile Nothing (Using InBody)
    ∷ row AnythingElse (ParseError ▸ EnableFosterParenting) fostered
    ∷ []
