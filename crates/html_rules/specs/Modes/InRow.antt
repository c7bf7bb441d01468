-- The "in row" insertion mode (HTML Standard, section 13.2.6.4.14).
use Rattle.std.specs.Prelude.{List, [], ◌∷◌}
use Rattle.html_rules.specs.Table.{Row, StartTags, EndTags, AnythingElse, Not, InScope, TokenInScope, Nothing, ParseError}
use Rattle.html_rules.specs.Table.{InsertElement, Pop, ClearBackTo, InsertMarker, SwitchTo, Done, Reprocess, Using, row, row_if}
use Rattle.html_rules.specs.Table.{◌▸◌}
use Rattle.html_rules.specs.declared.insertion_mode.InsertionMode.TheVariants.{InTable, InTableBody, InCell}
use Rattle.html_rules.specs.declared.tag_set.TagSet.TheVariants as set

abbrev pub in_row : List Row
in_row =
    row (StartTags set.TdTh) (ClearBackTo set.TableRowContext ▸ InsertElement ▸ SwitchTo InCell ▸ InsertMarker) Done
    ∷ row_if (EndTags set.Tr) (InScope set.TableScope set.Tr) (ClearBackTo set.TableRowContext ▸ Pop ▸ SwitchTo InTableBody) Done
    ∷ row (EndTags set.Tr) ParseError Done
    ∷ row_if (StartTags set.RowCloser) (InScope set.TableScope set.Tr) (ClearBackTo set.TableRowContext ▸ Pop) (Reprocess InTableBody)
    ∷ row (StartTags set.RowCloser) ParseError Done
    ∷ row_if (EndTags set.Table) (InScope set.TableScope set.Tr) (ClearBackTo set.TableRowContext ▸ Pop) (Reprocess InTableBody)
    ∷ row (EndTags set.Table) ParseError Done
    ∷ row_if (EndTags set.TbodyTfootThead) (Not (TokenInScope set.TableScope)) ParseError Done
    ∷ row_if (EndTags set.TbodyTfootThead) (InScope set.TableScope set.Tr) (ClearBackTo set.TableRowContext ▸ Pop) (Reprocess InTableBody)
    ∷ row (EndTags set.TbodyTfootThead) Nothing Done
    ∷ row (EndTags set.InRowIgnoredEnd) ParseError Done
    ∷ row AnythingElse Nothing (Using InTable)
    ∷ []
