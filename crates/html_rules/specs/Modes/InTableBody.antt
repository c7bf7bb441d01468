-- The "in table body" insertion mode (HTML Standard, section 13.2.6.4.13).
use Rattle.std.specs.Prelude.{List, [], ◌∷◌, codes}
use Rattle.html_rules.specs.Table.{Row, StartTags, EndTags, AnythingElse, InScope, TokenInScope, Nothing, ParseError}
use Rattle.html_rules.specs.Table.{InsertElement, InsertNew, Pop, ClearBackTo, SwitchTo, Done, Reprocess, Using, row, row_if}
use Rattle.html_rules.specs.Table.{◌▸◌}
use Rattle.html_rules.specs.declared.insertion_mode.InsertionMode.TheVariants.{InTable, InRow}
use Rattle.html_rules.specs.declared.tag_set.TagSet.TheVariants as set

abbrev pub in_table_body : List Row
in_table_body =
    row (StartTags set.Tr) (ClearBackTo set.TableBodyContext ▸ InsertElement ▸ SwitchTo InRow) Done
    ∷ row (StartTags set.TdTh) (ParseError ▸ ClearBackTo set.TableBodyContext ▸ InsertNew (codes "tr")) (Reprocess InRow)
    ∷ row_if (EndTags set.TbodyTfootThead) (TokenInScope set.TableScope) (ClearBackTo set.TableBodyContext ▸ Pop ▸ SwitchTo InTable) Done
    ∷ row (EndTags set.TbodyTfootThead) ParseError Done
    ∷ row_if (StartTags set.TableBodyCloser) (InScope set.TableScope set.TableTbodyTfoot)
    (ClearBackTo set.TableBodyContext ▸ Pop) (Reprocess InTable)
    ∷ row (StartTags set.TableBodyCloser) ParseError Done
    ∷ row_if (EndTags set.Table) (InScope set.TableScope set.TableTbodyTfoot) (ClearBackTo set.TableBodyContext ▸ Pop) (Reprocess InTable)
    ∷ row (EndTags set.Table) ParseError Done
    ∷ row (EndTags set.InTableBodyIgnoredEnd) ParseError Done
    ∷ row AnythingElse Nothing (Using InTable)
    ∷ []
