-- The "in cell" insertion mode (HTML Standard, section 13.2.6.4.15).
use Rattle.std.specs.Prelude.{List, [], ◌∷◌}
use Rattle.html_rules.specs.Table.{Row, StartTags, EndTags, AnythingElse, InScope, TokenInScope, Nothing, ParseError, Close}
use Rattle.html_rules.specs.Table.{CloseToken, ImpliedEndTags, ClearToMarker, SwitchTo, Done, Reprocess, Using, row, row_if}
use Rattle.html_rules.specs.Table.{◌▸◌}
use Rattle.html_rules.specs.declared.insertion_mode.InsertionMode.TheVariants.{InBody, InRow}
use Rattle.html_rules.specs.declared.tag_set.TagSet.TheVariants as set

abbrev pub in_cell : List Row
in_cell =
    row_if (EndTags set.TdTh) (TokenInScope set.TableScope) (ImpliedEndTags ▸ CloseToken ▸ ClearToMarker ▸ SwitchTo InRow) Done
    ∷ row (EndTags set.TdTh) ParseError Done
    ∷ row_if (StartTags set.CaptionCloser) (InScope set.TableScope set.TdTh)
    (ImpliedEndTags ▸ Close set.TdTh ▸ ClearToMarker) (Reprocess InRow)
    ∷ row (StartTags set.CaptionCloser) ParseError Done
    ∷ row (EndTags set.InCellIgnoredEnd) ParseError Done
    ∷ row_if (EndTags set.CellCloserEnd) (TokenInScope set.TableScope) (ImpliedEndTags ▸ Close set.TdTh ▸ ClearToMarker) (Reprocess InRow)
    ∷ row (EndTags set.CellCloserEnd) ParseError Done
    ∷ row AnythingElse Nothing (Using InBody)
    ∷ []
