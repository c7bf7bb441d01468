-- The "in caption" insertion mode (HTML Standard, section 13.2.6.4.11).
use Rattle.std.specs.Prelude.{List, [], ◌∷◌}
use Rattle.html_rules.specs.Table.{Row, StartTags, EndTags, AnythingElse, InScope, Nothing, ParseError, Close, ImpliedEndTags}
use Rattle.html_rules.specs.Table.{ClearToMarker, SwitchTo, Done, Reprocess, Using, row, row_if, ◌▸◌}
use Rattle.html_rules.specs.declared.insertion_mode.InsertionMode.TheVariants.{InBody, InTable}
use Rattle.html_rules.specs.declared.tag_set.TagSet.TheVariants as set

abbrev pub in_caption : List Row
in_caption =
    row_if (StartTags set.CaptionCloser) (InScope set.TableScope set.Caption)
    (ImpliedEndTags ▸ Close set.Caption ▸ ClearToMarker) (Reprocess InTable)
    ∷ row (StartTags set.CaptionCloser) ParseError Done
    ∷ row_if (EndTags set.Table) (InScope set.TableScope set.Caption)
    (ImpliedEndTags ▸ Close set.Caption ▸ ClearToMarker) (Reprocess InTable)
    ∷ row (EndTags set.Table) ParseError Done
    ∷ row_if (EndTags set.Caption) (InScope set.TableScope set.Caption)
    (ImpliedEndTags ▸ Close set.Caption ▸ ClearToMarker ▸ SwitchTo InTable) Done
    ∷ row (EndTags set.Caption) ParseError Done
    ∷ row (EndTags set.InCaptionIgnoredEnd) ParseError Done
    ∷ row AnythingElse Nothing (Using InBody)
    ∷ []
