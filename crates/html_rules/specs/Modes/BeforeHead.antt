-- The "before head" insertion mode (HTML Standard, section 13.2.6.4.3).
use Rattle.std.specs.Prelude.{List, [], ◌∷◌, codes}
use Rattle.html_rules.specs.Table.{Row, StartTags, EndTags, AnyEndTag, WhiteSpace, Comment, AnythingElse, Nothing, ParseError}
use Rattle.html_rules.specs.Table.{InsertElement, InsertNew, AppendComment, SetHeadElem, SwitchTo, Done, Reprocess, Using, row}
use Rattle.html_rules.specs.Table.{◌▸◌}
use Rattle.html_rules.specs.declared.insertion_mode.InsertionMode.TheVariants.{InHead, InBody}
use Rattle.html_rules.specs.declared.tag_set.TagSet.TheVariants as set

abbrev pub before_head : List Row
before_head =
    row WhiteSpace Nothing Done
    ∷ row Comment AppendComment Done
    ∷ row (StartTags set.Html) Nothing (Using InBody)
    ∷ row (StartTags set.Head) (InsertElement ▸ SetHeadElem ▸ SwitchTo InHead) Done
    ∷ row (EndTags set.HeadBodyHtmlBr) (InsertNew (codes "head") ▸ SetHeadElem) (Reprocess InHead)
    ∷ row AnyEndTag ParseError Done
    ∷ row AnythingElse (InsertNew (codes "head") ▸ SetHeadElem) (Reprocess InHead)
    ∷ []
