-- The "after head" insertion mode (HTML Standard, section 13.2.6.4.6).
use Rattle.std.specs.Prelude.{List, [], ◌∷◌, codes}
use Rattle.html_rules.specs.Table.{Row, StartTags, EndTags, AnyEndTag, WhiteSpace, Comment, AnythingElse, Nothing, ParseError}
use Rattle.html_rules.specs.Table.{InsertElement, InsertNew, AppendText, AppendComment, PushHeadElem, RemoveHeadElem, SwitchTo}
use Rattle.html_rules.specs.Table.{FramesetNotOk, Done, Reprocess, Using, UsingThen, row, ◌▸◌}
use Rattle.html_rules.specs.declared.insertion_mode.InsertionMode.TheVariants.{InHead, InBody, InFrameset}
use Rattle.html_rules.specs.declared.tag_set.TagSet.TheVariants as set

abbrev pub after_head : List Row
after_head =
    row WhiteSpace AppendText Done
    ∷ row Comment AppendComment Done
    ∷ row (StartTags set.Html) Nothing (Using InBody)
    ∷ row (StartTags set.Body) (InsertElement ▸ FramesetNotOk ▸ SwitchTo InBody) Done
    ∷ row (StartTags set.Frameset) (InsertElement ▸ SwitchTo InFrameset) Done
    ∷ row (StartTags set.HeadContent) (ParseError ▸ PushHeadElem) (UsingThen InHead RemoveHeadElem)
    ∷ row (EndTags set.Template) Nothing (Using InHead)
    ∷ row (EndTags set.BodyHtmlBr) (InsertNew (codes "body")) (Reprocess InBody)
    ∷ row (StartTags set.Head) ParseError Done
    ∷ row AnyEndTag ParseError Done
    ∷ row AnythingElse (InsertNew (codes "body")) (Reprocess InBody)
    ∷ []
