-- The "in head" insertion mode (HTML Standard, section 13.2.6.4.4).
use Rattle.std.specs.Prelude.{List, [], ◌∷◌}
use Rattle.html_tokens.specs.declared.states.RawKind.TheVariants.{Rcdata, Rawtext, ScriptData}
use Rattle.html_rules.specs.Table.{Row, StartTags, EndTags, AnyEndTag, WhiteSpace, Comment, AnythingElse, ScriptingEnabled}
use Rattle.html_rules.specs.Table.{TemplateOpen, Nothing, ParseError, InsertElement, InsertVoid, AppendText, AppendComment}
use Rattle.html_rules.specs.Table.{InsertTemplate, Pop, Close, ImpliedEndTagsThoroughly, InsertMarker, ClearToMarker, SwitchTo}
use Rattle.html_rules.specs.Table.{ResetMode, PushTemplateMode, PopTemplateMode, FramesetNotOk, Done, Reprocess, Using, RawText}
use Rattle.html_rules.specs.Table.{ReportEncoding, row, row_if, ◌▸◌, insert_raw_text}
use Rattle.html_rules.specs.declared.insertion_mode.InsertionMode.TheVariants.{InHeadNoscript, AfterHead, InBody, InTemplate}
use Rattle.html_rules.specs.declared.tag_set.TagSet.TheVariants as set

abbrev pub in_head : List Row
in_head =
    row WhiteSpace AppendText Done
    ∷ row Comment AppendComment Done
    ∷ row (StartTags set.Html) Nothing (Using InBody)
    ∷ row (StartTags set.MetadataVoid) InsertVoid ReportEncoding
    ∷ row (StartTags set.Title) insert_raw_text (RawText Rcdata)
    ∷ row (StartTags set.NoframesStyle) insert_raw_text (RawText Rawtext)
    ∷ row_if (StartTags set.Noscript) ScriptingEnabled insert_raw_text (RawText Rawtext)
    ∷ row (StartTags set.Noscript) (InsertElement ▸ SwitchTo InHeadNoscript) Done
    ∷ row (StartTags set.Script) insert_raw_text (RawText ScriptData)
    ∷ row (EndTags set.Head) (Pop ▸ SwitchTo AfterHead) Done
    ∷ row (EndTags set.BodyHtmlBr) Pop (Reprocess AfterHead)
    ∷ row (StartTags set.Template) (InsertMarker ▸ FramesetNotOk ▸ SwitchTo InTemplate ▸ PushTemplateMode InTemplate ▸ InsertTemplate) Done
    ∷ row_if (EndTags set.Template) TemplateOpen
    (ImpliedEndTagsThoroughly ▸ Close set.Template ▸ ClearToMarker ▸ PopTemplateMode ▸ ResetMode) Done
    ∷ row (EndTags set.Template) ParseError Done
    ∷ row (StartTags set.Head) ParseError Done
    ∷ row AnyEndTag ParseError Done
    ∷ row AnythingElse Pop (Reprocess AfterHead)
    ∷ []
