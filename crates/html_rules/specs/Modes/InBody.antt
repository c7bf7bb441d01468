-- The "in body" insertion mode (HTML Standard, section 13.2.6.4.7).
use Rattle.std.specs.Prelude.{List, [], ◌∷◌, codes}
use Rattle.html_tokens.specs.declared.states.RawKind.TheVariants.{Rcdata, Rawtext}
use Rattle.html_rules.specs.Names.{MathMl, Svg}
use Rattle.html_rules.specs.Table.{Row, StartTags, EndTags, AnyStartTag, AnyEndTag, Character, Null, Comment, EndOfFile}
use Rattle.html_rules.specs.Table.{AnythingElse, Not, Both, ByStandard, ScriptingEnabled, ContextIs, InQuirksMode, FramesetOk, CurrentIs}
use Rattle.html_rules.specs.Table.{CurrentIsToken, SecondIsBody, TemplateOpen, HasTemplateModes, InScope, TokenInScope}
use Rattle.html_rules.specs.Table.{HasFormElem, FormElemInScope, FormElemIsCurrent, AListed, TypeHidden, Nothing, When}
use Rattle.html_rules.specs.Table.{ParseError, InsertElement, InsertVoid, InsertVoidAs, InsertNew, InsertNewVoid, AppendText}
use Rattle.html_rules.specs.Table.{AppendComment, AddAttributesToRoot, AddAttributesToBody, RemoveBody, Pop, PopUntil}
use Rattle.html_rules.specs.Table.{CloseToken, CloseP, CloseItem, ImpliedEndTags, ImpliedEndTagsExcept}
use Rattle.html_rules.specs.Table.{ImpliedEndTagsExceptToken, AnyOtherEndTag, CheckBodyEnd, SetFormElem, ForgetFormElem}
use Rattle.html_rules.specs.Table.{RemoveFormElem, Reconstruct, InsertFormatting, InsertMarker, ClearToMarker, AdoptionAgency}
use Rattle.html_rules.specs.Table.{AdoptNobr, CloseMisnestedA, SwitchTo, FramesetNotOk, FramesetNotOkUnlessWhite}
use Rattle.html_rules.specs.Table.{IgnoreLineFeed, EnterForeign, Done, Acknowledged, Reprocess, Using, RawText, PlainText, row}
use Rattle.html_rules.specs.Table.{row_if, ◌▸◌, insert_raw_text}
use Rattle.html_rules.specs.declared.insertion_mode.InsertionMode.TheVariants.{InHead, InTable, InTemplate, AfterBody, InFrameset}
use Rattle.html_rules.specs.declared.tag_set.TagSet.TheVariants as set

abbrev pub in_body : List Row
in_body =
    row Null ParseError Done
    ∷ row Character (Reconstruct ▸ FramesetNotOkUnlessWhite ▸ AppendText) Done
    ∷ row Comment AppendComment Done
    ∷ row_if (StartTags set.Html) TemplateOpen ParseError Done
    ∷ row (StartTags set.Html) (ParseError ▸ AddAttributesToRoot) Done
    ∷ row (StartTags set.HeadContent) Nothing (Using InHead)
    ∷ row (EndTags set.Template) Nothing (Using InHead)
    ∷ row_if (StartTags set.Body) (Both SecondIsBody (Not TemplateOpen)) (ParseError ▸ FramesetNotOk ▸ AddAttributesToBody) Done
    ∷ row (StartTags set.Body) ParseError Done
    ∷ row_if (StartTags set.Frameset) (Both FramesetOk SecondIsBody) (ParseError ▸ RemoveBody ▸ InsertElement ▸ SwitchTo InFrameset) Done
    ∷ row (StartTags set.Frameset) ParseError Done
    ∷ row_if EndOfFile HasTemplateModes Nothing (Using InTemplate)
    ∷ row EndOfFile CheckBodyEnd Done
    ∷ row_if (EndTags set.Body) (InScope set.DefaultScope set.Body) (CheckBodyEnd ▸ SwitchTo AfterBody) Done
    ∷ row (EndTags set.Body) ParseError Done
    ∷ row_if (EndTags set.Html) (InScope set.DefaultScope set.Body) CheckBodyEnd (Reprocess AfterBody)
    ∷ row (EndTags set.Html) ParseError Done
    ∷ row (StartTags set.Block) (CloseP ▸ InsertElement) Done
    ∷ row (StartTags set.HeadingTag) (CloseP ▸ When (CurrentIs set.HeadingTag) (ParseError ▸ Pop) ▸ InsertElement) Done
    ∷ row (StartTags set.PreListing) (CloseP ▸ InsertElement ▸ IgnoreLineFeed ▸ FramesetNotOk) Done
    ∷ row_if (StartTags set.Form) (Both HasFormElem (Not TemplateOpen)) ParseError Done
    ∷ row (StartTags set.Form) (CloseP ▸ InsertElement ▸ When (Not TemplateOpen) SetFormElem) Done
    ∷ row (StartTags set.Li) (FramesetNotOk ▸ CloseItem set.Li ▸ CloseP ▸ InsertElement) Done
    ∷ row (StartTags set.DdDt) (FramesetNotOk ▸ CloseItem set.DdDt ▸ CloseP ▸ InsertElement) Done
    ∷ row (StartTags set.Plaintext) (CloseP ▸ InsertElement) PlainText
    ∷ row (StartTags set.Button)
    (When (InScope set.DefaultScope set.Button) (ParseError ▸ ImpliedEndTags ▸ PopUntil set.Button)
    ▸ Reconstruct ▸ InsertElement ▸ FramesetNotOk) Done
    ∷ row_if (EndTags set.BlockEnd) (TokenInScope set.DefaultScope) (ImpliedEndTags ▸ CloseToken) Done
    ∷ row (EndTags set.BlockEnd) ParseError Done
    -- outside templates the form element pointer says which form ends
    ∷ row_if (EndTags set.Form) (Both (Not TemplateOpen) FormElemInScope)
    (ImpliedEndTags ▸ When (Not FormElemIsCurrent) ParseError ▸ RemoveFormElem ▸ ForgetFormElem) Done
    ∷ row_if (EndTags set.Form) (Not TemplateOpen) (ForgetFormElem ▸ ParseError) Done
    ∷ row_if (EndTags set.Form) (InScope set.DefaultScope set.Form)
    (ImpliedEndTags ▸ When (Not (CurrentIs set.Form)) ParseError ▸ PopUntil set.Form) Done
    ∷ row (EndTags set.Form) ParseError Done
    ∷ row (EndTags set.P) (When (Not (InScope set.ButtonScope set.P)) (ParseError ▸ InsertNew (codes "p")) ▸ CloseP) Done
    ∷ row_if (EndTags set.Li) (InScope set.ListItemScope set.Li) (ImpliedEndTagsExceptToken ▸ CloseToken) Done
    ∷ row (EndTags set.Li) ParseError Done
    ∷ row_if (EndTags set.DdDt) (TokenInScope set.DefaultScope) (ImpliedEndTagsExceptToken ▸ CloseToken) Done
    ∷ row (EndTags set.DdDt) ParseError Done
    ∷ row_if (EndTags set.HeadingTag) (InScope set.DefaultScope set.HeadingTag)
    (ImpliedEndTags ▸ When (Not CurrentIsToken) ParseError ▸ PopUntil set.HeadingTag) Done
    ∷ row (EndTags set.HeadingTag) ParseError Done
    ∷ row (StartTags set.A) (When AListed CloseMisnestedA ▸ Reconstruct ▸ InsertFormatting) Done
    ∷ row (StartTags set.FormattingTag) (Reconstruct ▸ InsertFormatting) Done
    ∷ row (StartTags set.Nobr)
    (Reconstruct ▸ When (InScope set.DefaultScope set.Nobr) (ParseError ▸ AdoptNobr ▸ Reconstruct) ▸ InsertFormatting) Done
    ∷ row (EndTags set.FormattingEnd) AdoptionAgency Done
    ∷ row (StartTags set.AppletMarqueeObject) (Reconstruct ▸ InsertElement ▸ InsertMarker ▸ FramesetNotOk) Done
    ∷ row_if (EndTags set.AppletMarqueeObject) (TokenInScope set.DefaultScope) (ImpliedEndTags ▸ CloseToken ▸ ClearToMarker) Done
    ∷ row (EndTags set.AppletMarqueeObject) ParseError Done
    ∷ row (StartTags set.Table) (When (Not InQuirksMode) CloseP ▸ InsertElement ▸ FramesetNotOk ▸ SwitchTo InTable) Done
    -- as the start tag `br`, without attributes
    ∷ row (EndTags set.Br) (ParseError ▸ Reconstruct ▸ InsertNewVoid (codes "br") ▸ FramesetNotOk) Done
    ∷ row (StartTags set.VoidTag) (Reconstruct ▸ InsertVoid ▸ FramesetNotOk) Acknowledged
    ∷ row_if (StartTags set.Input) (Both ByStandard (ContextIs set.Select)) ParseError Done
    ∷ row (StartTags set.Input)
    (When (ContextIs set.Select) ParseError ▸ When (InScope set.DefaultScope set.Select)
    (ParseError ▸ PopUntil set.Select) ▸ Reconstruct ▸ InsertVoid ▸ When (Not TypeHidden) FramesetNotOk) Acknowledged
    ∷ row (StartTags set.ParamSourceTrack) InsertVoid Acknowledged
    ∷ row (StartTags set.Hr)
    (CloseP ▸ When (InScope set.DefaultScope set.Select)
    (ImpliedEndTags ▸ When (InScope set.DefaultScope set.OptionOptgroup) ParseError) ▸ InsertVoid ▸ FramesetNotOk) Acknowledged
    -- as the start tag `img`
    ∷ row (StartTags set.Image) (ParseError ▸ Reconstruct ▸ InsertVoidAs (codes "img") ▸ FramesetNotOk) Acknowledged
    ∷ row (StartTags set.Textarea) (IgnoreLineFeed ▸ FramesetNotOk ▸ insert_raw_text) (RawText Rcdata)
    ∷ row (StartTags set.Xmp) (CloseP ▸ Reconstruct ▸ FramesetNotOk ▸ insert_raw_text) (RawText Rawtext)
    ∷ row (StartTags set.Iframe) (FramesetNotOk ▸ insert_raw_text) (RawText Rawtext)
    ∷ row (StartTags set.Noembed) insert_raw_text (RawText Rawtext)
    ∷ row_if (StartTags set.Noscript) ScriptingEnabled insert_raw_text (RawText Rawtext)
    ∷ row_if (StartTags set.Select) (ContextIs set.Select) ParseError Done
    ∷ row_if (StartTags set.Select) (InScope set.DefaultScope set.Select) (ParseError ▸ PopUntil set.Select) Done
    ∷ row (StartTags set.Select) (Reconstruct ▸ InsertElement ▸ FramesetNotOk) Done
    ∷ row_if (StartTags set.Option) (InScope set.DefaultScope set.Select)
    (ImpliedEndTagsExcept set.Optgroup ▸ When (InScope set.DefaultScope set.Option) ParseError ▸ Reconstruct ▸ InsertElement) Done
    ∷ row (StartTags set.Option) (When (CurrentIs set.Option) Pop ▸ Reconstruct ▸ InsertElement) Done
    ∷ row_if (StartTags set.Optgroup) (InScope set.DefaultScope set.Select)
    (ImpliedEndTags ▸ When (InScope set.DefaultScope set.OptionOptgroup) ParseError ▸ Reconstruct ▸ InsertElement) Done
    ∷ row (StartTags set.Optgroup) (When (CurrentIs set.Option) Pop ▸ Reconstruct ▸ InsertElement) Done
    ∷ row_if (StartTags set.RbRtc) (InScope set.DefaultScope set.Ruby)
    (ImpliedEndTags ▸ When (Not (CurrentIs set.Ruby)) ParseError ▸ InsertElement) Done
    ∷ row (StartTags set.RbRtc) (When (Not (CurrentIs set.Ruby)) ParseError ▸ InsertElement) Done
    ∷ row_if (StartTags set.RpRt) (InScope set.DefaultScope set.Ruby)
    (ImpliedEndTagsExcept set.Rtc ▸ When (Not (CurrentIs set.RtcRuby)) ParseError ▸ InsertElement) Done
    ∷ row (StartTags set.RpRt) (When (Not (CurrentIs set.RtcRuby)) ParseError ▸ InsertElement) Done
    ∷ row (StartTags set.Math) (Reconstruct ▸ EnterForeign MathMl) Acknowledged
    ∷ row (StartTags set.Svg) (Reconstruct ▸ EnterForeign Svg) Acknowledged
    ∷ row (StartTags set.TablePart) ParseError Done
    ∷ row AnyStartTag (Reconstruct ▸ InsertElement) Done
    ∷ row AnyEndTag AnyOtherEndTag Done
    ∷ row AnythingElse Nothing Done
    ∷ []
