-- What the tables of the code mean: the rows of the definitions.
use Rattle.std.specs.Prelude.{ℕ, List, map, Option, option_copied, option_map, codes}
use denote.Bor.{Bor}
use Rattle.html_rules.specs.Names.{Namespace, MathMl, Svg}
use Rattle.html_rules.specs.Table as rules
use Rattle.html_modes.specs.declared.table.Implied.{Implied}
use Rattle.html_modes.specs.declared.table.Implied.TheVariants as implied
use Rattle.html_modes.specs.declared.table.Foreign.{Foreign}
use Rattle.html_modes.specs.declared.table.Foreign.TheVariants as foreign
use Rattle.html_modes.specs.declared.table.Class.{Class}
use Rattle.html_modes.specs.declared.table.Class.TheVariants as class
use Rattle.html_modes.specs.declared.table.Condition.{Condition}
use Rattle.html_modes.specs.declared.table.Condition as condition
use Rattle.html_modes.specs.declared.table.Action.{Action}
use Rattle.html_modes.specs.declared.table.Action as action
use Rattle.html_modes.specs.declared.table.Conclusion.{Conclusion}
use Rattle.html_modes.specs.declared.table.Conclusion.TheVariants as conclusion
use Rattle.html_modes.specs.declared.table.Row.{Row}

abbrev pub namespace_of : Foreign → Namespace
namespace_of foreign.MathMl = MathMl
namespace_of foreign.Svg = Svg

abbrev pub spelled : Implied → List ℕ
spelled implied.Body = codes "body"
spelled implied.Br = codes "br"
spelled implied.Colgroup = codes "colgroup"
spelled implied.Head = codes "head"
spelled implied.Img = codes "img"
spelled implied.P = codes "p"
spelled implied.Tbody = codes "tbody"
spelled implied.Tr = codes "tr"

abbrev pub class_of : Class → rules.Class
class_of (class.StartTags a) = rules.StartTags a
class_of (class.EndTags a) = rules.EndTags a
class_of class.AnyStartTag = rules.AnyStartTag
class_of class.AnyEndTag = rules.AnyEndTag
class_of class.WhiteSpace = rules.WhiteSpace
class_of class.Character = rules.Character
class_of class.Null = rules.Null
class_of class.Comment = rules.Comment
class_of class.EndOfFile = rules.EndOfFile
class_of class.AnythingElse = rules.AnythingElse

abbrev pub condition_of : Condition → rules.Condition
condition_of condition.Always = rules.Always
condition_of (condition.Not' r a) = rules.Not (condition_of a)
condition_of (condition.Both' r a q b) = rules.Both (condition_of a) (condition_of b)
condition_of condition.ScriptingEnabled = rules.ScriptingEnabled
condition_of condition.IframeSrcdoc = rules.IframeSrcdoc
condition_of condition.ByStandard = rules.ByStandard
condition_of condition.InFragment = rules.InFragment
condition_of (condition.ContextIs a) = rules.ContextIs a
condition_of condition.InQuirksMode = rules.InQuirksMode
condition_of condition.FramesetOk = rules.FramesetOk
condition_of (condition.CurrentIs a) = rules.CurrentIs a
condition_of condition.CurrentIsToken = rules.CurrentIsToken
condition_of condition.RootAlone = rules.RootAlone
condition_of condition.SecondIsBody = rules.SecondIsBody
condition_of condition.TemplateOpen = rules.TemplateOpen
condition_of condition.HasTemplateModes = rules.HasTemplateModes
condition_of (condition.InScope a b) = rules.InScope a b
condition_of (condition.TokenInScope a) = rules.TokenInScope a
condition_of condition.HasFormElem = rules.HasFormElem
condition_of condition.FormElemInScope = rules.FormElemInScope
condition_of condition.FormElemIsCurrent = rules.FormElemIsCurrent
condition_of condition.AListed = rules.AListed
condition_of condition.TypeHidden = rules.TypeHidden
condition_of condition.FontAttributes = rules.FontAttributes
condition_of condition.EndsInHtml = rules.EndsInHtml
condition_of condition.ForeignEndError = rules.ForeignEndError

abbrev pub action_of : Action → rules.Action
action_of action.Nothing = rules.Nothing
action_of (action.Then' r a q b) = rules.Then (action_of a) (action_of b)
action_of (action.When' a r b) = rules.When (condition_of a) (action_of b)
action_of action.ParseError = rules.ParseError
action_of action.InsertElement = rules.InsertElement
action_of action.InsertVoid = rules.InsertVoid
action_of (action.InsertVoidAs a) = rules.InsertVoidAs (spelled a)
action_of action.InsertFormVoid = rules.InsertFormVoid
action_of (action.InsertNew a) = rules.InsertNew (spelled a)
action_of (action.InsertNewVoid a) = rules.InsertNewVoid (spelled a)
action_of action.CreateRoot = rules.CreateRoot
action_of action.CreateNewRoot = rules.CreateNewRoot
action_of action.AppendText = rules.AppendText
action_of action.AppendReplacement = rules.AppendReplacement
action_of action.AppendComment = rules.AppendComment
action_of action.AppendCommentToDocument = rules.AppendCommentToDocument
action_of action.AppendCommentToRoot = rules.AppendCommentToRoot
action_of action.InsertTemplate = rules.InsertTemplate
action_of action.AddAttributesToRoot = rules.AddAttributesToRoot
action_of action.AddAttributesToBody = rules.AddAttributesToBody
action_of action.RemoveBody = rules.RemoveBody
action_of action.Pop = rules.Pop
action_of (action.PopUntil a) = rules.PopUntil a
action_of (action.ClearBackTo a) = rules.ClearBackTo a
action_of (action.Close a) = rules.Close a
action_of action.CloseToken = rules.CloseToken
action_of action.CloseP = rules.CloseP
action_of (action.CloseItem a) = rules.CloseItem a
action_of action.ImpliedEndTags = rules.ImpliedEndTags
action_of (action.ImpliedEndTagsExcept a) = rules.ImpliedEndTagsExcept a
action_of action.ImpliedEndTagsExceptToken = rules.ImpliedEndTagsExceptToken
action_of action.ImpliedEndTagsThoroughly = rules.ImpliedEndTagsThoroughly
action_of action.AnyOtherEndTag = rules.AnyOtherEndTag
action_of action.CheckBodyEnd = rules.CheckBodyEnd
action_of action.SetHeadElem = rules.SetHeadElem
action_of action.PushHeadElem = rules.PushHeadElem
action_of action.RemoveHeadElem = rules.RemoveHeadElem
action_of action.SetFormElem = rules.SetFormElem
action_of action.RemoveFormElem = rules.RemoveFormElem
action_of action.ForgetFormElem = rules.ForgetFormElem
action_of action.Reconstruct = rules.Reconstruct
action_of action.InsertFormatting = rules.InsertFormatting
action_of action.InsertMarker = rules.InsertMarker
action_of action.ClearToMarker = rules.ClearToMarker
action_of action.AdoptionAgency = rules.AdoptionAgency
action_of action.AdoptNobr = rules.AdoptNobr
action_of action.CloseMisnestedA = rules.CloseMisnestedA
action_of (action.SwitchTo a) = rules.SwitchTo a
action_of action.SaveMode = rules.SaveMode
action_of action.RestoreMode = rules.RestoreMode
action_of action.ResetMode = rules.ResetMode
action_of (action.PushTemplateMode a) = rules.PushTemplateMode a
action_of (action.SetTemplateMode a) = rules.SetTemplateMode a
action_of action.PopTemplateMode = rules.PopTemplateMode
action_of action.SetQuirks = rules.SetQuirks
action_of action.FramesetNotOk = rules.FramesetNotOk
action_of action.FramesetNotOkUnlessWhite = rules.FramesetNotOkUnlessWhite
action_of action.IgnoreLineFeed = rules.IgnoreLineFeed
action_of action.EnableFosterParenting = rules.EnableFosterParenting
action_of action.DisableFosterParenting = rules.DisableFosterParenting
action_of action.KeepText = rules.KeepText
action_of action.InsertPendingText = rules.InsertPendingText
action_of (action.EnterForeign a) = rules.EnterForeign (namespace_of a)
action_of action.InsertForeign = rules.InsertForeign
action_of action.PopForeign = rules.PopForeign
action_of action.CloseForeign = rules.CloseForeign

abbrev pub conclusion_of : Conclusion → rules.Conclusion
conclusion_of conclusion.Done = rules.Done
conclusion_of conclusion.Acknowledged = rules.Acknowledged
conclusion_of (conclusion.Reprocess a) = rules.Reprocess a
conclusion_of conclusion.ReprocessInOriginal = rules.ReprocessInOriginal
conclusion_of conclusion.ReprocessInMode = rules.ReprocessInMode
conclusion_of (conclusion.Using a) = rules.Using a
conclusion_of (conclusion.UsingThen a b) = rules.UsingThen a (action_of b)
conclusion_of conclusion.UsingCurrentMode = rules.UsingCurrentMode
conclusion_of (conclusion.RawText a) = rules.RawText a
conclusion_of conclusion.PlainText = rules.PlainText
conclusion_of conclusion.RunScript = rules.RunScript
conclusion_of conclusion.ReportEncoding = rules.ReportEncoding

abbrev pub row_of : Row → rules.Row
row_of r = record { on = class_of r.on; when = condition_of r.when; does = action_of r.does; ends = conclusion_of r.ends }

abbrev pub rows_of : List Row → List rules.Row
rows_of rows = map row_of rows

-- the row that is lent, if one is
abbrev pub row_lent : Option (Bor Row) → Option rules.Row
row_lent found = option_map row_of (option_copied found)
