use Rattle.std.proofs.Common.{◌∙◌, sym, ap}
use Rattle.std.specs.Prelude.{slice_get}
use Rattle.html_rules.specs.Rules.{rows}
use Rattle.html_rules.specs.declared.insertion_mode.InsertionMode.TheVariants as mode
use Rattle.html_modes.proofs.LentRows.{got}
use Rattle.html_modes.proofs.modes.row_at.Goals as goal

pub returns-in-Initial : goal.returns-in-Initial
unfolding rows
returns-in-Initial c = got c.rows.result.now (rows mode.Initial) c.args.place c.get.result c.get.ensures.lookup
    c.rows.ensures ∙ ap (λ m. slice_get (rows m) c.args.place) (sym c.in-Initial.is)

pub returns-in-BeforeHtml : goal.returns-in-BeforeHtml
unfolding rows
returns-in-BeforeHtml c = got c.rows-in-BeforeHtml.result.now (rows mode.BeforeHtml) c.args.place
    c.get-in-BeforeHtml.result c.get-in-BeforeHtml.ensures.lookup c.rows-in-BeforeHtml.ensures
    ∙ ap (λ m. slice_get (rows m) c.args.place) (sym c.in-BeforeHtml.is)

pub returns-in-BeforeHead : goal.returns-in-BeforeHead
unfolding rows
returns-in-BeforeHead c = got c.rows-in-BeforeHead.result.now (rows mode.BeforeHead) c.args.place
    c.get-in-BeforeHead.result c.get-in-BeforeHead.ensures.lookup c.rows-in-BeforeHead.ensures
    ∙ ap (λ m. slice_get (rows m) c.args.place) (sym c.in-BeforeHead.is)

pub returns-in-InHead : goal.returns-in-InHead
unfolding rows
returns-in-InHead c = got c.rows-in-InHead.result.now (rows mode.InHead) c.args.place c.get-in-InHead.result
    c.get-in-InHead.ensures.lookup c.rows-in-InHead.ensures ∙ ap (λ m. slice_get (rows m) c.args.place) (sym c.in-InHead.is)

pub returns-in-InHeadNoscript : goal.returns-in-InHeadNoscript
unfolding rows
returns-in-InHeadNoscript c = got c.rows-in-InHeadNoscript.result.now (rows mode.InHeadNoscript) c.args.place
    c.get-in-InHeadNoscript.result c.get-in-InHeadNoscript.ensures.lookup c.rows-in-InHeadNoscript.ensures
    ∙ ap (λ m. slice_get (rows m) c.args.place) (sym c.in-InHeadNoscript.is)

pub returns-in-AfterHead : goal.returns-in-AfterHead
unfolding rows
returns-in-AfterHead c = got c.rows-in-AfterHead.result.now (rows mode.AfterHead) c.args.place
    c.get-in-AfterHead.result c.get-in-AfterHead.ensures.lookup c.rows-in-AfterHead.ensures
    ∙ ap (λ m. slice_get (rows m) c.args.place) (sym c.in-AfterHead.is)

pub returns-in-InBody : goal.returns-in-InBody
unfolding rows
returns-in-InBody c = c.row_at.ensures ∙ ap (λ m. slice_get (rows m) c.args.place) (sym c.in-InBody.is)

pub returns-in-Text : goal.returns-in-Text
unfolding rows
returns-in-Text c = got c.rows-in-Text.result.now (rows mode.Text) c.args.place c.get-in-Text.result
    c.get-in-Text.ensures.lookup c.rows-in-Text.ensures ∙ ap (λ m. slice_get (rows m) c.args.place) (sym c.in-Text.is)

pub returns-in-InTable : goal.returns-in-InTable
unfolding rows
returns-in-InTable c = got c.rows-in-InTable.result.now (rows mode.InTable) c.args.place c.get-in-InTable.result
    c.get-in-InTable.ensures.lookup c.rows-in-InTable.ensures ∙ ap (λ m. slice_get (rows m) c.args.place) (sym c.in-InTable.is)

pub returns-in-InTableText : goal.returns-in-InTableText
unfolding rows
returns-in-InTableText c = got c.rows-in-InTableText.result.now (rows mode.InTableText) c.args.place
    c.get-in-InTableText.result c.get-in-InTableText.ensures.lookup c.rows-in-InTableText.ensures
    ∙ ap (λ m. slice_get (rows m) c.args.place) (sym c.in-InTableText.is)

pub returns-in-InCaption : goal.returns-in-InCaption
unfolding rows
returns-in-InCaption c = got c.rows-in-InCaption.result.now (rows mode.InCaption) c.args.place
    c.get-in-InCaption.result c.get-in-InCaption.ensures.lookup c.rows-in-InCaption.ensures
    ∙ ap (λ m. slice_get (rows m) c.args.place) (sym c.in-InCaption.is)

pub returns-in-InColumnGroup : goal.returns-in-InColumnGroup
unfolding rows
returns-in-InColumnGroup c = got c.rows-in-InColumnGroup.result.now (rows mode.InColumnGroup) c.args.place
    c.get-in-InColumnGroup.result c.get-in-InColumnGroup.ensures.lookup c.rows-in-InColumnGroup.ensures
    ∙ ap (λ m. slice_get (rows m) c.args.place) (sym c.in-InColumnGroup.is)

pub returns-in-InTableBody : goal.returns-in-InTableBody
unfolding rows
returns-in-InTableBody c = got c.rows-in-InTableBody.result.now (rows mode.InTableBody) c.args.place
    c.get-in-InTableBody.result c.get-in-InTableBody.ensures.lookup c.rows-in-InTableBody.ensures
    ∙ ap (λ m. slice_get (rows m) c.args.place) (sym c.in-InTableBody.is)

pub returns-in-InRow : goal.returns-in-InRow
unfolding rows
returns-in-InRow c = got c.rows-in-InRow.result.now (rows mode.InRow) c.args.place c.get-in-InRow.result
    c.get-in-InRow.ensures.lookup c.rows-in-InRow.ensures ∙ ap (λ m. slice_get (rows m) c.args.place) (sym c.in-InRow.is)

pub returns-in-InCell : goal.returns-in-InCell
unfolding rows
returns-in-InCell c = got c.rows-in-InCell.result.now (rows mode.InCell) c.args.place c.get-in-InCell.result
    c.get-in-InCell.ensures.lookup c.rows-in-InCell.ensures ∙ ap (λ m. slice_get (rows m) c.args.place) (sym c.in-InCell.is)

pub returns-in-InTemplate : goal.returns-in-InTemplate
unfolding rows
returns-in-InTemplate c = got c.rows-in-InTemplate.result.now (rows mode.InTemplate) c.args.place
    c.get-in-InTemplate.result c.get-in-InTemplate.ensures.lookup c.rows-in-InTemplate.ensures
    ∙ ap (λ m. slice_get (rows m) c.args.place) (sym c.in-InTemplate.is)

pub returns-in-AfterBody : goal.returns-in-AfterBody
unfolding rows
returns-in-AfterBody c = got c.rows-in-AfterBody.result.now (rows mode.AfterBody) c.args.place
    c.get-in-AfterBody.result c.get-in-AfterBody.ensures.lookup c.rows-in-AfterBody.ensures
    ∙ ap (λ m. slice_get (rows m) c.args.place) (sym c.in-AfterBody.is)

pub returns-in-InFrameset : goal.returns-in-InFrameset
unfolding rows
returns-in-InFrameset c = got c.rows-in-InFrameset.result.now (rows mode.InFrameset) c.args.place
    c.get-in-InFrameset.result c.get-in-InFrameset.ensures.lookup c.rows-in-InFrameset.ensures
    ∙ ap (λ m. slice_get (rows m) c.args.place) (sym c.in-InFrameset.is)

pub returns-in-AfterFrameset : goal.returns-in-AfterFrameset
unfolding rows
returns-in-AfterFrameset c = got c.rows-in-AfterFrameset.result.now (rows mode.AfterFrameset) c.args.place
    c.get-in-AfterFrameset.result c.get-in-AfterFrameset.ensures.lookup c.rows-in-AfterFrameset.ensures
    ∙ ap (λ m. slice_get (rows m) c.args.place) (sym c.in-AfterFrameset.is)

pub returns-in-AfterAfterBody : goal.returns-in-AfterAfterBody
unfolding rows
returns-in-AfterAfterBody c = got c.rows-in-AfterAfterBody.result.now (rows mode.AfterAfterBody) c.args.place
    c.get-in-AfterAfterBody.result c.get-in-AfterAfterBody.ensures.lookup c.rows-in-AfterAfterBody.ensures
    ∙ ap (λ m. slice_get (rows m) c.args.place) (sym c.in-AfterAfterBody.is)

pub returns-in-AfterAfterFrameset : goal.returns-in-AfterAfterFrameset
unfolding rows
returns-in-AfterAfterFrameset c = got c.rows-in-AfterAfterFrameset.result.now (rows mode.AfterAfterFrameset)
    c.args.place c.get-in-AfterAfterFrameset.result c.get-in-AfterAfterFrameset.ensures.lookup
    c.rows-in-AfterAfterFrameset.ensures ∙ ap (λ m. slice_get (rows m) c.args.place) (sym c.in-AfterAfterFrameset.is)
