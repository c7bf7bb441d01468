use Rattle.std.proofs.Common.{refl}
use Rattle.std.proofs.lemmas.Result.{IfOk-weaker}
use Rattle.html_faithful_judge.specs.Tokens.{token_of}
use Rattle.html_faithful_judge.proofs.Doing.{does-as, none-some, not-alone, provided-as}
use Rattle.html_faithful_judge.proofs.made.Made.does_alone.Goals as goal

pub returns-in-CreateRoot-clause-ok : goal.returns-in-CreateRoot-clause-ok
returns-in-CreateRoot-clause-ok c =
    IfOk-weaker c.create_root.result _ _ (λ goes_on h. does-as _ _ _ _ _ c.in-CreateRoot.is h) c.create_root.ensures.ok

pub returns-in-InsertElement-clause-ok : goal.returns-in-InsertElement-clause-ok
returns-in-InsertElement-clause-ok c =
    IfOk-weaker c.insert_element.result _ _ (λ goes_on h. does-as _ _ _ _ _ c.in-InsertElement.is h) c.insert_element.ensures.ok

pub returns-in-InsertFormatting-clause-ok : goal.returns-in-InsertFormatting-clause-ok
returns-in-InsertFormatting-clause-ok c =
    IfOk-weaker c.insert_formatting.result _ _ (λ goes_on h. does-as _ _ _ _ _ c.in-InsertFormatting.is h) c.insert_formatting.ensures.ok

pub returns-in-InsertTemplate-clause-ok : goal.returns-in-InsertTemplate-clause-ok
returns-in-InsertTemplate-clause-ok c =
    IfOk-weaker c.insert_template.result _ _ (λ goes_on h. does-as _ _ _ _ _ c.in-InsertTemplate.is h) c.insert_template.ensures.ok

pub returns-in-InsertVoid-clause-ok : goal.returns-in-InsertVoid-clause-ok
returns-in-InsertVoid-clause-ok c =
    IfOk-weaker c.insert_void.result _ _ (λ goes_on h. does-as _ _ _ _ _ c.in-InsertVoid.is h) c.insert_void.ensures.ok

pub returns-in-EnterForeign-clause-ok : goal.returns-in-EnterForeign-clause-ok
returns-in-EnterForeign-clause-ok c =
    IfOk-weaker c.enter_foreign.result _ _ (λ goes_on h. does-as _ _ _ _ _ c.in-EnterForeign.is h) c.enter_foreign.ensures.ok

pub returns-in-InsertForeign-clause-ok : goal.returns-in-InsertForeign-clause-ok
returns-in-InsertForeign-clause-ok c =
    IfOk-weaker c.insert_foreign.result _ _ (λ goes_on h. does-as _ _ _ _ _ c.in-InsertForeign.is h) c.insert_foreign.ensures.ok

pub returns-in-AppendText-clause-ok : goal.returns-in-AppendText-clause-ok
returns-in-AppendText-clause-ok c =
    does-as _ _ _ _ _ c.in-AppendText.is c.puts.ensures

pub returns-in-AppendComment-clause-ok : goal.returns-in-AppendComment-clause-ok
returns-in-AppendComment-clause-ok c =
    does-as _ _ _ _ _ c.in-AppendComment.is c.puts-in-AppendComment.ensures

pub returns-in-AppendCommentToRoot-clause-ok : goal.returns-in-AppendCommentToRoot-clause-ok
returns-in-AppendCommentToRoot-clause-ok c =
    does-as _ _ _ _ _ c.in-AppendCommentToRoot.is c.puts-in-AppendCommentToRoot.ensures

pub returns-in-AppendCommentToDocument-clause-ok : goal.returns-in-AppendCommentToDocument-clause-ok
returns-in-AppendCommentToDocument-clause-ok c =
    does-as _ _ _ _ _ c.in-AppendCommentToDocument.is c.puts-in-AppendCommentToDocument.ensures

pub returns-in-CloseP-clause-ok : goal.returns-in-CloseP-clause-ok
returns-in-CloseP-clause-ok c =
    does-as _ _ _ _ _ c.in-CloseP.is c.close_p.ensures

pub returns-in-PopUntil-clause-ok : goal.returns-in-PopUntil-clause-ok
returns-in-PopUntil-clause-ok c =
    does-as _ _ _ _ _ c.in-PopUntil.is c.close_in.ensures

pub returns-in-Close-clause-ok : goal.returns-in-Close-clause-ok
returns-in-Close-clause-ok c =
    does-as _ _ _ _ _ c.in-Close.is c.close_in-in-Close.ensures

pub returns-in-CloseToken-clause-ok : goal.returns-in-CloseToken-clause-ok
returns-in-CloseToken-clause-ok c =
    does-as _ _ _ _ _ c.in-CloseToken.is c.close_named.ensures

pub returns-in-AnyOtherEndTag-clause-ok : goal.returns-in-AnyOtherEndTag-clause-ok
returns-in-AnyOtherEndTag-clause-ok c =
    does-as _ _ _ _ _ c.in-AnyOtherEndTag.is c.close_named-in-AnyOtherEndTag.ensures

pub returns-in-AdoptionAgency-clause-ok : goal.returns-in-AdoptionAgency-clause-ok
returns-in-AdoptionAgency-clause-ok c =
    does-as _ _ _ _ _ c.in-AdoptionAgency.is c.adopt.ensures

pub returns-in-Pop-clause-ok : goal.returns-in-Pop-clause-ok
returns-in-Pop-clause-ok c =
    does-as _ _ _ _ _ c.in-Pop.is c.pop_current.ensures

pub returns-in-RemoveFormElem-clause-ok : goal.returns-in-RemoveFormElem-clause-ok
returns-in-RemoveFormElem-clause-ok c =
    does-as _ _ _ _ _ c.in-RemoveFormElem.is c.remove_form.ensures

pub returns-in-CloseForeign-clause-ok : goal.returns-in-CloseForeign-clause-ok
returns-in-CloseForeign-clause-ok c =
    does-as _ _ _ _ _ c.in-CloseForeign.is c.close_foreign.ensures

pub returns-in-CloseItem-clause-ok : goal.returns-in-CloseItem-clause-ok
returns-in-CloseItem-clause-ok c =
    does-as _ _ _ _ _ c.in-CloseItem.is (provided-as _ _ _ (none-some _ _ c.has_item.ensures))

pub returns-in-ClearBackTo-clause-ok : goal.returns-in-ClearBackTo-clause-ok
returns-in-ClearBackTo-clause-ok c =
    does-as _ _ _ _ _ c.in-ClearBackTo.is (provided-as _ _ _ c.current_is.ensures)

pub returns-in-ImpliedEndTags-clause-ok : goal.returns-in-ImpliedEndTags-clause-ok
returns-in-ImpliedEndTags-clause-ok c =
    does-as _ _ _ _ _ c.in-ImpliedEndTags.is (provided-as _ _ _ c.implies_none.ensures)

pub returns-in-ImpliedEndTagsExcept-clause-ok : goal.returns-in-ImpliedEndTagsExcept-clause-ok
returns-in-ImpliedEndTagsExcept-clause-ok c =
    does-as _ _ _ _ _ c.in-ImpliedEndTagsExcept.is (provided-as _ _ _ c.implies_none_but.ensures)

pub returns-in-ImpliedEndTagsExceptToken-clause-ok : goal.returns-in-ImpliedEndTagsExceptToken-clause-ok
returns-in-ImpliedEndTagsExceptToken-clause-ok c =
    does-as _ _ _ _ _ c.in-ImpliedEndTagsExceptToken.is (provided-as _ _ _ c.implies_none_but_token.ensures)

pub returns-in-ImpliedEndTagsThoroughly-clause-ok : goal.returns-in-ImpliedEndTagsThoroughly-clause-ok
returns-in-ImpliedEndTagsThoroughly-clause-ok c =
    does-as _ _ _ _ _ c.in-ImpliedEndTagsThoroughly.is (provided-as _ _ _ c.implies_none-in-ImpliedEndTagsThoroughly.ensures)

pub returns-in-Reconstruct-clause-ok : goal.returns-in-Reconstruct-clause-ok
returns-in-Reconstruct-clause-ok c =
    does-as _ _ _ _ _ c.in-Reconstruct.is (provided-as _ _ _ c.is_untouched.ensures)

pub returns-in-CheckBodyEnd-clause-ok : goal.returns-in-CheckBodyEnd-clause-ok
returns-in-CheckBodyEnd-clause-ok c =
    does-as _ _ _ _ _ c.in-CheckBodyEnd.is (provided-as _ _ _ c.context.ensures.ends_with_body)

pub returns-in-InsertMarker-clause-ok : goal.returns-in-InsertMarker-clause-ok
returns-in-InsertMarker-clause-ok c =
    does-as _ _ _ _ _ c.in-InsertMarker.is c.changes.ensures

pub returns-in-ClearToMarker-clause-ok : goal.returns-in-ClearToMarker-clause-ok
returns-in-ClearToMarker-clause-ok c =
    does-as _ _ _ _ _ c.in-ClearToMarker.is c.changes-in-ClearToMarker.ensures

pub returns-in-SetFormElem-clause-ok : goal.returns-in-SetFormElem-clause-ok
returns-in-SetFormElem-clause-ok c =
    does-as _ _ _ _ _ c.in-SetFormElem.is (c.set_form.ensures (token_of c.args.token.now.content))

pub returns-in-ForgetFormElem-clause-ok : goal.returns-in-ForgetFormElem-clause-ok
returns-in-ForgetFormElem-clause-ok c =
    does-as _ _ _ _ _ c.in-ForgetFormElem.is (c.forget_form.ensures (token_of c.args.token.now.content))

pub returns-in-FramesetNotOkUnlessWhite-clause-ok : goal.returns-in-FramesetNotOkUnlessWhite-clause-ok
returns-in-FramesetNotOkUnlessWhite-clause-ok c =
    does-as _ _ _ _ _ c.in-FramesetNotOkUnlessWhite.is c.frameset_not_ok_unless_white.ensures

pub returns-in-Nothing-clause-ok : goal.returns-in-Nothing-clause-ok
returns-in-Nothing-clause-ok c =
    does-as _ _ _ _ _ c.in-Nothing.is refl

pub returns-in-FramesetNotOk-clause-ok : goal.returns-in-FramesetNotOk-clause-ok
returns-in-FramesetNotOk-clause-ok c =
    does-as _ _ _ _ _ c.in-FramesetNotOk.is refl

pub returns-in-SwitchTo-clause-ok : goal.returns-in-SwitchTo-clause-ok
returns-in-SwitchTo-clause-ok c =
    does-as _ _ _ _ _ c.in-SwitchTo.is refl

pub returns-in-SaveMode-clause-ok : goal.returns-in-SaveMode-clause-ok
returns-in-SaveMode-clause-ok c =
    does-as _ _ _ _ _ c.in-SaveMode.is refl

pub returns-in-SetHeadElem-clause-ok : goal.returns-in-SetHeadElem-clause-ok
returns-in-SetHeadElem-clause-ok c =
    does-as _ _ _ _ _ c.in-SetHeadElem.is refl

pub returns-in-IgnoreLineFeed-clause-ok : goal.returns-in-IgnoreLineFeed-clause-ok
returns-in-IgnoreLineFeed-clause-ok c =
    does-as _ _ _ _ _ c.in-IgnoreLineFeed.is refl

pub returns-in-RestoreMode-clause-ok : goal.returns-in-RestoreMode-clause-ok
returns-in-RestoreMode-clause-ok c =
    does-as _ _ _ _ _ c.in-RestoreMode.is (c.restore_mode.ensures (token_of c.args.token.now.content))

pub returns-in-ResetMode-clause-ok : goal.returns-in-ResetMode-clause-ok
returns-in-ResetMode-clause-ok c =
    does-as _ _ _ _ _ c.in-ResetMode.is (c.reset_mode.ensures (token_of c.args.token.now.content))

pub returns-in-PopTemplateMode-clause-ok : goal.returns-in-PopTemplateMode-clause-ok
returns-in-PopTemplateMode-clause-ok c =
    does-as _ _ _ _ _ c.in-PopTemplateMode.is (c.pop_template_mode.ensures (token_of c.args.token.now.content))

pub returns-in-PushTemplateMode-clause-ok : goal.returns-in-PushTemplateMode-clause-ok
returns-in-PushTemplateMode-clause-ok c =
    IfOk-weaker c.push_template_mode.result _ _
    (λ goes_on h. does-as _ _ _ _ _ c.in-PushTemplateMode.is (h (token_of c.args.token.now.content))) c.push_template_mode.ensures.ok

pub returns-in-SetTemplateMode-clause-ok : goal.returns-in-SetTemplateMode-clause-ok
returns-in-SetTemplateMode-clause-ok c =
    IfOk-weaker c.set_template_mode.result _ _
    (λ goes_on h. does-as _ _ _ _ _ c.in-SetTemplateMode.is (h (token_of c.args.token.now.content))) c.set_template_mode.ensures.ok

pub returns-in-ParseError-clause-ok : goal.returns-in-ParseError-clause-ok
returns-in-ParseError-clause-ok c =
    does-as _ _ _ _ _ c.in-ParseError.is refl

pub returns-in-InsertVoidAs-clause-ok : goal.returns-in-InsertVoidAs-clause-ok
returns-in-InsertVoidAs-clause-ok c =
    does-as _ _ _ _ _ c.in-InsertVoidAs.is refl

pub returns-in-InsertFormVoid-clause-ok : goal.returns-in-InsertFormVoid-clause-ok
returns-in-InsertFormVoid-clause-ok c =
    does-as _ _ _ _ _ c.in-InsertFormVoid.is refl

pub returns-in-InsertNew-clause-ok : goal.returns-in-InsertNew-clause-ok
returns-in-InsertNew-clause-ok c =
    does-as _ _ _ _ _ c.in-InsertNew.is refl

pub returns-in-InsertNewVoid-clause-ok : goal.returns-in-InsertNewVoid-clause-ok
returns-in-InsertNewVoid-clause-ok c =
    does-as _ _ _ _ _ c.in-InsertNewVoid.is refl

pub returns-in-CreateNewRoot-clause-ok : goal.returns-in-CreateNewRoot-clause-ok
returns-in-CreateNewRoot-clause-ok c =
    does-as _ _ _ _ _ c.in-CreateNewRoot.is refl

pub returns-in-AppendReplacement-clause-ok : goal.returns-in-AppendReplacement-clause-ok
returns-in-AppendReplacement-clause-ok c =
    does-as _ _ _ _ _ c.in-AppendReplacement.is refl

pub returns-in-AddAttributesToRoot-clause-ok : goal.returns-in-AddAttributesToRoot-clause-ok
returns-in-AddAttributesToRoot-clause-ok c =
    does-as _ _ _ _ _ c.in-AddAttributesToRoot.is refl

pub returns-in-AddAttributesToBody-clause-ok : goal.returns-in-AddAttributesToBody-clause-ok
returns-in-AddAttributesToBody-clause-ok c =
    does-as _ _ _ _ _ c.in-AddAttributesToBody.is refl

pub returns-in-RemoveBody-clause-ok : goal.returns-in-RemoveBody-clause-ok
returns-in-RemoveBody-clause-ok c =
    does-as _ _ _ _ _ c.in-RemoveBody.is refl

pub returns-in-PushHeadElem-clause-ok : goal.returns-in-PushHeadElem-clause-ok
returns-in-PushHeadElem-clause-ok c =
    does-as _ _ _ _ _ c.in-PushHeadElem.is refl

pub returns-in-RemoveHeadElem-clause-ok : goal.returns-in-RemoveHeadElem-clause-ok
returns-in-RemoveHeadElem-clause-ok c =
    does-as _ _ _ _ _ c.in-RemoveHeadElem.is refl

pub returns-in-AdoptNobr-clause-ok : goal.returns-in-AdoptNobr-clause-ok
returns-in-AdoptNobr-clause-ok c =
    does-as _ _ _ _ _ c.in-AdoptNobr.is refl

pub returns-in-CloseMisnestedA-clause-ok : goal.returns-in-CloseMisnestedA-clause-ok
returns-in-CloseMisnestedA-clause-ok c =
    does-as _ _ _ _ _ c.in-CloseMisnestedA.is refl

pub returns-in-SetQuirks-clause-ok : goal.returns-in-SetQuirks-clause-ok
returns-in-SetQuirks-clause-ok c =
    does-as _ _ _ _ _ c.in-SetQuirks.is refl

pub returns-in-EnableFosterParenting-clause-ok : goal.returns-in-EnableFosterParenting-clause-ok
returns-in-EnableFosterParenting-clause-ok c =
    does-as _ _ _ _ _ c.in-EnableFosterParenting.is refl

pub returns-in-DisableFosterParenting-clause-ok : goal.returns-in-DisableFosterParenting-clause-ok
returns-in-DisableFosterParenting-clause-ok c =
    does-as _ _ _ _ _ c.in-DisableFosterParenting.is refl

pub returns-in-KeepText-clause-ok : goal.returns-in-KeepText-clause-ok
returns-in-KeepText-clause-ok c =
    does-as _ _ _ _ _ c.in-KeepText.is refl

pub returns-in-InsertPendingText-clause-ok : goal.returns-in-InsertPendingText-clause-ok
returns-in-InsertPendingText-clause-ok c =
    does-as _ _ _ _ _ c.in-InsertPendingText.is refl

pub returns-in-PopForeign-clause-ok : goal.returns-in-PopForeign-clause-ok
returns-in-PopForeign-clause-ok c =
    does-as _ _ _ _ _ c.in-PopForeign.is refl

pub returns-in-Then-clause-ok : goal.returns-in-Then-clause-ok
returns-in-Then-clause-ok c =
    absurd (not-alone _ _ c.in-Then.is c.requires.alone refl)

pub returns-in-When-clause-ok : goal.returns-in-When-clause-ok
returns-in-When-clause-ok c =
    absurd (not-alone _ _ c.in-When.is c.requires.alone refl)
