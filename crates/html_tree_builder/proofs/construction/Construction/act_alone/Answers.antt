use Rattle.html_stack.proofs.Results.{ok-on}
use Rattle.html_tree_builder.proofs.Acted.{acted-as, its_answers}
use Rattle.html_tree_builder.proofs.construction.Construction.act_alone.Goals as goal

pub returns-in-InsertElement-clause-ok : goal.returns-in-InsertElement-clause-ok
returns-in-InsertElement-clause-ok g c = ok-on c.insert_copy.result
    (λ acted. acted-as _ _ _ _ _ c.in-InsertElement.is (acted (its_answers g.Sink.TreeSink))) c.insert_copy.ensures.ok

pub returns-in-InsertVoid-clause-ok : goal.returns-in-InsertVoid-clause-ok
returns-in-InsertVoid-clause-ok g c = ok-on c.insert_copy-in-InsertVoid.result
    (λ acted. acted-as _ _ _ _ _ c.in-InsertVoid.is (acted (its_answers g.Sink.TreeSink))) c.insert_copy-in-InsertVoid.ensures.ok

pub returns-in-InsertVoidAs-clause-ok : goal.returns-in-InsertVoidAs-clause-ok
returns-in-InsertVoidAs-clause-ok g c = ok-on c.insert_void_as.result
    (λ acted. acted-as _ _ _ _ _ c.in-InsertVoidAs.is (acted (its_answers g.Sink.TreeSink))) c.insert_void_as.ensures.ok

pub returns-in-InsertFormVoid-clause-ok : goal.returns-in-InsertFormVoid-clause-ok
returns-in-InsertFormVoid-clause-ok g c = ok-on c.insert_form_void.result
    (λ acted. acted-as _ _ _ _ _ c.in-InsertFormVoid.is (acted (its_answers g.Sink.TreeSink))) c.insert_form_void.ensures.ok

pub returns-in-InsertNew-clause-ok : goal.returns-in-InsertNew-clause-ok
returns-in-InsertNew-clause-ok g c = ok-on c.insert_new.result
    (λ acted. acted-as _ _ _ _ _ c.in-InsertNew.is (acted (its_answers g.Sink.TreeSink))) c.insert_new.ensures.ok

pub returns-in-InsertNewVoid-clause-ok : goal.returns-in-InsertNewVoid-clause-ok
returns-in-InsertNewVoid-clause-ok g c = ok-on c.insert_new_void.result
    (λ acted. acted-as _ _ _ _ _ c.in-InsertNewVoid.is (acted (its_answers g.Sink.TreeSink))) c.insert_new_void.ensures.ok

pub returns-in-CreateRoot-clause-ok : goal.returns-in-CreateRoot-clause-ok
returns-in-CreateRoot-clause-ok g c = ok-on c.create_root.result
    (λ acted. acted-as _ _ _ _ _ c.in-CreateRoot.is (acted (its_answers g.Sink.TreeSink))) c.create_root.ensures.ok

pub returns-in-CreateNewRoot-clause-ok : goal.returns-in-CreateNewRoot-clause-ok
returns-in-CreateNewRoot-clause-ok g c = ok-on c.create_new_root.result
    (λ acted. acted-as _ _ _ _ _ c.in-CreateNewRoot.is (acted (its_answers g.Sink.TreeSink))) c.create_new_root.ensures.ok

pub returns-in-AppendReplacement-clause-ok : goal.returns-in-AppendReplacement-clause-ok
returns-in-AppendReplacement-clause-ok g c = ok-on c.append_replacement.result
    (λ acted. acted-as _ _ _ _ _ c.in-AppendReplacement.is (acted (its_answers g.Sink.TreeSink))) c.append_replacement.ensures.ok

pub returns-in-AddAttributesToRoot-clause-ok : goal.returns-in-AddAttributesToRoot-clause-ok
returns-in-AddAttributesToRoot-clause-ok g c = ok-on c.add_attributes_to_root.result
    (λ acted. acted-as _ _ _ _ _ c.in-AddAttributesToRoot.is (acted (its_answers g.Sink.TreeSink))) c.add_attributes_to_root.ensures.ok

pub returns-in-AddAttributesToBody-clause-ok : goal.returns-in-AddAttributesToBody-clause-ok
returns-in-AddAttributesToBody-clause-ok g c = ok-on c.add_attributes_to_body.result
    (λ acted. acted-as _ _ _ _ _ c.in-AddAttributesToBody.is (acted (its_answers g.Sink.TreeSink))) c.add_attributes_to_body.ensures.ok

pub returns-in-Reconstruct-clause-ok : goal.returns-in-Reconstruct-clause-ok
returns-in-Reconstruct-clause-ok g c = ok-on c.reconstruct.result
    (λ acted. acted-as _ _ _ _ _ c.in-Reconstruct.is (acted (its_answers g.Sink.TreeSink))) c.reconstruct.ensures.ok

pub returns-in-InsertFormatting-clause-ok : goal.returns-in-InsertFormatting-clause-ok
returns-in-InsertFormatting-clause-ok g c = ok-on c.insert_copy-in-InsertFormatting.result
    (λ acted. acted-as _ _ _ _ _ c.in-InsertFormatting.is (acted (its_answers g.Sink.TreeSink)))
    c.insert_copy-in-InsertFormatting.ensures.ok

pub returns-in-AdoptNobr-clause-ok : goal.returns-in-AdoptNobr-clause-ok
returns-in-AdoptNobr-clause-ok g c = ok-on c.adopt_nobr.result
    (λ acted. acted-as _ _ _ _ _ c.in-AdoptNobr.is (acted (its_answers g.Sink.TreeSink))) c.adopt_nobr.ensures.ok

pub returns-in-CloseMisnestedA-clause-ok : goal.returns-in-CloseMisnestedA-clause-ok
returns-in-CloseMisnestedA-clause-ok g c = ok-on c.close_misnested_a.result
    (λ acted. acted-as _ _ _ _ _ c.in-CloseMisnestedA.is (acted (its_answers g.Sink.TreeSink))) c.close_misnested_a.ensures.ok

pub returns-in-InsertPendingText-clause-ok : goal.returns-in-InsertPendingText-clause-ok
returns-in-InsertPendingText-clause-ok g c = ok-on c.insert_pending_text.result
    (λ acted. acted-as _ _ _ _ _ c.in-InsertPendingText.is (acted (its_answers g.Sink.TreeSink))) c.insert_pending_text.ensures.ok

pub returns-in-EnterForeign-clause-ok : goal.returns-in-EnterForeign-clause-ok
returns-in-EnterForeign-clause-ok g c = ok-on c.enter_foreign.result
    (λ acted. acted-as _ _ _ _ _ c.in-EnterForeign.is (acted (its_answers g.Sink.TreeSink))) c.enter_foreign.ensures.ok

pub returns-in-InsertForeign-clause-ok : goal.returns-in-InsertForeign-clause-ok
returns-in-InsertForeign-clause-ok g c = ok-on c.insert_copy-in-InsertForeign.result
    (λ acted. acted-as _ _ _ _ _ c.in-InsertForeign.is (acted (its_answers g.Sink.TreeSink))) c.insert_copy-in-InsertForeign.ensures.ok

pub returns-in-PushHeadElem-clause-ok : goal.returns-in-PushHeadElem-clause-ok
returns-in-PushHeadElem-clause-ok g c = ok-on c.push_head_elem.result
    (λ acted. acted-as _ _ _ _ _ c.in-PushHeadElem.is
    (acted (its_answers g.Sink.TreeSink) (g.Sink.TreeSink.forest c.args.sink.now))) c.push_head_elem.ensures.ok

pub returns-in-InsertMarker-clause-ok : goal.returns-in-InsertMarker-clause-ok
returns-in-InsertMarker-clause-ok g c = ok-on c.push_marker.result
    (λ acted. acted-as _ _ _ _ _ c.in-InsertMarker.is
    (acted (its_answers g.Sink.TreeSink) (g.Sink.TreeSink.forest c.args.sink.now))) c.push_marker.ensures.ok

pub returns-in-PushTemplateMode-clause-ok : goal.returns-in-PushTemplateMode-clause-ok
returns-in-PushTemplateMode-clause-ok g c = ok-on c.push_template_mode.result
    (λ acted. acted-as _ _ _ _ _ c.in-PushTemplateMode.is
    (acted (its_answers g.Sink.TreeSink) (g.Sink.TreeSink.forest c.args.sink.now))) c.push_template_mode.ensures.ok

pub returns-in-SetTemplateMode-clause-ok : goal.returns-in-SetTemplateMode-clause-ok
returns-in-SetTemplateMode-clause-ok g c = ok-on c.set_template_mode.result
    (λ acted. acted-as _ _ _ _ _ c.in-SetTemplateMode.is
    (acted (its_answers g.Sink.TreeSink) (g.Sink.TreeSink.forest c.args.sink.now))) c.set_template_mode.ensures.ok

pub returns-in-InsertTemplate-clause-ok : goal.returns-in-InsertTemplate-clause-ok
returns-in-InsertTemplate-clause-ok g c = ok-on c.insert_template.result
    (λ acted. acted-as _ _ _ _ _ c.in-InsertTemplate.is acted) c.insert_template.ensures.ok

pub returns-in-ParseError-clause-ok : goal.returns-in-ParseError-clause-ok
returns-in-ParseError-clause-ok g c = acted-as _ _ _ _ _ c.in-ParseError.is (c.report_unexpected.ensures (its_answers g.Sink.TreeSink))

pub returns-in-RemoveBody-clause-ok : goal.returns-in-RemoveBody-clause-ok
returns-in-RemoveBody-clause-ok g c = acted-as _ _ _ _ _ c.in-RemoveBody.is (c.remove_body.ensures (its_answers g.Sink.TreeSink))

pub returns-in-Pop-clause-ok : goal.returns-in-Pop-clause-ok
returns-in-Pop-clause-ok g c = acted-as _ _ _ _ _ c.in-Pop.is (c.pop_told.ensures (its_answers g.Sink.TreeSink))

pub returns-in-Close-clause-ok : goal.returns-in-Close-clause-ok
returns-in-Close-clause-ok g c = acted-as _ _ _ _ _ c.in-Close.is (c.close_in.ensures (its_answers g.Sink.TreeSink))

pub returns-in-CloseP-clause-ok : goal.returns-in-CloseP-clause-ok
returns-in-CloseP-clause-ok g c = acted-as _ _ _ _ _ c.in-CloseP.is (c.close_p.ensures (its_answers g.Sink.TreeSink))

pub returns-in-CloseItem-clause-ok : goal.returns-in-CloseItem-clause-ok
returns-in-CloseItem-clause-ok g c = acted-as _ _ _ _ _ c.in-CloseItem.is (c.close_item.ensures (its_answers g.Sink.TreeSink))

pub returns-in-ImpliedEndTags-clause-ok : goal.returns-in-ImpliedEndTags-clause-ok
returns-in-ImpliedEndTags-clause-ok g c = acted-as _ _ _ _ _ c.in-ImpliedEndTags.is
    (c.implied_end_tags.ensures (its_answers g.Sink.TreeSink))

pub returns-in-ImpliedEndTagsExcept-clause-ok : goal.returns-in-ImpliedEndTagsExcept-clause-ok
returns-in-ImpliedEndTagsExcept-clause-ok g c = acted-as _ _ _ _ _ c.in-ImpliedEndTagsExcept.is
    (c.implied_end_tags_except.ensures (its_answers g.Sink.TreeSink))

pub returns-in-ImpliedEndTagsThoroughly-clause-ok : goal.returns-in-ImpliedEndTagsThoroughly-clause-ok
returns-in-ImpliedEndTagsThoroughly-clause-ok g c = acted-as _ _ _ _ _ c.in-ImpliedEndTagsThoroughly.is
    (c.implied_end_tags-in-ImpliedEndTagsThoroughly.ensures (its_answers g.Sink.TreeSink))

pub returns-in-CheckBodyEnd-clause-ok : goal.returns-in-CheckBodyEnd-clause-ok
returns-in-CheckBodyEnd-clause-ok g c = acted-as _ _ _ _ _ c.in-CheckBodyEnd.is (c.check_body_end.ensures (its_answers g.Sink.TreeSink))

pub returns-in-SetHeadElem-clause-ok : goal.returns-in-SetHeadElem-clause-ok
returns-in-SetHeadElem-clause-ok g c = acted-as _ _ _ _ _ c.in-SetHeadElem.is (c.set_head_elem.ensures (its_answers g.Sink.TreeSink))

pub returns-in-RemoveHeadElem-clause-ok : goal.returns-in-RemoveHeadElem-clause-ok
returns-in-RemoveHeadElem-clause-ok g c = acted-as _ _ _ _ _ c.in-RemoveHeadElem.is
    (c.remove_head_elem.ensures (its_answers g.Sink.TreeSink))

pub returns-in-SetFormElem-clause-ok : goal.returns-in-SetFormElem-clause-ok
returns-in-SetFormElem-clause-ok g c = acted-as _ _ _ _ _ c.in-SetFormElem.is (c.set_form_elem.ensures (its_answers g.Sink.TreeSink))

pub returns-in-RemoveFormElem-clause-ok : goal.returns-in-RemoveFormElem-clause-ok
returns-in-RemoveFormElem-clause-ok g c = acted-as _ _ _ _ _ c.in-RemoveFormElem.is
    (c.remove_form_elem.ensures (its_answers g.Sink.TreeSink))

pub returns-in-SetQuirks-clause-ok : goal.returns-in-SetQuirks-clause-ok
returns-in-SetQuirks-clause-ok g c = acted-as _ _ _ _ _ c.in-SetQuirks.is (c.set_quirks_mode.ensures (its_answers g.Sink.TreeSink))

pub returns-in-PopForeign-clause-ok : goal.returns-in-PopForeign-clause-ok
returns-in-PopForeign-clause-ok g c = acted-as _ _ _ _ _ c.in-PopForeign.is c.pop_foreign.ensures

pub returns-in-PopUntil-clause-ok : goal.returns-in-PopUntil-clause-ok
returns-in-PopUntil-clause-ok g c = acted-as _ _ _ _ _ c.in-PopUntil.is
    (c.pop_until.ensures (its_answers g.Sink.TreeSink) (g.Sink.TreeSink.forest c.args.sink.now))

pub returns-in-ClearBackTo-clause-ok : goal.returns-in-ClearBackTo-clause-ok
returns-in-ClearBackTo-clause-ok g c = acted-as _ _ _ _ _ c.in-ClearBackTo.is
    (c.clear_back_to.ensures (its_answers g.Sink.TreeSink) (g.Sink.TreeSink.forest c.args.sink.now))

pub returns-in-ForgetFormElem-clause-ok : goal.returns-in-ForgetFormElem-clause-ok
returns-in-ForgetFormElem-clause-ok g c = acted-as _ _ _ _ _ c.in-ForgetFormElem.is
    (c.forget_form_elem.ensures (its_answers g.Sink.TreeSink) (g.Sink.TreeSink.forest c.args.sink.now))

pub returns-in-ClearToMarker-clause-ok : goal.returns-in-ClearToMarker-clause-ok
returns-in-ClearToMarker-clause-ok g c = acted-as _ _ _ _ _ c.in-ClearToMarker.is
    (c.clear_to_marker.ensures (its_answers g.Sink.TreeSink) (g.Sink.TreeSink.forest c.args.sink.now))

pub returns-in-SwitchTo-clause-ok : goal.returns-in-SwitchTo-clause-ok
returns-in-SwitchTo-clause-ok g c = acted-as _ _ _ _ _ c.in-SwitchTo.is
    (c.set_mode.ensures (its_answers g.Sink.TreeSink) (g.Sink.TreeSink.forest c.args.sink.now))

pub returns-in-SaveMode-clause-ok : goal.returns-in-SaveMode-clause-ok
returns-in-SaveMode-clause-ok g c = acted-as _ _ _ _ _ c.in-SaveMode.is
    (c.save_mode.ensures (its_answers g.Sink.TreeSink) (g.Sink.TreeSink.forest c.args.sink.now))

pub returns-in-RestoreMode-clause-ok : goal.returns-in-RestoreMode-clause-ok
returns-in-RestoreMode-clause-ok g c = acted-as _ _ _ _ _ c.in-RestoreMode.is
    (c.restore_mode.ensures (its_answers g.Sink.TreeSink) (g.Sink.TreeSink.forest c.args.sink.now))

pub returns-in-ResetMode-clause-ok : goal.returns-in-ResetMode-clause-ok
returns-in-ResetMode-clause-ok g c = acted-as _ _ _ _ _ c.in-ResetMode.is
    (c.reset_mode.ensures (its_answers g.Sink.TreeSink) (g.Sink.TreeSink.forest c.args.sink.now))

pub returns-in-PopTemplateMode-clause-ok : goal.returns-in-PopTemplateMode-clause-ok
returns-in-PopTemplateMode-clause-ok g c = acted-as _ _ _ _ _ c.in-PopTemplateMode.is
    (c.pop_template_mode.ensures (its_answers g.Sink.TreeSink) (g.Sink.TreeSink.forest c.args.sink.now))

pub returns-in-FramesetNotOk-clause-ok : goal.returns-in-FramesetNotOk-clause-ok
returns-in-FramesetNotOk-clause-ok g c = acted-as _ _ _ _ _ c.in-FramesetNotOk.is
    (c.frameset_not_ok.ensures (its_answers g.Sink.TreeSink) (g.Sink.TreeSink.forest c.args.sink.now))

pub returns-in-IgnoreLineFeed-clause-ok : goal.returns-in-IgnoreLineFeed-clause-ok
returns-in-IgnoreLineFeed-clause-ok g c = acted-as _ _ _ _ _ c.in-IgnoreLineFeed.is
    (c.set_ignore_lf.ensures (its_answers g.Sink.TreeSink) (g.Sink.TreeSink.forest c.args.sink.now))

pub returns-in-EnableFosterParenting-clause-ok : goal.returns-in-EnableFosterParenting-clause-ok
returns-in-EnableFosterParenting-clause-ok g c = acted-as _ _ _ _ _ c.in-EnableFosterParenting.is
    (c.set_foster_parenting.ensures (its_answers g.Sink.TreeSink) (g.Sink.TreeSink.forest c.args.sink.now))

pub returns-in-DisableFosterParenting-clause-ok : goal.returns-in-DisableFosterParenting-clause-ok
returns-in-DisableFosterParenting-clause-ok g c = acted-as _ _ _ _ _ c.in-DisableFosterParenting.is
    (c.set_foster_parenting-in-DisableFosterParenting.ensures (its_answers g.Sink.TreeSink) (g.Sink.TreeSink.forest c.args.sink.now))
