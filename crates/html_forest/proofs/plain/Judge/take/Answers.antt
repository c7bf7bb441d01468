use Rattle.std.proofs.Common.{◌∙◌, ◌≤◌, sym, ap, refl}
use Rattle.std.proofs.lemmas.Bool.{ltb-false}
use Rattle.std.proofs.lemmas.Result.{IfOk-weaker}
use Rattle.std.specs.Prelude.{is_some}
use Rattle.markup.specs.Forest.{node_count, template_of}
use Rattle.markup.specs.Forest.NodeData.{Element}
use Rattle.markup.proofs.Parents.{data_of-past}
use Rattle.html_forest.specs.Views.{attributes, data_view}
use Rattle.html_forest.proofs.Judging.{text-taken, doctype-taken, element-taken, template-taken, comment-taken}
use Rattle.html_forest.proofs.Judging.{instruction-taken, children-taken, inner-plain}
use Rattle.html_forest.proofs.plain.Judge.take.Goals as goal

pub returns-in-Some-Text-clause-ok : goal.returns-in-Some-Text-clause-ok
returns-in-Some-Text-clause-ok c =
    text-taken c.args.forest.now c.requires.tree _ _ c.args.id _ _ _
    (sym c.in-Some-Text.ensures.about ∙ ap data_view c.in-Some-Text.field-0-is)
    c.place_after_text-behind.ensures c.go_on.ensures.stand c.go_on.ensures.rest (ap (λ waiting. waiting.items) c.go_on.ensures.waiting)

pub returns-in-Some-Doctype-clause-ok : goal.returns-in-Some-Doctype-clause-ok
returns-in-Some-Doctype-clause-ok c =
    doctype-taken c.args.forest.now c.requires.tree _ _ c.args.id _ _ _ _ _ (sym c.in-Some-Doctype.ensures.about
    ∙ ap data_view c.in-Some-Doctype.field-0-is)
    c.after_doctype-behind.ensures c.go_on-in-Some-Doctype.ensures.stand c.go_on-in-Some-Doctype.ensures.rest
    (ap (λ waiting. waiting.items) c.go_on-in-Some-Doctype.ensures.waiting)

pub returns-in-Some-Comment-clause-ok : goal.returns-in-Some-Comment-clause-ok
returns-in-Some-Comment-clause-ok c =
    comment-taken c.args.forest.now c.requires.tree _ _ c.args.id _ _ _ (sym c.in-Some-Comment.ensures.about
    ∙ ap data_view c.in-Some-Comment.field-0-is)
    c.after_comment-behind.ensures c.go_on-in-Some-Comment.ensures.stand c.go_on-in-Some-Comment.ensures.rest
    (ap (λ waiting. waiting.items) c.go_on-in-Some-Comment.ensures.waiting)

pub returns-in-Some-ProcessingInstruction-clause-ok : goal.returns-in-Some-ProcessingInstruction-clause-ok
returns-in-Some-ProcessingInstruction-clause-ok c = instruction-taken c.args.forest.now c.requires.tree _ _
    c.args.id _ _ (sym c.in-Some-ProcessingInstruction.ensures.about ∙ ap data_view c.in-Some-ProcessingInstruction.field-0-is)

pub returns-in-Some-Element-default-default-Some-default-clause-ok : goal.returns-in-Some-Element-default-default-Some-default-clause-ok
returns-in-Some-Element-default-default-Some-default-clause-ok c =
    let x = c.in-Some-Element-default-default-Some-default in
    template-taken c.args.forest.now c.requires.tree _ _ c.args.id _ _ _
    (sym x.ensures.about ∙ (ap data_view x.field-0-is
    ∙ ap (λ o. Element x.field-0-0.now (attributes x.field-0-1) (is_some o) x.field-0-3) x.field-0-2-is))

pub returns-in-Some-Element-default-default-None-default-clause-ok : goal.returns-in-Some-Element-default-default-None-default-clause-ok
returns-in-Some-Element-default-default-None-default-clause-ok c =
    let x = c.in-Some-Element-default-default-None-default in
    let about = sym x.ensures.about
    ∙ (ap data_view x.field-0-is ∙ ap (λ o. Element x.name.now (attributes x.attrs) (is_some o) x.field-0-3) x.field-0-2-is) in
    IfOk-weaker c.take_element.result _ _
    (λ goes_on h. element-taken c.args.forest.now c.requires.tree _ _ c.args.id _ _ _ goes_on about h) c.take_element.ensures.ok

pub returns-in-Some-Document-clause-ok : goal.returns-in-Some-Document-clause-ok
returns-in-Some-Document-clause-ok c =
    let about = sym c.in-Some-Document.ensures.about ∙ ap data_view c.in-Some-Document.field-0-is in
    IfOk-weaker c.take_children.result _ _
    (λ goes_on h. children-taken c.args.forest.now c.requires.tree _ _ c.args.id goes_on _ about
    (inner-plain c.args.forest.now c.args.id _ refl (ap template_of about)) (λ inner rest. refl) h) c.take_children.ensures.ok

pub returns-in-Some-Contents-clause-ok : goal.returns-in-Some-Contents-clause-ok
returns-in-Some-Contents-clause-ok c =
    let about = sym c.in-Some-Contents.ensures.about ∙ ap data_view c.in-Some-Contents.field-0-is in
    IfOk-weaker c.take_children-in-Some-Contents.result _ _
    (λ goes_on h. children-taken c.args.forest.now c.requires.tree _ _ c.args.id goes_on _ about
    (inner-plain c.args.forest.now c.args.id _ refl (ap template_of about)) (λ inner rest. refl) h)
    c.take_children-in-Some-Contents.ensures.ok

pub returns-in-None-clause-ok : goal.returns-in-None-clause-ok
returns-in-None-clause-ok c =
    let past : node_count c.args.forest.now ≤ c.args.id = ltb-false _ _ (sym c.in-None.ensures.there) in
    let about = data_of-past c.args.forest.now c.args.id past in
    IfOk-weaker c.take_children-in-None.result _ _
    (λ goes_on h. children-taken c.args.forest.now c.requires.tree _ _ c.args.id goes_on _ about
    (inner-plain c.args.forest.now c.args.id _ refl (ap template_of about)) (λ inner rest. refl) h) c.take_children-in-None.ensures.ok
