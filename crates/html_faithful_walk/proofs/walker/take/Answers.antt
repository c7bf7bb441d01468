use Rattle.std.proofs.Common.{◌∙◌, ◌≤◌, sym, ap, refl, false}
use Rattle.std.proofs.lemmas.Bool.{ltb-false}
use Rattle.std.proofs.lemmas.Result.{IfOk-weaker}
use Rattle.std.specs.Prelude.{is_some}
use Rattle.markup.specs.Forest.{node_count, template_of}
use Rattle.markup.specs.Forest.NodeData.{Element}
use Rattle.markup.proofs.Parents.{data_of-past}
use Rattle.html_forest.specs.Views.{attributes, contents_in, data_view}
use Rattle.html_faithful_judge.specs.Spots.{spot_of}
use Rattle.html_faithful_walk.specs.Left.{walk_of}
use Rattle.html_faithful_walk.proofs.Firsts as firsts
use Rattle.html_faithful_walk.proofs.Left.{children-taken, element-taken, inner-contents, inner-plain, leaf-taken, taken-as}
use Rattle.html_faithful_walk.proofs.Stands.{instruction-odd}
use Rattle.html_faithful_walk.proofs.walker.take.Goals as goal

pub returns-in-Some-Text-clause-ok : goal.returns-in-Some-Text-clause-ok
returns-in-Some-Text-clause-ok c =
    IfOk-weaker c.text.result _ _
    (λ goes_on h. leaf-taken _ c.args.forest.now c.requires.tree _ _ c.args.id _ _ goes_on
    (sym c.in-Some-Text.ensures.about ∙ ap data_view c.in-Some-Text.field-0-is) (λ inner rest. refl) h refl refl) c.text.ensures.ok

pub returns-in-Some-Comment-clause-ok : goal.returns-in-Some-Comment-clause-ok
returns-in-Some-Comment-clause-ok c =
    IfOk-weaker c.comment.result _ _
    (λ goes_on h. leaf-taken _ c.args.forest.now c.requires.tree _ _ c.args.id _ _ goes_on
    (sym c.in-Some-Comment.ensures.about ∙ ap data_view c.in-Some-Comment.field-0-is) (λ inner rest. refl) h refl refl) c.comment.ensures.ok

pub returns-in-Some-Doctype-clause-ok : goal.returns-in-Some-Doctype-clause-ok
returns-in-Some-Doctype-clause-ok c =
    leaf-taken _ c.args.forest.now c.requires.tree _ _ c.args.id _ _ _
    (sym c.in-Some-Doctype.ensures.about ∙ ap data_view c.in-Some-Doctype.field-0-is) (λ inner rest. refl) c.doctype.ensures.ok refl refl

pub returns-in-Some-ProcessingInstruction-clause-ok : goal.returns-in-Some-ProcessingInstruction-clause-ok
returns-in-Some-ProcessingInstruction-clause-ok c =
    leaf-taken c.args.scripting c.args.forest.now c.requires.tree (walk_of c.args.judge.now c.args.nodes.now)
    (walk_of c.args.judge.now c.args.nodes.now) c.args.id _ _ _
    (sym c.in-Some-ProcessingInstruction.ensures.about ∙ ap data_view c.in-Some-ProcessingInstruction.field-0-is) (λ inner rest. refl)
    (instruction-odd _ _ c.args.judge.now.stand c.args.judge.now.stand (spot_of c.args.judge.now.made.spot)
    (spot_of c.args.judge.now.made.spot)) refl refl

pub returns-in-Some-Element-default-default-None-default-clause-ok : goal.returns-in-Some-Element-default-default-None-default-clause-ok
returns-in-Some-Element-default-default-None-default-clause-ok c =
    let x = c.in-Some-Element-default-default-None-default in
    let about = sym x.ensures.about
    ∙ (ap data_view x.field-0-is ∙ ap (λ o. Element x.name.now (attributes x.attrs) (is_some o) x.field-0-3) x.field-0-2-is) in
    IfOk-weaker c.take_element.result _ _
    (λ goes_on h. element-taken _ c.args.forest.now c.requires.tree _ _ c.args.id _ _ _ _ _ goes_on about
    (inner-plain c.args.forest.now c.args.id _ refl (ap template_of about)) h) c.take_element.ensures.ok

pub returns-in-Some-Element-default-default-Some-default-clause-ok : goal.returns-in-Some-Element-default-default-Some-default-clause-ok
returns-in-Some-Element-default-default-Some-default-clause-ok c =
    let x = c.in-Some-Element-default-default-Some-default in
    let about = sym x.ensures.about
    ∙ (ap data_view x.field-0-is ∙ ap (λ o. Element x.name.now (attributes x.attrs) (is_some o) x.field-0-3) x.field-0-2-is) in
    let contents = sym x.field-0-2-is ∙ (sym (ap contents_in x.field-0-is) ∙ x.ensures.contents) in
    IfOk-weaker c.take_element-in-Some-Element-default-default-Some-default.result _ _
    (λ goes_on h. element-taken _ c.args.forest.now c.requires.tree _ _ c.args.id _ _ _ _ _ goes_on about
    (inner-contents c.args.forest.now c.args.id _ contents) h) c.take_element-in-Some-Element-default-default-Some-default.ensures.ok

pub returns-in-Some-Document-clause-ok : goal.returns-in-Some-Document-clause-ok
returns-in-Some-Document-clause-ok c =
    let about = sym c.in-Some-Document.ensures.about ∙ ap data_view c.in-Some-Document.field-0-is in
    IfOk-weaker c.take_children.result _ _
    (λ goes_on h. taken-as _ _ _ _ _ goes_on h.0 (children-taken _ c.args.forest.now c.requires.tree _ _ c.args.id _ about
    (inner-plain c.args.forest.now c.args.id _ refl (ap template_of about)) (λ inner rest. refl) refl refl h.1)) c.take_children.ensures.ok

pub returns-in-Some-Contents-clause-ok : goal.returns-in-Some-Contents-clause-ok
returns-in-Some-Contents-clause-ok c =
    let about = sym c.in-Some-Contents.ensures.about ∙ ap data_view c.in-Some-Contents.field-0-is in
    IfOk-weaker c.take_children-in-Some-Contents.result _ _
    (λ goes_on h. taken-as _ _ _ _ _ goes_on h.0 (children-taken _ c.args.forest.now c.requires.tree _ _ c.args.id _ about
    (inner-plain c.args.forest.now c.args.id _ refl (ap template_of about))
    (λ inner rest. refl) refl refl h.1)) c.take_children-in-Some-Contents.ensures.ok

pub returns-in-None-clause-ok : goal.returns-in-None-clause-ok
returns-in-None-clause-ok c =
    let past : node_count c.args.forest.now ≤ c.args.id = ltb-false _ _ (sym c.in-None.ensures.there) in
    let about = data_of-past c.args.forest.now c.args.id past in
    IfOk-weaker c.take_children-in-None.result _ _
    (λ goes_on h. taken-as _ _ _ _ _ goes_on h.0 (children-taken _ c.args.forest.now c.requires.tree _ _ c.args.id _ about
    (inner-plain c.args.forest.now c.args.id _ refl (ap template_of about))
    (λ inner rest. refl) refl refl h.1)) c.take_children-in-None.ensures.ok

-- WHICH IS THE FIRST

pub returns-in-Some-Text-clause-past : goal.returns-in-Some-Text-clause-past
returns-in-Some-Text-clause-past c =
    let old = walk_of c.args.judge.now c.args.nodes.now in
    let new = walk_of c.text.new.self c.args.nodes.now in
    IfOk-weaker c.text.result _ _
    (λ goes_on h. firsts.leaf-past c.args.scripting c.args.forest.now old new c.args.id _ goes_on
    (sym c.in-Some-Text.ensures.about ∙ ap data_view c.in-Some-Text.field-0-is) refl h refl refl) c.text.ensures.read

pub returns-in-Some-Comment-clause-past : goal.returns-in-Some-Comment-clause-past
returns-in-Some-Comment-clause-past c =
    let old = walk_of c.args.judge.now c.args.nodes.now in
    let new = walk_of c.comment.new.self c.args.nodes.now in
    IfOk-weaker c.comment.result _ _
    (λ goes_on h. firsts.leaf-past c.args.scripting c.args.forest.now old new c.args.id _ goes_on
    (sym c.in-Some-Comment.ensures.about ∙ ap data_view c.in-Some-Comment.field-0-is) refl h refl refl) c.comment.ensures.read

pub returns-in-Some-Doctype-clause-past : goal.returns-in-Some-Doctype-clause-past
returns-in-Some-Doctype-clause-past c =
    let old = walk_of c.args.judge.now c.args.nodes.now in
    let new = walk_of c.doctype.new.self c.args.nodes.now in
    firsts.leaf-past c.args.scripting c.args.forest.now old new c.args.id _ c.doctype.result
    (sym c.in-Some-Doctype.ensures.about ∙ ap data_view c.in-Some-Doctype.field-0-is) refl c.doctype.ensures.read refl refl

pub returns-in-Some-ProcessingInstruction-clause-past : goal.returns-in-Some-ProcessingInstruction-clause-past
returns-in-Some-ProcessingInstruction-clause-past c =
    firsts.leaf-past c.args.scripting c.args.forest.now (walk_of c.args.judge.now c.args.nodes.now)
    (walk_of c.args.judge.now c.args.nodes.now) c.args.id _ false
    (sym c.in-Some-ProcessingInstruction.ensures.about ∙ ap data_view c.in-Some-ProcessingInstruction.field-0-is) refl refl refl refl

pub returns-in-Some-Element-default-default-None-default-clause-past : goal.returns-in-Some-Element-default-default-None-default-clause-past
returns-in-Some-Element-default-default-None-default-clause-past c =
    let x = c.in-Some-Element-default-default-None-default in
    let about = sym x.ensures.about
    ∙ (ap data_view x.field-0-is ∙ ap (λ o. Element x.name.now (attributes x.attrs) (is_some o) x.field-0-3) x.field-0-2-is) in
    let old = walk_of c.args.judge.now c.args.nodes.now in
    let made = c.take_element.new in
    let new = walk_of made.judge made.nodes in
    IfOk-weaker c.take_element.result _ _
    (λ goes_on h. firsts.tag-past c.args.scripting c.args.forest.now old new c.args.id _ _ _ _ _ goes_on about
    (inner-plain c.args.forest.now c.args.id _ refl (ap template_of about)) h) c.take_element.ensures.tag

pub returns-in-Some-Element-default-default-Some-default-clause-past : goal.returns-in-Some-Element-default-default-Some-default-clause-past
returns-in-Some-Element-default-default-Some-default-clause-past c =
    let x = c.in-Some-Element-default-default-Some-default in
    let about = sym x.ensures.about
    ∙ (ap data_view x.field-0-is ∙ ap (λ o. Element x.name.now (attributes x.attrs) (is_some o) x.field-0-3) x.field-0-2-is) in
    let contents = sym x.field-0-2-is ∙ (sym (ap contents_in x.field-0-is) ∙ x.ensures.contents) in
    let old = walk_of c.args.judge.now c.args.nodes.now in
    let made = c.take_element-in-Some-Element-default-default-Some-default.new in
    let new = walk_of made.judge made.nodes in
    IfOk-weaker c.take_element-in-Some-Element-default-default-Some-default.result _ _
    (λ goes_on h. firsts.tag-past c.args.scripting c.args.forest.now old new c.args.id _ _ _ _ _ goes_on about
    (inner-contents c.args.forest.now c.args.id _ contents) h) c.take_element-in-Some-Element-default-default-Some-default.ensures.tag

pub returns-in-Some-Document-clause-past : goal.returns-in-Some-Document-clause-past
returns-in-Some-Document-clause-past c =
    let about = sym c.in-Some-Document.ensures.about ∙ ap data_view c.in-Some-Document.field-0-is in
    let old = walk_of c.args.judge.now c.args.nodes.now in
    let new = walk_of c.args.judge.now c.take_children.new.nodes in
    IfOk-weaker c.take_children.result _ _
    (λ goes_on h. firsts.past-as c.args.scripting c.args.forest.now old new c.args.id goes_on h.0
    (firsts.bare-past c.args.scripting c.args.forest.now old new c.args.id _ about refl refl refl h.1)) c.take_children.ensures.ok

pub returns-in-Some-Contents-clause-past : goal.returns-in-Some-Contents-clause-past
returns-in-Some-Contents-clause-past c =
    let about = sym c.in-Some-Contents.ensures.about ∙ ap data_view c.in-Some-Contents.field-0-is in
    let old = walk_of c.args.judge.now c.args.nodes.now in
    let new = walk_of c.args.judge.now c.take_children-in-Some-Contents.new.nodes in
    IfOk-weaker c.take_children-in-Some-Contents.result _ _
    (λ goes_on h. firsts.past-as c.args.scripting c.args.forest.now old new c.args.id goes_on h.0
    (firsts.bare-past c.args.scripting c.args.forest.now old new c.args.id _ about refl refl refl h.1))
    c.take_children-in-Some-Contents.ensures.ok

pub returns-in-None-clause-past : goal.returns-in-None-clause-past
returns-in-None-clause-past c =
    let past : node_count c.args.forest.now ≤ c.args.id = ltb-false _ _ (sym c.in-None.ensures.there) in
    let about = data_of-past c.args.forest.now c.args.id past in
    let old = walk_of c.args.judge.now c.args.nodes.now in
    let new = walk_of c.args.judge.now c.take_children-in-None.new.nodes in
    IfOk-weaker c.take_children-in-None.result _ _
    (λ goes_on h. firsts.past-as c.args.scripting c.args.forest.now old new c.args.id goes_on h.0
    (firsts.bare-past c.args.scripting c.args.forest.now old new c.args.id _ about refl refl refl h.1)) c.take_children-in-None.ensures.ok
