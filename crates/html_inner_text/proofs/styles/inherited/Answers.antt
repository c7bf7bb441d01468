use Rattle.std.proofs.Common.{◌≡◌, ◌∙◌, Some, None, ap, sym, subst}
use Rattle.markup.specs.Forest.{parent_of}
use Rattle.html_inner_text.specs.Styles.{Inherits, initial, own, under}
use Rattle.html_inner_text.specs.Styles.Inherits.{top, child}
use Rattle.html_inner_text.proofs.Climbing.{climbs}
use Rattle.html_inner_text.proofs.styles.inherited.Goals as goal

pub loop-parent-init : goal.loop-parent-init
loop-parent-init c = λ style h. h

pub loop-parent-smaller : goal.loop-parent-smaller
loop-parent-smaller c =
    climbs c.args.forest.now c.keeps.ensures.is_forest c.loop-parent.at c.in-Some.parent (sym c.parent.ensures ∙ c.in-Some.is)

pub loop-parent-preserved : goal.loop-parent-preserved
loop-parent-preserved c = λ style h.
    let f = c.args.forest.now in
    let up : parent_of f c.loop-parent.at ≡ Some c.in-Some.parent = sym c.parent.ensures ∙ c.in-Some.is in
    subst (λ s. Inherits f c.args.id s)
    (ap (λ o. under c.loop-parent.between (under o style)) (sym c.own.ensures) ∙ sym (c.joined-between.ensures style))
    (c.loop-parent.invariant (under (own f c.in-Some.parent) style) (child up h))

pub returns : goal.returns
returns c =
    let f = c.args.forest.now in
    let none : parent_of f c.loop-parent.at ≡ None = sym c.parent.ensures ∙ c.in_default.is in
    subst (λ s. Inherits f c.args.id s) (sym c.under.ensures) (c.loop-parent.invariant initial (top none))
