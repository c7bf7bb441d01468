use Rattle.std.proofs.Common.{◌≡◌, ◌∙◌, Some, ap, sym}
use Rattle.std.specs.Prelude.{cond}
use Rattle.html_selector_matching.specs.Around.{element_after, is_element}
use Rattle.html_selector_matching.proofs.Siblings.{element-after, fewer-after, no-after}
use Rattle.html_selector_matching.proofs.around.element_after.Goals as goal

pub returns-then-is_element : goal.returns-then-is_element
returns-then-is_element c =
    let f = c.args.forest.now in
    let at = c.loop-next.at in
    let next = c.in-Some.next in
    let there : is_element f next ≡ c.is_element.result = sym c.is_element.ensures in
    sym (c.loop-next.invariant ∙ (element-after f c.keeps.ensures.is_forest at next (sym c.in-Some.ensures)
    ∙ ap (λ b. cond b (Some next) (element_after f next)) (there ∙ c.if-is_element.true)))

pub loop-next-smaller : goal.loop-next-smaller
loop-next-smaller c =
    fewer-after c.args.forest.now c.keeps.ensures.is_forest c.loop-next.at c.in-Some.next (sym c.in-Some.ensures)

pub loop-next-preserved : goal.loop-next-preserved
loop-next-preserved c =
    let f = c.args.forest.now in
    let at = c.loop-next.at in
    let next = c.in-Some.next in
    let there : is_element f next ≡ c.is_element.result = sym c.is_element.ensures in
    c.loop-next.invariant ∙ (element-after f c.keeps.ensures.is_forest at next (sym c.in-Some.ensures)
    ∙ ap (λ b. cond b (Some next) (element_after f next)) (there ∙ c.if-is_element.false))

pub returns : goal.returns
returns c = sym (c.loop-next.invariant ∙ no-after c.args.forest.now c.loop-next.at (sym c.in_default.ensures))
