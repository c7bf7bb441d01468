use Rattle.std.proofs.Common.{◌≡◌, ◌∙◌, Some, ap, sym}
use Rattle.std.specs.Prelude.{cond}
use Rattle.html_selector_matching.specs.Around.{element_before, is_element}
use Rattle.html_selector_matching.proofs.Siblings.{element-before, fewer-before, no-before}
use Rattle.html_selector_matching.proofs.around.element_before.Goals as goal

pub returns-then-is_element : goal.returns-then-is_element
returns-then-is_element c =
    let f = c.args.forest.now in
    let at = c.loop-previous.at in
    let previous = c.in-Some.previous in
    let there : is_element f previous ≡ c.is_element.result = sym c.is_element.ensures in
    sym (c.loop-previous.invariant ∙ (element-before f c.keeps.ensures.is_forest at previous (sym c.in-Some.ensures)
    ∙ ap (λ b. cond b (Some previous) (element_before f previous)) (there ∙ c.if-is_element.true)))

pub loop-previous-smaller : goal.loop-previous-smaller
loop-previous-smaller c =
    fewer-before c.args.forest.now c.keeps.ensures.is_forest c.loop-previous.at c.in-Some.previous (sym c.in-Some.ensures)

pub loop-previous-preserved : goal.loop-previous-preserved
loop-previous-preserved c =
    let f = c.args.forest.now in
    let at = c.loop-previous.at in
    let previous = c.in-Some.previous in
    let there : is_element f previous ≡ c.is_element.result = sym c.is_element.ensures in
    c.loop-previous.invariant ∙ (element-before f c.keeps.ensures.is_forest at previous (sym c.in-Some.ensures)
    ∙ ap (λ b. cond b (Some previous) (element_before f previous)) (there ∙ c.if-is_element.false))

pub returns : goal.returns
returns c = sym (c.loop-previous.invariant ∙ no-before c.args.forest.now c.loop-previous.at (sym c.in_default.ensures))
