use Rattle.std.proofs.Common.{◌+◌, ◌∙◌, Some, ap, drop, sym}
use Rattle.std.specs.Prelude.{cond}
use Rattle.std.proofs.lemmas.List.{at_drop_all}
use Rattle.html_clean.specs.Checks.{page_element}
use Rattle.html_clean.proofs.Mapped.{dropped-more}
use Rattle.html_clean.proofs.checked.page_element.Goals as goal

pub returns-then-not-is_fragment_name-clause-some : goal.returns-then-not-is_fragment_name-clause-some
returns-then-not-is_fragment_name-clause-some c =
    let left = drop (c.loop-rule.rule-index + 1) c.args.rules.now in
    sym c.loop-rule.invariant
    ∙ (dropped-more page_element c.args.rules.now c.loop-rule.rule-index c.rule-item.result c.loop-rule-test.true c.rule-item.is
    ∙ ap (λ b. cond b (page_element left) (Some c.rule-item.result.element))
    (sym c.is_fragment_name.ensures ∙ c.if-not-is_fragment_name.true))

pub loop-rule-preserved : goal.loop-rule-preserved
loop-rule-preserved c =
    let left = drop (c.loop-rule.rule-index + 1) c.args.rules.now in
    sym (dropped-more page_element c.args.rules.now c.loop-rule.rule-index c.rule-item.result c.loop-rule-test.true c.rule-item.is
    ∙ ap (λ b. cond b (page_element left) (Some c.rule-item.result.element))
    (sym c.is_fragment_name.ensures ∙ c.if-not-is_fragment_name.false))
    ∙ c.loop-rule.invariant

pub returns-clause-none : goal.returns-clause-none
returns-clause-none c = sym c.loop-rule.invariant ∙ at_drop_all page_element c.args.rules.now
    c.loop-rule.rule-index c.loop-rule-test.false
