use Rattle.std.proofs.Common.{◌+◌, ◌∙◌, Some, ap, drop, sym}
use Rattle.std.specs.Prelude.{cond}
use Rattle.std.proofs.lemmas.List.{at_drop_all}
use Rattle.html_clean.specs.Checks.{changed_list}
use Rattle.html_clean.proofs.Mapped.{dropped-more}
use Rattle.html_clean.proofs.checked.changed_list.Goals as goal

pub returns-then-changes_list-clause-some : goal.returns-then-changes_list-clause-some
returns-then-changes_list-clause-some c =
    let left = drop (c.loop-rule.rule-index + 1) c.args.rules.now in
    sym c.loop-rule.invariant
    ∙ (dropped-more changed_list c.args.rules.now c.loop-rule.rule-index c.rule-item.result c.loop-rule-test.true c.rule-item.is
    ∙ ap (λ b. cond b (Some c.rule-item.result.attribute) (changed_list left)) (sym c.changes_list.ensures ∙ c.if-changes_list.true))

pub loop-rule-preserved : goal.loop-rule-preserved
loop-rule-preserved c =
    let left = drop (c.loop-rule.rule-index + 1) c.args.rules.now in
    sym (dropped-more changed_list c.args.rules.now c.loop-rule.rule-index c.rule-item.result c.loop-rule-test.true c.rule-item.is
    ∙ ap (λ b. cond b (Some c.rule-item.result.attribute) (changed_list left)) (sym c.changes_list.ensures ∙ c.if-changes_list.false))
    ∙ c.loop-rule.invariant

pub returns-clause-none : goal.returns-clause-none
returns-clause-none c = sym c.loop-rule.invariant ∙ at_drop_all changed_list c.args.rules.now
    c.loop-rule.rule-index c.loop-rule-test.false
