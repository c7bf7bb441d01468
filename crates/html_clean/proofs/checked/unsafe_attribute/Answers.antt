use Rattle.std.proofs.Common.{◌+◌, ◌∙◌, Some, ap, drop, sym}
use Rattle.std.specs.Prelude.{cond}
use Rattle.std.proofs.lemmas.List.{at_drop_all}
use Rattle.html_clean.specs.Checks.{unsafe_attribute}
use Rattle.html_clean.proofs.Mapped.{dropped-more}
use Rattle.html_clean.proofs.checked.unsafe_attribute.Goals as goal

pub returns-then-not-is_safe_attribute-clause-some : goal.returns-then-not-is_safe_attribute-clause-some
returns-then-not-is_safe_attribute-clause-some c =
    let left = drop (c.loop-name.name-index + 1) c.args.names.now in
    sym c.loop-name.invariant
    ∙ (dropped-more unsafe_attribute c.args.names.now c.loop-name.name-index c.name-item.result c.loop-name-test.true c.name-item.is
    ∙ ap (λ b. cond b (unsafe_attribute left) (Some c.name-item.result))
    (sym c.is_safe_attribute.ensures ∙ c.if-not-is_safe_attribute.true))

pub loop-name-preserved : goal.loop-name-preserved
loop-name-preserved c =
    let left = drop (c.loop-name.name-index + 1) c.args.names.now in
    sym (dropped-more unsafe_attribute c.args.names.now c.loop-name.name-index c.name-item.result c.loop-name-test.true c.name-item.is
    ∙ ap (λ b. cond b (unsafe_attribute left) (Some c.name-item.result))
    (sym c.is_safe_attribute.ensures ∙ c.if-not-is_safe_attribute.false))
    ∙ c.loop-name.invariant

pub returns-clause-none : goal.returns-clause-none
returns-clause-none c = sym c.loop-name.invariant ∙ at_drop_all unsafe_attribute c.args.names.now
    c.loop-name.name-index c.loop-name-test.false
