use Rattle.std.proofs.Common.{◌+◌, ◌∙◌, Some, ap, drop, sym}
use Rattle.std.specs.Prelude.{cond}
use Rattle.std.proofs.lemmas.List.{at_drop_all}
use Rattle.html_clean.specs.Checks.{unsafe_beginning}
use Rattle.html_clean.proofs.Mapped.{dropped-more}
use Rattle.html_clean.proofs.checked.unsafe_beginning.Goals as goal

pub returns-then-not-is_safe_beginning-clause-some : goal.returns-then-not-is_safe_beginning-clause-some
returns-then-not-is_safe_beginning-clause-some c =
    let left = drop (c.loop-text.text-index + 1) c.args.texts.now in
    sym c.loop-text.invariant
    ∙ (dropped-more unsafe_beginning c.args.texts.now c.loop-text.text-index c.text-item.result c.loop-text-test.true
    c.text-item.is
    ∙ ap (λ b. cond b (unsafe_beginning left) (Some c.text-item.result))
    (sym c.is_safe_beginning.ensures ∙ c.if-not-is_safe_beginning.true))

pub loop-text-preserved : goal.loop-text-preserved
loop-text-preserved c =
    let left = drop (c.loop-text.text-index + 1) c.args.texts.now in
    sym (dropped-more unsafe_beginning c.args.texts.now c.loop-text.text-index c.text-item.result c.loop-text-test.true
    c.text-item.is
    ∙ ap (λ b. cond b (unsafe_beginning left) (Some c.text-item.result))
    (sym c.is_safe_beginning.ensures ∙ c.if-not-is_safe_beginning.false))
    ∙ c.loop-text.invariant

pub returns-clause-none : goal.returns-clause-none
returns-clause-none c = sym c.loop-text.invariant ∙ at_drop_all unsafe_beginning c.args.texts.now
    c.loop-text.text-index c.loop-text-test.false
