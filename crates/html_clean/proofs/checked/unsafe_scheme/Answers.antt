use Rattle.std.proofs.Common.{◌+◌, ◌∙◌, Some, ap, drop, sym}
use Rattle.std.specs.Prelude.{cond}
use Rattle.std.proofs.lemmas.List.{at_drop_all}
use Rattle.html_clean.specs.Checks.{unsafe_scheme}
use Rattle.html_clean.proofs.Mapped.{dropped-more}
use Rattle.html_clean.proofs.checked.unsafe_scheme.Goals as goal

pub returns-then-not-may_be_listed-clause-some : goal.returns-then-not-may_be_listed-clause-some
returns-then-not-may_be_listed-clause-some c =
    let left = drop (c.loop-scheme.scheme-index + 1) c.args.schemes.now in
    sym c.loop-scheme.invariant
    ∙ (dropped-more (unsafe_scheme c.args.pictures) c.args.schemes.now c.loop-scheme.scheme-index c.scheme-item.result
    c.loop-scheme-test.true c.scheme-item.is
    ∙ ap (λ b. cond b (unsafe_scheme c.args.pictures left) (Some c.scheme-item.result))
    (sym c.may_be_listed.ensures ∙ c.if-not-may_be_listed.true))

pub loop-scheme-preserved : goal.loop-scheme-preserved
loop-scheme-preserved c =
    let left = drop (c.loop-scheme.scheme-index + 1) c.args.schemes.now in
    sym (dropped-more (unsafe_scheme c.args.pictures) c.args.schemes.now c.loop-scheme.scheme-index c.scheme-item.result
    c.loop-scheme-test.true c.scheme-item.is
    ∙ ap (λ b. cond b (unsafe_scheme c.args.pictures left) (Some c.scheme-item.result))
    (sym c.may_be_listed.ensures ∙ c.if-not-may_be_listed.false))
    ∙ c.loop-scheme.invariant

pub returns-clause-none : goal.returns-clause-none
returns-clause-none c = sym c.loop-scheme.invariant ∙ at_drop_all (unsafe_scheme c.args.pictures) c.args.schemes.now
    c.loop-scheme.scheme-index c.loop-scheme-test.false
