use Rattle.std.proofs.Common.{◌∙◌, ◌≡◌, None, ap, refl, sym}
use Rattle.std.specs.Prelude.{false, true}
use Rattle.std.proofs.lemmas.Result.{err_from_is_err_and}
use Rattle.html_serialize.specs.Puts.{told_by, with_bytes}
use Rattle.markup.specs.declared.serializer.TraversalScope.TheVariants.{ChildrenOnly}
use Rattle.html_clean.specs.Bounds.{beyond_measure}
use Rattle.html_clean.proofs.Within.{broke-same, by-bytes, measure-is, too-much, within}
use Rattle.html_clean.proofs.bounding.write_clean_within.Goals as goal

pub returns-in_default-clause-text : goal.returns-in_default-clause-text
returns-in_default-clause-text g c = λ trees is. within c.args.bounds.now c.args.policy.now trees _ _ _ tt refl tt

pub returns-in_err-left-clause-text : goal.returns-in_err-left-clause-text
returns-in_err-left-clause-text g c =
    let p = err_from_is_err_and c.from_residual.result c.from_residual.ensures.1 in
    λ trees is. rw (p.1, p.2, c.in_err-left.ensures.fault) (within c.args.bounds.now c.args.policy.now trees _ _ _ tt refl tt)

pub returns-in-Some-clause-text : goal.returns-in-Some-clause-text
returns-in-Some-clause-text g c = λ trees is.
    let policy = c.args.policy.now in
    let m_is = measure-is policy trees (g.T.Serialize.calls c.args.node.now (ChildrenOnly None)) c.in-Ok.measure is c.in-Ok.ensures.ok in
    within c.args.bounds.now policy trees _ _ _
    (too-much c.args.bounds.now policy trees c.in-Ok.measure m_is c.in-Some.bound (sym c.in-Some.ensures)) refl tt

pub returns-then-is_too_long-clause-text : goal.returns-then-is_too_long-clause-text
returns-then-is_too_long-clause-text g c = λ trees is.
    let policy = c.args.policy.now in
    let m_is = measure-is policy trees (g.T.Serialize.calls c.args.node.now (ChildrenOnly None)) c.in-Ok.measure is c.in-Ok.ensures.ok in
    let none : beyond_measure c.args.bounds.now c.in-Ok.measure ≡ None = sym c.in-None.ensures in
    let bytes = c.written-bytes.result.now in
    within c.args.bounds.now policy trees _ _ _
    (by-bytes c.args.bounds.now policy trees c.in-Ok.measure m_is bytes true none
    (c.written-bytes.ensures ∙ c.in_ok-left.ensures.bytes trees is) (sym c.is_too_long.ensures ∙ c.if-is_too_long.true)) refl tt

pub returns-in-Ok-put-clause-text : goal.returns-in-Ok-put-clause-text
returns-in-Ok-put-clause-text g c = λ trees is.
    let policy = c.args.policy.now in
    let m_is = measure-is policy trees (g.T.Serialize.calls c.args.node.now (ChildrenOnly None)) c.in-Ok.measure is c.in-Ok.ensures.ok in
    let none : beyond_measure c.args.bounds.now c.in-Ok.measure ≡ None = sym c.in-None.ensures in
    let bytes_are = c.written-bytes.ensures ∙ c.in_ok-left.ensures.bytes trees is in
    let bytes = c.written-bytes.result.now in
    within c.args.bounds.now policy trees _ _ _
    (by-bytes c.args.bounds.now policy trees c.in-Ok.measure m_is bytes false none bytes_are
    (sym c.is_too_long.ensures ∙ c.if-is_too_long.false))
    (c.in-Ok-put.ensures.puts ∙ ap (with_bytes (told_by g.W.Target.written g.W.Target.failures c.args.writer.now)) bytes_are)
    (c.in_ok-left.ensures.counts trees is)

pub returns-clause-text : goal.returns-clause-text
returns-clause-text g c = λ trees is.
    let policy = c.args.policy.now in
    let m_is = measure-is policy trees (g.T.Serialize.calls c.args.node.now (ChildrenOnly None)) c.in-Ok.measure is c.in-Ok.ensures.ok in
    let none : beyond_measure c.args.bounds.now c.in-Ok.measure ≡ None = sym c.in-None.ensures in
    let bytes_are = c.written-bytes.ensures ∙ c.in_ok-left.ensures.bytes trees is in
    let bytes = c.written-bytes.result.now in
    within c.args.bounds.now policy trees _ _ _
    (by-bytes c.args.bounds.now policy trees c.in-Ok.measure m_is bytes false none bytes_are
    (sym c.is_too_long.ensures ∙ c.if-is_too_long.false))
    (broke-same _ _ _ _ bytes_are c.in-Err.ensures.puts.1) tt
