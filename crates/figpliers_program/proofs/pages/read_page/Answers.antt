use Rattle.std.proofs.Common.{◌∙◌, refl, sym}
use Rattle.std.proofs.lemmas.Result.{IfErr-weaker, IfOk-weaker}
use Rattle.figpliers_program.proofs.pages.read_page.Goals as goal

pub returns-then-eq-clause-ok : goal.returns-then-eq-clause-ok
returns-then-eq-clause-ok g c = rw (sym c.eq.ensures ∙ c.if-eq.true) c.read_bytes.ensures.ok

pub returns-then-eq-clause-err : goal.returns-then-eq-clause-err
returns-then-eq-clause-err g c =
    IfErr-weaker c.read_bytes.result _ _ (λ fault is. rw (sym c.eq.ensures ∙ c.if-eq.true) is) c.read_bytes.ensures.err

pub returns-clause-ok : goal.returns-clause-ok
returns-clause-ok g c =
    rw (sym c.eq.ensures ∙ c.if-eq.false) (IfOk-weaker c.read_file.result _ _ (λ bytes is. (refl, is)) c.read_file.ensures.ok)

pub returns-clause-err : goal.returns-clause-err
returns-clause-err g c = IfErr-weaker c.read_file.result _ _ (λ fault is. rw (sym c.eq.ensures ∙ c.if-eq.false) (refl, is))
    c.read_file.ensures.err
