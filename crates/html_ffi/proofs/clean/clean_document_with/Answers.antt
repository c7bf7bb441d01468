use Rattle.std.proofs.Common.{ℕ}
use Rattle.html_ffi.proofs.Answering.{kept-answered}
use Rattle.html_clean.specs.Checks.{never_kept}
use Rattle.html_ffi.specs.Policies.{FailsToClean, IsDocumentKeptBy}
use Rattle.html_ffi.proofs.clean.clean_document_with.Goals as goal

pub returns-clause-answer : goal.returns-clause-answer
returns-clause-answer c =
    kept-answered (IsDocumentKeptBy c.args.policy.now)
    (λ at answer. FailsToClean never_kept c.args.file.now c.args.policy.now c.args.page.now answer at)
    c.args.file.now c.args.page.now _ _ _ _
    (λ (n : ℕ) (w : ⊥). w) (λ (n : ℕ) (w : ⊥). w)
    c.document_kept_by.result (λ it. it.0.written) (λ it. it.1) c.document_kept_by.ensures.ok c.document_kept_by.ensures.err
    c.put_kept.ensures.report c.put_kept.ensures.put c.put_kept.ensures.none c.put_kept.ensures.answer c.put_kept.ensures.untouched
