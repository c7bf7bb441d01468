use Rattle.std.proofs.Common.{ℕ}
use Rattle.html_ffi.proofs.Answering.{kept-answered}
use Rattle.html_ffi.specs.Answers.{Fails}
use Rattle.html_ffi.specs.Calls.{IsCleanDocument}
use Rattle.html_ffi.proofs.clean.clean_document_by.Goals as goal

pub returns-clause-answer : goal.returns-clause-answer
returns-clause-answer c =
    kept-answered IsCleanDocument
    (λ at answer. Fails c.args.file.now c.args.page.now answer at) c.args.file.now c.args.page.now _ _ _ _
    (λ (n : ℕ) (w : ⊥). w) (λ (n : ℕ) (w : ⊥). w)
    c.clean_document_text.result (λ it. it.0.written) (λ it. it.1) c.clean_document_text.ensures.ok c.clean_document_text.ensures.err
    c.put_kept.ensures.report c.put_kept.ensures.put c.put_kept.ensures.none c.put_kept.ensures.answer c.put_kept.ensures.untouched
