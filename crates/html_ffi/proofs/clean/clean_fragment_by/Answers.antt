use Rattle.std.proofs.Common.{ℕ}
use Rattle.html_ffi.proofs.Answering.{kept-answered}
use Rattle.html_ffi.specs.Answers.{Fails}
use Rattle.html_ffi.specs.Calls.{IsCleanFragment}
use Rattle.html_ffi.proofs.clean.clean_fragment_by.Goals as goal

pub returns-clause-answer : goal.returns-clause-answer
returns-clause-answer c =
    kept-answered IsCleanFragment
    (λ at answer. Fails c.args.file.now c.args.page.now answer at) c.args.file.now c.args.page.now _ _ _ _
    (λ (n : ℕ) (w : ⊥). w) (λ (n : ℕ) (w : ⊥). w)
    c.clean_fragment_text.result (λ it. it.0.written) (λ it. it.1) c.clean_fragment_text.ensures.ok c.clean_fragment_text.ensures.err
    c.put_kept.ensures.report c.put_kept.ensures.put c.put_kept.ensures.none c.put_kept.ensures.answer c.put_kept.ensures.untouched
