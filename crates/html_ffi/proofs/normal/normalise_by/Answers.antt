use Rattle.std.proofs.Common.{ℕ}
use Rattle.html_ffi.proofs.Answering.{text-answered}
use Rattle.html_ffi.specs.Answers.{Fails}
use Rattle.html_ffi.specs.Calls.{IsNormalText}
use Rattle.html_ffi.proofs.normal.normalise_by.Goals as goal

pub returns-clause-answer : goal.returns-clause-answer
returns-clause-answer c =
    text-answered IsNormalText
    (λ at answer. Fails c.args.file.now c.args.page.now answer at) c.args.file.now c.args.page.now _ _ _ _
    (λ (n : ℕ) (w : ⊥). w) (λ (n : ℕ) (w : ⊥). w)
    c.normal_text.result (λ it. it.0.items) (λ it. it.1) c.normal_text.ensures.ok c.normal_text.ensures.err
    c.put_made.ensures.report c.put_made.ensures.put c.put_made.ensures.none c.put_made.ensures.answer c.put_made.ensures.untouched
