use Rattle.std.proofs.Common.{ℕ}
use Rattle.html_ffi.proofs.Answering.{text-answered}
use Rattle.html_ffi.specs.Answers.{FailsAsTree}
use Rattle.html_ffi.specs.Trees.{IsDocumentBy, IsTreeImage}
use Rattle.html_ffi.proofs.tree.tree_by.Goals as goal

pub returns-clause-answer : goal.returns-clause-answer
returns-clause-answer c =
    text-answered (IsTreeImage IsDocumentBy)
    (λ at answer. FailsAsTree IsDocumentBy c.args.file.now c.args.page.now answer at) c.args.file.now c.args.page.now _ _ _ _
    (λ (n : ℕ) (w : ⊥). w) (λ (n : ℕ) (w : ⊥). w)
    c.page_image.result (λ it. it.0.items) (λ it. it.1) c.page_image.ensures.ok c.page_image.ensures.err
    c.put_made.ensures.report c.put_made.ensures.put c.put_made.ensures.none c.put_made.ensures.answer c.put_made.ensures.untouched
