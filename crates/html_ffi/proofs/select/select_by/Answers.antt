use Rattle.std.proofs.Common.{ℕ, List, []}
use Rattle.html_ffi.proofs.Answering.{text-answered}
use Rattle.html_ffi.specs.Images.{FailsToSelect, IsSelection}
use Rattle.html_ffi.proofs.select.select_by.Goals as goal

pub returns-clause-answer : goal.returns-clause-answer
returns-clause-answer c =
    text-answered (λ (none : List ℕ). IsSelection c.args.selector.now c.args.node)
    (λ at answer. FailsToSelect c.args.selector.now c.args.image.now c.args.node answer at) [] c.args.image.now _ _ _ _
    (λ (n : ℕ) (w : ⊥). w) (λ (n : ℕ) (w : ⊥). w)
    c.node_selection.result (λ it. it.0.items) (λ it. it.1) c.node_selection.ensures.ok c.node_selection.ensures.err
    c.put_made.ensures.report c.put_made.ensures.put c.put_made.ensures.none c.put_made.ensures.answer c.put_made.ensures.untouched
