use Rattle.std.proofs.Common.{ℕ, List, []}
use Rattle.html_ffi.proofs.Answering.{text-answered}
use Rattle.html_ffi.specs.Images.{FailsOnNode, IsMadeOfNode, IsTextContent}
use Rattle.html_ffi.proofs.image.text_by.Goals as goal

pub returns-clause-answer : goal.returns-clause-answer
returns-clause-answer c =
    text-answered (λ (none : List ℕ). IsMadeOfNode IsTextContent c.args.node)
    (λ at answer. FailsOnNode c.args.image.now c.args.node answer at) [] c.args.image.now _ _ _ _
    (λ (n : ℕ) (w : ⊥). w) (λ (n : ℕ) (w : ⊥). w)
    c.node_text.result (λ it. it.0.items) (λ it. it.1) c.node_text.ensures.ok c.node_text.ensures.err
    c.put_made.ensures.report c.put_made.ensures.put c.put_made.ensures.none c.put_made.ensures.answer c.put_made.ensures.untouched
