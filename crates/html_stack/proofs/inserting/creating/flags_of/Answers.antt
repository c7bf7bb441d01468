use Rattle.std.proofs.Common.{◌∙◌, refl, sym}
use Rattle.html_stack.proofs.Points.{annotation-flag, template-flag}
use Rattle.html_stack.proofs.inserting.creating.flags_of.Goals as goal

pub returns-then-is_in : goal.returns-then-is_in
returns-then-is_in c namespace name is =
    let template = c.is_in.ensures namespace name is ∙ template-flag namespace name in
    let annotation = sym c.if-is_in.true ∙ (c.is_in-2.ensures namespace name is ∙ annotation-flag namespace name) in
    rw (template, c.encode_html.ensures, ← annotation) refl

pub returns-else-is_in : goal.returns-else-is_in
returns-else-is_in c namespace name is =
    let template = c.is_in.ensures namespace name is ∙ template-flag namespace name in
    let annotation = sym c.if-is_in.false ∙ (c.is_in-2.ensures namespace name is ∙ annotation-flag namespace name) in
    rw (template, c.if-is_in.false, ← annotation) refl
