use Rattle.std.proofs.Common.{◌∙◌, ◌++◌, List, ap, append_assoc, subst, sym, ℕ}
use Rattle.figpliers_program.specs.Checking.{AreAround, element_at}
use Rattle.figpliers_program.specs.Checking.AreAround.{inner, top}
use Rattle.figpliers_program.proofs.checking.elements_around.Goals as goal

pub returns-in_default : goal.returns-in_default
returns-in_default c =
    let f = c.args.forest.now in
    subst (λ (around : List ℕ). AreAround f c.args.id around) (sym c.in_ok-push_element.ensures)
    (c.loop.invariant (element_at f c.loop.at) (top (sym c.parent.ensures ∙ c.in_default.is)))

pub loop-preserved : goal.loop-preserved
loop-preserved c = λ rest around.
    let f = c.args.forest.now in
    subst (λ (all : List ℕ). AreAround f c.args.id all)
    (sym (append_assoc c.loop.around.items (element_at f c.loop.at) rest) ∙ ap (λ xs. xs ++ rest) (sym c.in_ok-push_element.ensures))
    (c.loop.invariant (element_at f c.loop.at ++ rest) (inner (sym c.parent.ensures ∙ c.in-Some.is) around))
