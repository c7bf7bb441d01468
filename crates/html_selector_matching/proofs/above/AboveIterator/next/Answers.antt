use Rattle.std.proofs.Common.{◌∙◌, ◌∷◌, ℕ, Option, ap, sym, arith}
use Rattle.html_selector_matching.specs.Around.{line}
use Rattle.html_selector_matching.proofs.Lines.{line-none, line-some}
use Rattle.html_selector_matching.proofs.above.AboveIterator.next.Goals as goal

pub returns-in-Some-clause-steps : goal.returns-in-Some-clause-steps
returns-in-Some-clause-steps c =
    let f = c.self.inside.forest.now in
    sym c.self.view_is ∙ (ap (line f) c.in-Some.is
    ∙ (line-some f c.keeps.ensures.is_forest c.in-Some.id
    ∙ ap (λ (o : Option ℕ). c.in-Some.id ∷ line f o) (sym c.parent-self-inside.ensures)))

pub returns-in-None-clause-steps : goal.returns-in-None-clause-steps
returns-in-None-clause-steps c =
    let f = c.self.inside.forest.now in
    let none = sym c.self.view_is ∙ (ap (line f) c.in-None.is ∙ line-none f) in
    (none, none)

pub returns-in-Some-clause-goes : goal.returns-in-Some-clause-goes
returns-in-Some-clause-goes c =
    let steps = returns-in-Some-clause-steps c in
    record { on = λ finite. rw steps (tt, tt, omega arith); keeps = tt; rests = λ finite. tt }
