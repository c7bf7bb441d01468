use Rattle.html_origins.specs.Allowed.{allowed_by}
use Rattle.html_origins.proofs.Turns.{fitting-any, holds-any, step-from}
use Rattle.html_origins.proofs.laws.allowed_states_are_kept.Goals as goal

pub returns : goal.returns
returns c = λ tests s t line roots from is.
    let a = allowed_by tests in
    step-from a roots (fitting-any a (λ name tag. tt)) s t line from (holds-any a (λ name tag. tt) roots t s) is
