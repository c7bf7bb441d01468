use Rattle.html_stack.proofs.ModesAsked.{context-mode, context-none}
use Rattle.html_stack.proofs.resetting.mode_of_context.Goals as goal

pub returns-in-Some-own_mode : goal.returns-in-Some-own_mode
returns-in-Some-own_mode c s k is = context-mode s s.context_elem c.in-Some.name c.in-Some-own_mode.mode
    (λ number. c.in-Some-own_mode.ensures s number k) (rw c.in-Some.is at is)

pub returns-in-None-own_mode : goal.returns-in-None-own_mode
returns-in-None-own_mode c s k is = context-none s s.context_elem c.in-Some.name
    (λ number. c.in-None-own_mode.ensures s number k) (rw c.in-Some.is at is)
