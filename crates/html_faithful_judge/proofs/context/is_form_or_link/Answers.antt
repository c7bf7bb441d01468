use Rattle.std.proofs.Common.{refl}
use Rattle.html_faithful_judge.specs.Contexts.{number_of}
use Rattle.html_faithful_judge.proofs.context.is_form_or_link.Goals as goal

pub returns-then-is_in : goal.returns-then-is_in
returns-then-is_in c = rw (← c.if-is_in.ensures) refl

pub returns-then-is_marked : goal.returns-then-is_marked
returns-then-is_marked c = rw (← c.if-is_in.ensures, ← c.if-is_marked.ensures number_of) refl

pub returns-else-is_marked : goal.returns-else-is_marked
returns-else-is_marked c = rw (← c.if-is_in.ensures, ← c.if-is_marked.ensures number_of) c.is_in-else-is_marked.ensures
