use Rattle.std.proofs.Common.{refl}
use Rattle.html_faithful_judge.specs.Contexts.{number_of}
use Rattle.html_faithful_judge.proofs.context.Context.lists_a_with.Goals as goal

pub returns-then-is_marked : goal.returns-then-is_marked
returns-then-is_marked c = rw (← c.if-is_marked.ensures number_of) refl

pub returns-then-is_listed_a : goal.returns-then-is_listed_a
returns-then-is_listed_a c = rw (← c.if-is_marked.ensures number_of, ← c.if-is_listed_a.ensures number_of) refl

pub returns-else-is_listed_a : goal.returns-else-is_listed_a
returns-else-is_listed_a c = rw (← c.if-is_marked.ensures number_of, ← c.if-is_listed_a.ensures number_of) refl
