use Rattle.std.proofs.Common.{refl}
use Rattle.html_rules.specs.ForeignContent.{close_foreign, foreign_end}
use Rattle.html_stack.proofs.stack.Stack.close_foreign.Goals as goal

pub returns-in-Closed : goal.returns-in-Closed
unfolding close_foreign foreign_end
returns-in-Closed g c s f = rw (c.truncate.ensures, c.in-Closed.ensures) refl

pub returns-in-Dropped : goal.returns-in-Dropped
unfolding close_foreign foreign_end
returns-in-Dropped g c s f = rw c.in-Dropped.ensures refl

pub returns-in-AsInMode : goal.returns-in-AsInMode
unfolding close_foreign foreign_end
returns-in-AsInMode g c s f = rw c.in-AsInMode.ensures refl
