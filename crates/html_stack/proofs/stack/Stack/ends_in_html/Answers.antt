use Rattle.std.proofs.Common.{refl}
use Rattle.html_rules.specs.ForeignContent.{foreign_end}
use Rattle.html_stack.proofs.stack.Stack.ends_in_html.Goals as goal

pub returns-in-AsInMode : goal.returns-in-AsInMode
unfolding foreign_end
returns-in-AsInMode g c s e = rw (e, c.in-AsInMode.ensures) refl

pub returns-in-Dropped : goal.returns-in-Dropped
unfolding foreign_end
returns-in-Dropped g c s e = rw (e, c.in-Dropped.ensures) refl

pub returns-in-Closed : goal.returns-in-Closed
unfolding foreign_end
returns-in-Closed g c s e = rw (e, c.in-Closed.ensures) refl
