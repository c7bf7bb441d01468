use Rattle.std.proofs.Common.{refl}
use Rattle.html_faithful_judge.specs.Contexts.{number_of}
use Rattle.html_faithful_judge.proofs.context.closes_with.Goals as goal

pub returns-then-is_in : goal.returns-then-is_in
returns-then-is_in c = rw (← c.if-is_in.ensures) refl

pub returns-then-bars_items : goal.returns-then-bars_items
returns-then-bars_items c = rw (← c.if-is_in.ensures, ← c.if-bars_items.ensures number_of) refl

pub returns-else-bars_items : goal.returns-else-bars_items
returns-else-bars_items c = rw (← c.if-is_in.ensures, ← c.if-bars_items.ensures number_of) refl
