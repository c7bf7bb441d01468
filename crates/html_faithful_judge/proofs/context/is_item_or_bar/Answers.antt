use Rattle.std.proofs.Common.{refl}
use Rattle.html_faithful_judge.specs.Contexts.{number_of}
use Rattle.html_faithful_judge.proofs.context.is_item_or_bar.Goals as goal

pub returns-then-is_in : goal.returns-then-is_in
returns-then-is_in c = rw (← c.if-is_in.ensures) refl

pub returns-then-is_in-2 : goal.returns-then-is_in-2
returns-then-is_in-2 c = rw (← c.if-is_in.ensures, ← c.if-is_in-2.ensures) refl

pub returns-else-is_in-2 : goal.returns-else-is_in-2
returns-else-is_in-2 c = rw (← c.if-is_in.ensures, ← c.if-is_in-2.ensures) (c.bars_items.ensures number_of)
