use Rattle.std.proofs.Common.{ap, length}
use Rattle.html_forest.proofs.Stored.{range-behind}
use Rattle.html_forest.proofs.store.Store.put_characters.Goals as goal

pub returns-clause-range : goal.returns-clause-range
returns-clause-range c = range-behind _ _ _ _ c.in_ok-push_str.ensures.bytes c.utf8.text (ap length c.as_str-at.ensures.value)
