use Rattle.std.proofs.Common.{rules}
use Rattle.html_tokens.proofs.tags.Tag.equiv_modulo_attr_order.Goals as goal

pub returns-then-eq-2 : goal.returns-then-eq-2
returns-then-eq-2 c = search rules
