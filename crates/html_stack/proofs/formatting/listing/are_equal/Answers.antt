use Rattle.html_rules.specs.Formatting.{is_equiv_modulo_attr_order}
use Rattle.html_stack.proofs.Room.{decided, equiv-Decides}
use Rattle.html_stack.proofs.formatting.listing.are_equal.Goals as goal

pub returns : goal.returns
returns c = decided c.equiv_modulo_attr_order.result (is_equiv_modulo_attr_order c.args.tag.now c.args.other.now)
    c.equiv_modulo_attr_order.ensures (equiv-Decides c.args.tag.now c.args.other.now)
