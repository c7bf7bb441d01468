use Rattle.std.proofs.Common.{arith}
use Rattle.std.specs.Prelude.{option_to_list}
use Rattle.html_stack.specs.Noted.{named}
use Rattle.html_stack.proofs.Noted.{fewer-noted}
use Rattle.html_stack.proofs.stack.Stack.drop_current.Goals as goal

pub invariant_of-self : goal.invariant_of-self
invariant_of-self g c =
    fewer-noted c.self.inside.open_elems.items c.pop.new.self.items (option_to_list c.pop.result) c.cut.new.self
    c.pop.ensures.items (omega (arith, c.cut.ensures.within, c.len.ensures))
    (c.cut.ensures.noted (named c.self.inside.open_elems.items) c.self.invariant)
