use Rattle.html_stack.specs.Noted.{named}
use Rattle.html_stack.proofs.Noted.{cut-noted}
use Rattle.html_stack.proofs.stack.Stack.pop_until_named.Goals as goal

pub invariant_of-self : goal.invariant_of-self
invariant_of-self g c = rw c.truncate.ensures.items
    (cut-noted c.self.inside.open_elems.items c.count_below-left.result c.cut.new.self c.cut.ensures.within
    (c.cut.ensures.noted (named c.self.inside.open_elems.items) c.self.invariant))
