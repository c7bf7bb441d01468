use Rattle.std.proofs.Common.{refl}
use Rattle.std.proofs.lemmas.List.{reverse-reverse, take-map}
use Rattle.html_stack.specs.Noted.{named}
use Rattle.html_stack.proofs.Noted.{cut-noted}
use Rattle.html_stack.proofs.stack.Stack.truncate.Goals as goal

pub returns : goal.returns
returns g c = rw (← c.self.view_is, c.truncate.ensures.items, reverse-reverse, take-map) refl

pub invariant_of-self : goal.invariant_of-self
invariant_of-self g c = rw c.truncate.ensures.items
    (cut-noted c.self.inside.open_elems.items c.args.count c.cut.new.self c.cut.ensures.within
    (c.cut.ensures.noted (named c.self.inside.open_elems.items) c.self.invariant))
