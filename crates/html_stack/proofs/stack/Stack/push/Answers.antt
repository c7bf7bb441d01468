use Rattle.std.proofs.Common.{◌∷◌, []}
use Rattle.html_stack.proofs.Noted.{more-noted}
use Rattle.html_stack.proofs.stack.Stack.push.Goals as goal

pub follow-requires : goal.follow-requires
follow-requires g c = rw c.as_slice.ensures.value (more-noted c.push.new.self.items c.self.inside.open_elems.items
    (c.args.element ∷ []) c.self.inside.depths c.in_ok-push.ensures.items c.self.invariant)
