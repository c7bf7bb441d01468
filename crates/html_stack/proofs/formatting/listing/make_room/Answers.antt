use Rattle.std.proofs.Common.{◌∙◌, sym, ap, arith}
use Rattle.html_stack.specs.Stacks.{entries_of}
use Rattle.html_stack.proofs.formatting.listing.make_room.Goals as goal

pub remove-requires : goal.remove-requires
remove-requires g c =
    let room = rw c.as_slice.ensures.value at (c.in-Some.ensures g.Sink.TreeSink.node) in
    let within = room.within in
    omega arith

pub returns-in-Some : goal.returns-in-Some
returns-in-Some g c =
    let room = rw c.as_slice.ensures.value at (c.in-Some.ensures g.Sink.TreeSink.node) in
    ap (λ xs. entries_of g.Sink.TreeSink.node xs) c.remove.ensures.items ∙ sym room.room

pub returns-in_default : goal.returns-in_default
returns-in_default g c =
    let same = rw c.as_slice.ensures.value at (c.in_default.ensures g.Sink.TreeSink.node) in
    sym same
