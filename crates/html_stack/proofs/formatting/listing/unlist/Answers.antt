use Rattle.std.proofs.Common.{◌∙◌, sym, ap}
use Rattle.html_stack.specs.Stacks.{entries_of}
use Rattle.html_stack.proofs.ListEdits.{unlisted, without-none}
use Rattle.html_stack.proofs.formatting.listing.unlist.Goals as goal

pub returns-in-Some : goal.returns-in-Some
returns-in-Some g c =
    ap (λ xs. entries_of g.Sink.TreeSink.node xs) c.remove.ensures.items
    ∙ sym (unlisted g.Sink.TreeSink.node (g.Sink.TreeSink.node c.args.node.now) c.args.entries.now.items c.in-Some.i
    (rw c.as_slice.ensures.value at c.in-Some.ensures))

pub returns-in_default : goal.returns-in_default
returns-in_default g c = sym
    (without-none (g.Sink.TreeSink.node c.args.node.now) (entries_of g.Sink.TreeSink.node c.args.entries.now.items)
    (rw c.as_slice.ensures.value at c.in_default.ensures))
