use Rattle.html_stack.specs.Inserting.{context_of}
use Rattle.html_stack.specs.Stacks.{open_of, opens_of}
use Rattle.html_stack.proofs.Dispatched.{adjusted-IsNode}
use Rattle.html_stack.proofs.dispatching.is_foreign_for.Goals as goal

pub is_html_for-requires-clause-node : goal.is_html_for-requires-clause-node
is_html_for-requires-clause-node g c =
    let node = g.Sink.TreeSink.node in
    adjusted-IsNode (g.Sink.TreeSink.forest c.args.sink.now) (context_of node c.args.context)
    (opens_of node c.args.elements.now) (open_of node c.in-Some.node.now) c.requires.opened c.requires.context (c.in-Some.ensures node)
