use Rattle.std.proofs.Common.{◌∙◌, sym, ap}
use Rattle.html_stack.specs.Reopening.{waits}
use Rattle.html_stack.specs.Stacks.{entry_of, opens_of}
use Rattle.html_stack.proofs.Reached.{entry-named}
use Rattle.html_stack.proofs.Reopened.{waits-by}
use Rattle.html_stack.proofs.formatting.opening.waits.Goals as goal

pub on_stack-requires-clause-name : goal.on_stack-requires-clause-name
on_stack-requires-clause-name g c =
    entry-named g.Sink.TreeSink.node (g.Sink.TreeSink.forest c.args.sink.now) c.args.entry.now c.in-Element.handle
    c.in-Element.tag c.requires.listed c.in-Element.is

pub returns-in-Element : goal.returns-in-Element
returns-in-Element g c =
    let xs = opens_of g.Sink.TreeSink.node c.args.elements.now in
    waits-by g.Sink.TreeSink.node (g.Sink.TreeSink.node c.in-Element.handle) c.args.elements.now c.on_stack.result
    c.is_none.result c.is_none.ensures c.on_stack.ensures
    ∙ sym (ap (λ e. waits xs (entry_of g.Sink.TreeSink.node e)) c.in-Element.is)
