use Rattle.html_rules.specs.Adoption.{is_number}
use Rattle.html_stack.specs.Noted.{named}
use Rattle.html_stack.specs.Stacks.{open_of}
use Rattle.html_stack.proofs.Newest.{none-start}
use Rattle.html_stack.proofs.Noted.{length-named}
use Rattle.html_stack.proofs.Reached.{none-beyond}
use Rattle.html_stack.proofs.formatting.positions.on_stack.Goals as goal

pub on_stack_below-requires-clause-beyond : goal.on_stack_below-requires-clause-beyond
on_stack_below-requires-clause-beyond g c =
    let node = g.Sink.TreeSink.node in
    let f = g.Sink.TreeSink.forest c.args.sink.now in
    let items = c.args.elements.now in
    let said = rw c.in-Some.is at c.requires.name in
    none-beyond node f (node c.args.node.now) c.in-Some.name.now items c.reach_html_named-reach.result c.requires.opened
    said (c.reach_html_named-reach.ensures.beyond (named items) (length-named items) c.requires.noted)

pub on_stack_below-requires-in-None-clause-beyond : goal.on_stack_below-requires-in-None-clause-beyond
on_stack_below-requires-in-None-clause-beyond g c =
    (none-start (open_of g.Sink.TreeSink.node) (is_number (g.Sink.TreeSink.node c.args.node.now)) c.args.elements.now).none
