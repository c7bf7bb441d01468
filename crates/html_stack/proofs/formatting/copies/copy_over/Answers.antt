use Rattle.html_stack.proofs.Results.{on-err}
use Rattle.html_stack.proofs.Walked.{opened-as, wrapped-copy}
use Rattle.html_stack.proofs.formatting.copies.copy_over.Goals as goal

pub returns-in_err-handle-clause-kept : goal.returns-in_err-handle-clause-kept
returns-in_err-handle-clause-kept g c = on-err c.from_residual-in_err-handle.result c.in_err-handle.ensures.kept

pub returns-clause-opened : goal.returns-clause-opened
returns-clause-opened g c = opened-as g.Sink.TreeSink.node c.in_ok-handle.handle c.in_ok-name.name c.args.rules
    (g.Sink.TreeSink.forest c.args.sink.now) c.args.tag c.for_tag-element.result c.in_ok-handle.ensures.named
    c.in_ok-name.ensures.ok c.for_tag-element.ensures.of

pub returns-clause-ok : goal.returns-clause-ok
returns-clause-ok g c = wrapped-copy (g.Sink.TreeSink.forest c.args.sink.now)
    (g.Sink.TreeSink.forest c.wrap.new.sink) c.args.tag c.for_tag-element.result
    (g.Sink.TreeSink.node c.args.last.now) c.for_tag-element.ensures.of c.in_ok-handle.ensures.ok
