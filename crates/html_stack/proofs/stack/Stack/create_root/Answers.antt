use Rattle.std.proofs.Common.{codes, refl}
use Rattle.markup.proofs.Plain.{chars-plain}
use Rattle.html_stack.proofs.Points.{root-step}
use Rattle.html_stack.proofs.Results.{ok-both}
use Rattle.html_stack.proofs.stack.Stack.create_root.Goals as goal

pub returns-clause-ok : goal.returns-clause-ok
returns-clause-ok g c =
    ok-both c.put_and_open.result (λ opened made s.
    root-step g.Sink.TreeSink.node s c.args.self.now c.put_and_open.new.self
    (g.Sink.TreeSink.forest c.args.sink.now) (g.Sink.TreeSink.forest c.put_and_open.new.sink)
    c.get_document-document.result c.args.attrs c.html-root.result
    (rw (c.in_ok-name.ensures.ok, chars-plain (codes "html") refl) at c.html-root.ensures.of) c.get_document-document.ensures.document
    (rw c.get_document-document.ensures.same at opened) (rw c.get_document-document.ensures.same at made))
    c.put_and_open.ensures.opened c.put_and_open.ensures.ok
