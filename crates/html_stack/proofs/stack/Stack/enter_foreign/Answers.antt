use Rattle.std.proofs.Common.{◌∙◌}
use Rattle.html_rules.specs.Names.{namespace_of}
use Rattle.html_stack.specs.Stacks.{joined}
use Rattle.html_stack.proofs.ForeignElements.{enter-open, enter-put}
use Rattle.html_stack.proofs.stack.Stack.enter_foreign.Goals as goal

pub returns-in_ok-insert_element-clause-ok : goal.returns-in_ok-insert_element-clause-ok
returns-in_ok-insert_element-clause-ok g c s foster =
    c.in_ok-insert_element.ensures.ok s foster
    ∙ enter-put (namespace_of c.args.namespace) c.args.tag c.in_ok-element.element
    (joined s c.args.self.now (g.Sink.TreeSink.forest c.args.sink.now)) c.in_ok-element.ensures.of c.if-self_closing.true

pub returns-in_ok-insert_element-2-clause-ok : goal.returns-in_ok-insert_element-2-clause-ok
returns-in_ok-insert_element-2-clause-ok g c s foster =
    c.in_ok-insert_element-2.ensures.ok s foster
    ∙ enter-open (namespace_of c.args.namespace) c.args.tag c.in_ok-element.element
    (joined s c.args.self.now (g.Sink.TreeSink.forest c.args.sink.now)) c.in_ok-element.ensures.of c.if-self_closing.false
