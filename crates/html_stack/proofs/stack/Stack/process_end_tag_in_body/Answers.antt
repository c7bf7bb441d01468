use Rattle.std.proofs.Common.{◌∙◌, refl, sym}
use Rattle.html_rules.specs.Stack.{generate_implied_end_except, process_end_tag_in_body}
use Rattle.html_stack.specs.Stacks.{joined}
use Rattle.html_stack.proofs.Implied.{generic-current}
use Rattle.html_stack.proofs.stack.Stack.process_end_tag_in_body.Goals as goal

pub returns-then-current_is : goal.returns-then-current_is
returns-then-current_is g c s = rw c.drop_current.ensures (generic-current c.args.name.now
    (joined s c.args.self.now (g.Sink.TreeSink.forest c.args.sink.now)) (sym c.if-current_is.ensures))

pub returns-then-finds_generic : goal.returns-then-finds_generic
unfolding process_end_tag_in_body generate_implied_end_except
returns-then-finds_generic g c s = c.close_wanted.ensures s
    ∙ rw (c.close_implied.ensures.left, c.close_implied.ensures.same, ← c.if-finds_generic.ensures) refl
