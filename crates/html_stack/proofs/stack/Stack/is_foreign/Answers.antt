use Rattle.std.proofs.Common.{◌≡◌, ◌∙◌, refl, sym, ap}
use Rattle.markup.specs.Forest.{Forest}
use Rattle.markup.specs.TreeLaws.{with_errors}
use Rattle.html_rules.specs.State.{Answers, adjusted_by, adjusted_current_node}
use Rattle.html_stack.specs.Dispatching.{is_foreign_for}
use Rattle.html_stack.specs.Inserting.{context_of}
use Rattle.html_stack.proofs.Dispatched.{foreign-by-shape}
use Rattle.html_stack.proofs.stack.Stack.is_foreign.Goals as goal

pub returns : goal.returns
returns g c s t forest opens context answers shape =
    let o = adjusted_by (context_of g.Sink.TreeSink.node c.args.context) c.args.self.now.open_elems in
    let at : adjusted_current_node s ≡ o = rw (context, opens) refl in
    let here = rw c.open_elems.ensures at c.is_foreign_for.ensures in
    here
    ∙ sym (foreign-by-shape s o t c.args.shape at shape
    ∙ (ap (λ (a : Answers). is_foreign_for (a.integration_point (with_errors 0 s.forest)) o c.args.shape) answers
    ∙ ap (λ (f : Forest). is_foreign_for (g.Sink.TreeSink.integration_point (with_errors 0 f)) o c.args.shape) forest))
