use Rattle.std.proofs.Common.{◌∙◌}
use Rattle.std.specs.Prelude.{◌||◌}
use Rattle.html_rules.specs.State.{is_in}
use Rattle.html_stack.specs.Noted.{bears, known_as}
use Rattle.html_stack.specs.declared.signs.Sign.TheVariants.{In}
use Rattle.html_stack.proofs.Newest.{or-left, or-right}
use Rattle.html_stack.proofs.Noted.{scope-beyond}
use Rattle.html_stack.proofs.stack.Stack.in_scope.Goals as goal

pub returns : goal.returns
returns g c =
    c.is_set_in_scope.ensures g.Sink.TreeSink.node
    ∙ scope-beyond c.args.scope (is_in c.args.set) (λ x. bears (In c.args.scope) x || bears (In c.args.set) x)
    (λ x h. or-right (bears (In c.args.scope) (known_as x)) (bears (In c.args.set) (known_as x)) h)
    (λ x h. or-left (bears (In c.args.scope) (known_as x)) (bears (In c.args.set) (known_as x)) h) _ _ c.reached-open.ensures
