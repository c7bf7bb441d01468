use Rattle.std.proofs.Common.{◌∙◌}
use Rattle.std.specs.Prelude.{◌||◌}
use Rattle.html_rules.specs.State.{is_named, named_in}
use Rattle.html_stack.specs.Noted.{bears, known_as}
use Rattle.html_stack.specs.declared.signs.Sign.TheVariants.{In}
use Rattle.html_stack.proofs.Newest.{or-left, or-right}
use Rattle.html_stack.proofs.Noted.{scope-beyond}
use Rattle.html_stack.proofs.stack.Stack.in_scope_named.Goals as goal

pub returns : goal.returns
returns g c =
    c.is_in_scope.ensures g.Sink.TreeSink.node
    ∙ scope-beyond c.args.scope (is_named c.args.name.now) (λ x. bears (In c.args.scope) x || named_in x.namespace x.name c.args.name.now)
    (λ x h. or-right (bears (In c.args.scope) (known_as x)) (is_named c.args.name.now x) h)
    (λ x h. or-left (bears (In c.args.scope) (known_as x)) (is_named c.args.name.now x) h) _ _ c.reached_named-open.ensures
