use Rattle.std.proofs.Common.{◌∙◌, refl}
use Rattle.html_rules.specs.ForeignContent.{foreign_start}
use Rattle.html_stack.proofs.Results.{ok-on}
use Rattle.html_stack.proofs.stack.Stack.foreign_start.Goals as goal

pub returns-in-None-clause-ok : goal.returns-in-None-clause-ok
unfolding foreign_start
returns-in-None-clause-ok g c s foster context =
    let none = rw c.open_elems.ensures at (c.in-None.ensures g.Sink.TreeSink.node) in
    rw (context, none) refl

pub returns-in_ok-name-in-Some-clause-ok : goal.returns-in_ok-name-in-Some-clause-ok
unfolding foreign_start
returns-in_ok-name-in-Some-clause-ok g c =
    let found = rw c.open_elems.ensures at (c.in-Some.ensures g.Sink.TreeSink.node) in
    let name = c.in_ok-name-in-Some.ensures.ok c.in-Some.node.now.name.namespace c.kind.ensures in
    ok-on c.enter_foreign.result (λ step s foster context. step s foster
    ∙ rw (context, found, c.in_ok-namespace-in-Some.ensures.ok, name) refl) c.enter_foreign.ensures.ok
