use Rattle.std.proofs.Common.{◌≡◌, ◌∙◌}
use Rattle.html_rules.specs.Stack.{add_attributes_to_root}
use Rattle.html_rules_laws.proofs.TreePreserved.StandingActions.{root_attributes-Standing}
use Rattle.html_stack.proofs.KeptSteps.{kept-always}
use Rattle.html_stack.proofs.PutNodes.{root_attributes-step}
use Rattle.html_stack.proofs.Results.{either-case, ok-on}
use Rattle.html_stack.proofs.stack.Stack.add_attributes_to_root.Goals as goal

pub add_attrs_if_missing-requires : goal.add_attrs_if_missing-requires
add_attrs_if_missing-requires g c = rw c.root_or_document-root.ensures.same
    (c.root_or_document-root.ensures.is_parent (g.Sink.TreeSink.forest c.args.sink.now) c.requires.tree c.requires.opened).there

pub returns-clause-ok : goal.returns-clause-ok
returns-clause-ok g c =
    ok-on c.add_attrs_if_missing.result (λ made s.
    root_attributes-step s c.args.self.now (g.Sink.TreeSink.forest c.args.sink.now)
    (g.Sink.TreeSink.forest c.add_attrs_if_missing.new.self) (g.Sink.TreeSink.node c.root_or_document-root.result) c.args.attrs
    c.root_or_document-root.ensures.number (rw c.root_or_document-root.ensures.same at made))
    c.add_attrs_if_missing.ensures.ok

pub returns-clause-kept : goal.returns-clause-kept
returns-clause-kept g c =
    let f = g.Sink.TreeSink.forest c.args.sink.now in
    let k = g.Sink.TreeSink.forest c.add_attrs_if_missing.new.self in
    either-case c.add_attrs_if_missing.result
    (λ step. kept-always (add_attributes_to_root c.args.attrs) (root_attributes-Standing c.args.attrs)
    c.args.self.now c.args.self.now f k step c.requires)
    (λ same. let e : k ≡ f = same ∙ c.root_or_document-root.ensures.same in rw e c.requires)
    (returns-clause-ok g c) c.add_attrs_if_missing.ensures.err
