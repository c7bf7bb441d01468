use Rattle.std.proofs.Common.{◌≤◌, arith}
use Rattle.markup.specs.Forest.{add_attributes, node_count}
use Rattle.markup.proofs.PutTexts.{IsInPlace-add_attributes}
use Rattle.html_rules.specs.Stack.{add_attributes_to_body}
use Rattle.html_rules_laws.proofs.TreePreserved.StandingActions.{body_attributes-Standing}
use Rattle.html_stack.proofs.KeptSteps.{kept-always}
use Rattle.html_stack.proofs.PutNodes.{body_attributes-step, no_body-step}
use Rattle.html_stack.proofs.Results.{either-case, either-on, ok-on}
use Rattle.html_stack.proofs.stack.Stack.add_attributes_to_body.Goals as goal

pub add_attrs_if_missing-requires : goal.add_attrs_if_missing-requires
add_attrs_if_missing-requires g c = c.in-Some.ensures.is_node (g.Sink.TreeSink.forest c.args.sink.now) c.requires.opened

pub returns-in-Some-clause-ok : goal.returns-in-Some-clause-ok
returns-in-Some-clause-ok g c =
    ok-on c.add_attrs_if_missing.result (λ made s.
    body_attributes-step s c.args.self.now (g.Sink.TreeSink.forest c.args.sink.now)
    (g.Sink.TreeSink.forest c.add_attrs_if_missing.new.self) (g.Sink.TreeSink.node c.in-Some.body) c.args.attrs
    c.in-Some.ensures.number made)
    c.add_attrs_if_missing.ensures.ok

pub returns-in-Some-clause-kept : goal.returns-in-Some-clause-kept
returns-in-Some-clause-kept g c =
    let f = g.Sink.TreeSink.forest c.args.sink.now in
    let k = g.Sink.TreeSink.forest c.add_attrs_if_missing.new.self in
    either-case c.add_attrs_if_missing.result
    (λ step. kept-always (add_attributes_to_body c.args.attrs) (body_attributes-Standing c.args.attrs)
    c.args.self.now c.args.self.now f k step c.requires)
    (λ same. rw same c.requires)
    (returns-in-Some-clause-ok g c) c.add_attrs_if_missing.ensures.err

pub returns-in-Some-clause-grows : goal.returns-in-Some-clause-grows
returns-in-Some-clause-grows g c =
    let f = g.Sink.TreeSink.forest c.args.sink.now in
    let n = g.Sink.TreeSink.node c.in-Some.body in
    let same = (IsInPlace-add_attributes f n c.args.attrs c.requires.tree.forest (c.in-Some.ensures.is_node f c.requires.opened)).count in
    either-on (λ k. node_count f ≤ node_count k) c.add_attrs_if_missing.result
    (g.Sink.TreeSink.forest c.add_attrs_if_missing.new.self) (add_attributes f n c.args.attrs) f
    c.add_attrs_if_missing.ensures.ok c.add_attrs_if_missing.ensures.err (omega arith) (omega arith)

pub returns-in-None-clause-ok : goal.returns-in-None-clause-ok
returns-in-None-clause-ok g c s = no_body-step s c.args.self.now (g.Sink.TreeSink.forest c.args.sink.now)
    c.args.attrs c.in-None.ensures.number
