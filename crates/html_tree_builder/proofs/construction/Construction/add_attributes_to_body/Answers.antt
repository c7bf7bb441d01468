use Rattle.std.proofs.Common.{◌∙◌, ap}
use Rattle.html_tree_builder.specs.States.{state_of}
use Rattle.html_tree_builder.proofs.Fields.{left_of}
use Rattle.html_rules.specs.Stack.{add_attributes_to_body}
use Rattle.html_tree_builder.proofs.construction.Construction.add_attributes_to_body.Goals as goal

pub returns-clause-ok : goal.returns-clause-ok
returns-clause-ok g c = λ a.
    rw (← c.self.view_is)
    (let s = state_of a (left_of c.self.view_is) (g.Sink.TreeSink.forest c.args.sink.now) in
    c.in_ok-add_attributes_to_body.ensures.ok s ∙ ap (λ attrs. add_attributes_to_body attrs s) c.in_ok-attrs.ensures.ok)
