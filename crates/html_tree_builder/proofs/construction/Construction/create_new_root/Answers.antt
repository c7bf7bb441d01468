use Rattle.std.proofs.Common.{◌∙◌, ap}
use Rattle.html_tree_builder.specs.States.{state_of}
use Rattle.html_tree_builder.proofs.Fields.{left_of}
use Rattle.html_rules.specs.Places.{create_root}
use Rattle.html_tree_builder.proofs.construction.Construction.create_new_root.Goals as goal

pub returns-clause-ok : goal.returns-clause-ok
returns-clause-ok g c = λ a.
    rw (← c.self.view_is)
    (let s = state_of a (left_of c.self.view_is) (g.Sink.TreeSink.forest c.args.sink.now) in
    c.in_ok-create_root.ensures.ok s ∙ ap (λ attrs. create_root attrs s) c.new-attrs.ensures)
