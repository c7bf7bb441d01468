use Rattle.html_tree_builder.specs.States.{state_of}
use Rattle.html_tree_builder.proofs.construction.Construction.close_misnested_a.Goals as goal
use Rattle.html_tree_builder.proofs.Fields.{left_of}
use Rattle.std.proofs.Common.{refl}

pub returns-clause-ok : goal.returns-clause-ok
returns-clause-ok g c = λ a.
    rw (← c.self.view_is)
    (c.in_ok-handle_misnested_a_tags.ensures.ok (state_of a (left_of c.self.view_is) (g.Sink.TreeSink.forest c.args.sink.now)) refl)
