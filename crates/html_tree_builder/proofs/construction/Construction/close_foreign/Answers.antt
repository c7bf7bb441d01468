use Rattle.html_tree_builder.specs.States.{state_of}
use Rattle.html_tree_builder.proofs.Fields.{left_of}
use Rattle.html_tree_builder.proofs.construction.Construction.close_foreign.Goals as goal

pub returns : goal.returns
returns g c = λ a f.
    rw (← c.self.view_is)
    (c.close_foreign.ensures (state_of a (left_of c.self.view_is) f) f)
