use Rattle.std.proofs.Common.{◌∙◌, ap, is_some, codes}
use Rattle.html_rules.specs.Formatting.{last_named}
use Rattle.html_tree_builder.proofs.construction.Construction.lists_a.Goals as goal

pub returns : goal.returns
returns g c = rw (← c.self.view_is) (c.lists_a.ensures g.Sink.TreeSink.node
    ∙ ap (λ xs. is_some (last_named (codes "a") xs)) c.active_formatting.ensures)
