use Rattle.std.proofs.Common.{refl, sym, ◌∙◌, ap}
use Rattle.html_modes.specs.Tables.{spelled}
use Rattle.html_rules.specs.Actions.{for_tag}
use Rattle.html_rules.specs.Places.{insert_and_pop_element_for}
use Rattle.html_tree_builder.specs.States.{state_of}
use Rattle.html_tree_builder.specs.Told.{token_of}
use Rattle.html_tree_builder.proofs.Fields.{left_of}
use Rattle.html_tree_builder.proofs.construction.Construction.insert_void_as.Goals as goal

pub returns-clause-ok : goal.returns-clause-ok
returns-clause-ok g c = λ a.
    rw (← c.self.view_is)
    (let s = state_of a (left_of c.self.view_is) (g.Sink.TreeSink.forest c.args.sink.now) in
    c.in_ok-insert_and_pop_element_for.ensures.ok s refl
    ∙ ap (λ tag. insert_and_pop_element_for tag s) c.in_ok-tag.ensures.ok
    ∙ ap (λ x. for_tag (λ tag. insert_and_pop_element_for (record tag { name = spelled c.args.name })) (token_of x) s) (sym c.in-Tag.is))
