use Rattle.std.proofs.Common.{refl, sym, ◌∙◌, ap}
use Rattle.html_modes.specs.Tables.{namespace_of}
use Rattle.html_tree_builder.specs.States.{state_of}
use Rattle.html_tree_builder.specs.Told.{token_of}
use Rattle.html_tree_builder.proofs.Fields.{left_of}
use Rattle.html_rules.specs.Actions.{for_tag}
use Rattle.html_rules.specs.ForeignContent.{enter_foreign}
use Rattle.html_tree_builder.proofs.construction.Construction.enter_foreign.Goals as goal

pub returns-clause-ok : goal.returns-clause-ok
returns-clause-ok g c = λ a.
    rw (← c.self.view_is)
    (let s = state_of a (left_of c.self.view_is) (g.Sink.TreeSink.forest c.args.sink.now) in
    c.in_ok-enter_foreign.ensures.ok s refl ∙ ap (λ n. enter_foreign n c.in_ok-tag.tag s) c.own_namespace.ensures
    ∙ ap (λ tag. enter_foreign (namespace_of c.args.namespace) tag s) c.in_ok-tag.ensures.ok
    ∙ ap (λ x. for_tag (enter_foreign (namespace_of c.args.namespace)) (token_of x) s) (sym c.in-Tag.is))
