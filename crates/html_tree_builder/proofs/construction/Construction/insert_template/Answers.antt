use Rattle.std.proofs.Common.{refl, sym, ◌∙◌, ap}
use Rattle.html_rules.specs.Actions.{for_tag}
use Rattle.html_rules.specs.Templates.{insert_template}
use Rattle.html_tree_builder.specs.States.{built}
use Rattle.html_tree_builder.specs.Told.{token_of}
use Rattle.html_tree_builder.proofs.Fields.{left_of}
use Rattle.html_tree_builder.proofs.construction.Construction.insert_template.Goals as goal

pub returns-clause-ok : goal.returns-clause-ok
returns-clause-ok g c =
    rw (← c.self.view_is)
    (let s = built g.Sink.TreeSink (left_of c.self.view_is) (g.Sink.TreeSink.forest c.args.sink.now) in
    c.in_ok-insert_template.ensures.ok s refl (sym (c.lent.ensures g.Sink.TreeSink.node)) refl
    ∙ ap (λ tag. insert_template tag s) c.in_ok-tag.ensures.ok ∙ ap (λ x. for_tag insert_template (token_of x) s) (sym c.in-Tag.is))
