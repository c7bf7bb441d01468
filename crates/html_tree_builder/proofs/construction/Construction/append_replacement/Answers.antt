use Rattle.std.proofs.Common.{refl, ◌∙◌, ap, [], ◌∷◌, ◌++◌}
use Rattle.html_rules.specs.Places.{append_text}
use Rattle.html_tree_builder.specs.States.{state_of}
use Rattle.html_tree_builder.proofs.Fields.{left_of}
use Rattle.html_tree_builder.proofs.construction.Construction.append_replacement.Goals as goal

pub returns-clause-ok : goal.returns-clause-ok
returns-clause-ok g c = λ a.
    rw (← c.self.view_is)
    (let s = state_of a (left_of c.self.view_is) (g.Sink.TreeSink.forest c.args.sink.now) in
    c.in_ok-append_text.ensures.ok s refl ∙ ap (λ text. append_text text s)
    (c.in_ok-push.ensures.ok ∙ ap (λ text. text ++ 65533 ∷ []) c.empty-text.ensures))
