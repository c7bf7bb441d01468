use Rattle.std.proofs.Common.{◌∙◌, ap, codes, refl}
use Rattle.markup.proofs.Plain.{chars-plain}
use Rattle.html_rules.specs.Adoption.{adoption_agency}
use Rattle.html_tree_builder.specs.States.{state_of}
use Rattle.html_tree_builder.proofs.construction.Construction.adopt_nobr.Goals as goal

pub returns-clause-ok : goal.returns-clause-ok
returns-clause-ok g c = λ a.
    c.in_ok-adoption_agency.ensures.ok a
    ∙ ap (λ name. adoption_agency name (state_of a c.args.self.now (g.Sink.TreeSink.forest c.args.sink.now)))
    (c.in_ok-name.ensures.ok ∙ chars-plain (codes "nobr") refl)
