use Rattle.std.proofs.Common.{◌∙◌, Option, ap}
use Rattle.markup.specs.declared.names.QualName.{QualName}
use Rattle.html_selector_matching.specs.Simples.{counts, is_nth, place_of}
use Rattle.html_selector_matching.proofs.simples.is_nth_of_type.Goals as goal

pub returns : goal.returns
returns c =
    let f = c.args.forest.now in
    let nth = c.args.nth.now in
    c.is_nth.ensures ∙ ap (is_nth nth) (c.place_of.ensures
    ∙ ap (λ (name : Option QualName). place_of (counts f name) nth.from_end f c.args.id) c.element_name-name.ensures)
