use Rattle.std.proofs.Common.{◌≡◌, ◌∙◌, List, ap, sym}
use Rattle.std.specs.Box.{with_value}
use Rattle.markup.specs.declared.attributes.Attribute.{Attribute}
use Rattle.html_forest.specs.declared.entry.Entry.TheVariants.{OwnElement}
use Rattle.html_forest.specs.declared.entry.OwnElement.{OwnElement as Own}
use Rattle.html_forest.proofs.Stored.{OnErr-always}
use Rattle.html_forest.proofs.data.add_to_entry.Goals as goal

pub returns-in_err-add_missing-in-OwnElement-clause-err : goal.returns-in_err-add_missing-in-OwnElement-clause-err
returns-in_err-add_missing-in-OwnElement-clause-err c =
    let own = c.in-OwnElement in
    let name = c.deref_mut.result.now.name in
    let back : record { name = name; attrs = c.add_missing.new.self } ≡ own.element.value =
    ap (λ (attrs : List Attribute). record { name = name; attrs = attrs })
    c.in_err-add_missing-in-OwnElement.ensures.err ∙ c.deref_mut.ensures.value in
    OnErr-always c.from_residual-in_err-add_missing-in-OwnElement.result
    (ap (λ (value : Own). OwnElement own.template own.integration_point (with_value own.element value)) back ∙ sym own.is)
