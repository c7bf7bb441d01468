use Rattle.std.proofs.Common.{◌∙◌, ap}
use Rattle.std.specs.Prelude.{is_some}
use Rattle.markup.specs.AttributeIndex.{place_in}
use Rattle.markup.proofs.AttributeIndex.{FitsIndex-at, IsIndex-names}
use Rattle.markup.proofs.attribute_index.has_local_name.Goals as goal

pub returns-in-Some : goal.returns-in-Some
returns-in-Some c =
    c.contains_key.ensures ∙ (ap (λ i. is_some (place_in i.places c.args.name.now)) c.deref.ensures
    ∙ IsIndex-names c.in-Some.index.value c.args.attributes.now (FitsIndex-at _ _ _ c.in-Some.is c.requires) c.args.name.now)
