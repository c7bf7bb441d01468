use Rattle.std.proofs.Common.{◌∙◌, sym, ap}
use Rattle.markup.proofs.AttributeIndex.{FitsIndex-at}
use Rattle.markup.proofs.DistinctNames.{has-first, passes}
use Rattle.markup.specs.Names.{same_name}
use Rattle.markup.proofs.attribute_index.has.Goals as goal

pub returns-in-Some-first : goal.returns-in-Some-first
returns-in-Some-first c =
    c.eq.ensures ∙ sym (has-first c.args.name.now c.args.attributes.now
    (sym (FitsIndex-at _ _ _ c.in-Some.is c.requires).are_distinct
    ∙ (ap (λ i. i.are_distinct) (sym c.deref.ensures) ∙ c.if-deref.true))
    ∙ ap (passes (λ attribute. same_name attribute.name c.args.name.now)) (sym c.in-Some-first.ensures))

pub returns-in-None : goal.returns-in-None
returns-in-None c =
    sym (has-first c.args.name.now c.args.attributes.now
    (sym (FitsIndex-at _ _ _ c.in-Some.is c.requires).are_distinct
    ∙ (ap (λ i. i.are_distinct) (sym c.deref.ensures) ∙ c.if-deref.true))
    ∙ ap (passes (λ attribute. same_name attribute.name c.args.name.now)) (sym c.in-None.ensures))
