use Rattle.std.proofs.Common.{◌∙◌, sym, ap}
use Rattle.markup.proofs.AttributeIndex.{FitsIndex-at}
use Rattle.markup.proofs.DistinctNames.{contains-first, passes}
use Rattle.markup.specs.Equality.{attribute_eq}
use Rattle.markup.proofs.attribute_index.contains.Goals as goal

pub returns-in-Some-first : goal.returns-in-Some-first
returns-in-Some-first c =
    c.eq.ensures ∙ sym (contains-first c.args.attribute.now c.args.attributes.now
    (sym (FitsIndex-at _ _ _ c.in-Some.is c.requires).are_distinct
    ∙ (ap (λ i. i.are_distinct) (sym c.deref.ensures) ∙ c.if-deref.true))
    ∙ ap (passes (attribute_eq c.args.attribute.now)) (sym c.in-Some-first.ensures))

pub returns-in-None : goal.returns-in-None
returns-in-None c =
    sym (contains-first c.args.attribute.now c.args.attributes.now
    (sym (FitsIndex-at _ _ _ c.in-Some.is c.requires).are_distinct
    ∙ (ap (λ i. i.are_distinct) (sym c.deref.ensures) ∙ c.if-deref.true))
    ∙ ap (passes (attribute_eq c.args.attribute.now)) (sym c.in-None.ensures))
