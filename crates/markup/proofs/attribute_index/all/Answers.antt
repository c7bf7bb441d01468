use Rattle.std.proofs.Common.{ap, subst, sym}
use Rattle.markup.specs.AttributeIndex.{AddsPlace}
use Rattle.markup.proofs.AttributeIndex.{IsIndex-next}
use Rattle.markup.proofs.attribute_index.all.Goals as goal

pub loop-place-preserved : goal.loop-place-preserved
loop-place-preserved c =
    let added = rw c.deref_mut.ensures.value at c.in_ok-add.ensures.ok in
    IsIndex-next c.loop-place.index.value c.add.new.index c.args.attributes.now c.loop-place.place
    c.index-attributes-place.result c.loop-place-test.true c.index-attributes-place.is c.loop-place.invariant
    (subst (λ n. AddsPlace n c.loop-place.place c.loop-place.index.value c.add.new.index)
    (ap (λ a. a.name.local) (sym c.index-attributes-place.is)) added)
