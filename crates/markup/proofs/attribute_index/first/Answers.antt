use Rattle.std.proofs.Common.{◌∙◌, sym}
use Rattle.markup.proofs.AttributeIndex.{find-none, find-at, lent, place-inside}
use Rattle.markup.proofs.attribute_index.first.Goals as goal

pub returns-in_err-place : goal.returns-in_err-place
returns-in_err-place c =
    rw c.from_residual.ensures
    (sym (find-none c.args.name.now c.args.attributes.now (sym (c.requires.places c.args.name.now) ∙ sym c.in_err-place.ensures.value)))

pub returns : goal.returns
returns c =
    let at = sym (c.requires.places c.args.name.now) ∙ sym c.in_ok-place.ensures.value in
    let found = c.get-2.ensures.lookup in
    lent c.args.attributes.now c.in_ok-place.place.now c.get-2.result
    (place-inside c.args.name.now c.args.attributes.now c.in_ok-place.place.now at) found.2 found.1
    ∙ find-at c.args.name.now c.args.attributes.now c.in_ok-place.place.now at
