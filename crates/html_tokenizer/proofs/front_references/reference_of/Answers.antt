use Rattle.html_tokenizer.proofs.Fronts.References.{name-cut, reference-found}
use Rattle.html_tokenizer.proofs.front_references.reference_of.Goals as goal

pub range-requires-clause-end_boundary : goal.range-requires-clause-end_boundary
range-requires-clause-end_boundary c = name-cut c.in-Some.inner.now c.split.result.0.now c.split.result.1.now
    c.in-Some-after_byte.rest.now c.split.ensures.whole c.in-Some-after_byte.ensures.whole c.in-Some.ensures.utf8 c.split.ensures.cut

pub returns : goal.returns
returns c = reference-found c.args.text.now c.in-Some.inner.now c.split.result.0.now c.split.result.1.now
    c.in-Some-after_byte.rest.now _ c.in-Some.ensures.whole c.split.ensures.whole c.in-Some-after_byte.ensures.whole
    c.split.ensures.cut c.range.ensures.value
