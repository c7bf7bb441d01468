use Rattle.std.proofs.Common.{◌∙◌, sym}
use Rattle.html_tokenizer_parts.proofs.HeldFronts.{other-ends}
use Rattle.html_tokenizer_parts.proofs.HeldNumbers.{BeginsHash-first, front-hash, goes_on-hash}
use Rattle.html_tokenizer_parts.proofs.references.may_go_on.Goals as goal

pub returns-then-not-is_held-clause-is : goal.returns-then-not-is_held-clause-is
returns-then-not-is_held-clause-is c = other-ends c.args.table.now c.rows-rows.ensures.table c.args.held.now
    c.args.c (sym c.is_held.ensures ∙ c.if-not-is_held.true)

pub goes_on-requires : goal.goes_on-requires
goes_on-requires c =
    let same = c.as_str-text.ensures.bytes in
    front-hash c.args.table.now c.args.held.now c.as_bytes-in-Some-eq35.result.now
    (BeginsHash-first c.args.held.now c.as_bytes.result.now c.as_bytes-in-Some-eq35.result.now
    c.in-Some-eq35.field-0.now c.in-Some-eq35.ensures.value c.in-Some-eq35.field-0-test
    (c.as_bytes.ensures.value ∙ same) (c.as_bytes-in-Some-eq35.ensures.value ∙ same))
    c.requires

pub returns-in-Some-eq35-clause-is : goal.returns-in-Some-eq35-clause-is
returns-in-Some-eq35-clause-is c =
    let same = c.as_str-text.ensures.bytes in
    c.goes_on.ensures
    ∙ goes_on-hash c.args.table.now c.args.held.now c.as_bytes-in-Some-eq35.result.now c.args.c
    (BeginsHash-first c.args.held.now c.as_bytes.result.now c.as_bytes-in-Some-eq35.result.now
    c.in-Some-eq35.field-0.now c.in-Some-eq35.ensures.value c.in-Some-eq35.field-0-test
    (c.as_bytes.ensures.value ∙ same) (c.as_bytes-in-Some-eq35.ensures.value ∙ same))
