use Rattle.std.proofs.Common.{◌∙◌}
use Rattle.html_tokenizer_parts.proofs.HeldNumbers.{BeginsHash-first, decided-hash, faulty-hash}
use Rattle.html_tokenizer_parts.proofs.references.find.Goals as goal

pub returns-in-Some-eq35-clause-found : goal.returns-in-Some-eq35-clause-found
returns-in-Some-eq35-clause-found c =
    let same = c.as_str-text.ensures.bytes in
    c.numeric.ensures
    ∙ decided-hash c.args.in_value c.args.table.now c.args.held.now c.as_bytes-in-Some-eq35.result.now c.args.follows
    (BeginsHash-first c.args.held.now c.as_bytes.result.now c.as_bytes-in-Some-eq35.result.now
    c.in-Some-eq35.field-0.now c.in-Some-eq35.ensures.value c.in-Some-eq35.field-0-test
    (c.as_bytes.ensures.value ∙ same) (c.as_bytes-in-Some-eq35.ensures.value ∙ same))

pub returns-in-Some-eq35-clause-fault : goal.returns-in-Some-eq35-clause-fault
returns-in-Some-eq35-clause-fault c =
    let same = c.as_str-text.ensures.bytes in
    c.numeric_faults.ensures
    ∙ faulty-hash c.args.in_value c.args.table.now c.args.held.now c.as_bytes-in-Some-eq35-2.result.now c.args.follows
    (BeginsHash-first c.args.held.now c.as_bytes.result.now c.as_bytes-in-Some-eq35-2.result.now
    c.in-Some-eq35.field-0.now c.in-Some-eq35.ensures.value c.in-Some-eq35.field-0-test
    (c.as_bytes.ensures.value ∙ same) (c.as_bytes-in-Some-eq35-2.ensures.value ∙ same))
