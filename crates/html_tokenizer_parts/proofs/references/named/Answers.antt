use Rattle.std.proofs.Common.{refl, ap}
use Rattle.html_tokenizer_parts.proofs.NamedRows.{is_no_text-row, is_text-row, row-within}
use Rattle.html_tokenizer_parts.proofs.references.named.Goals as goal

pub returns-clause-found : goal.returns-clause-found
returns-clause-found c =
    let row = rw c.requires at c.in-Some.ensures.row in
    let kept =
    is_no_text-row c.args.in_value c.args.follows c.name_of.result.now c.in-Some.row.now.name c.as_bytes.result.now
    c.args.text.now c.row_found-found.result.len c.name_of.ensures
    c.as_bytes.ensures.value (ap (λ r. r.len) c.row_found-found.ensures) c.if-is_text.ensures in
    rw (c.row_found-found.ensures, ← row, kept) refl

pub returns-clause-fault : goal.returns-clause-fault
returns-clause-fault c =
    let row = rw c.requires at c.in-Some.ensures.row in
    let kept =
    is_no_text-row c.args.in_value c.args.follows c.name_of.result.now c.in-Some.row.now.name c.as_bytes.result.now
    c.args.text.now c.row_found-found.result.len c.name_of.ensures
    c.as_bytes.ensures.value (ap (λ r. r.len) c.row_found-found.ensures) c.if-is_text.ensures in
    rw (c.name_faults.ensures, c.name_of-2.ensures, ← row, kept) refl

pub slice_bounds-is_text-count : goal.slice_bounds-is_text-count
slice_bounds-is_text-count c =
    let row = rw c.requires at c.in-Some.ensures.row in
    row-within c.args.table.now c.args.text.now c.as_bytes.result.now c.in-Some.row.now c.row_found-found.result.len
    row (ap (λ r. r.len) c.row_found-found.ensures) c.as_bytes.ensures.value

pub slice_bounds-is_text-start : goal.slice_bounds-is_text-start
slice_bounds-is_text-start c =
    let row = rw c.requires at c.in-Some.ensures.row in
    row-within c.args.table.now c.args.text.now c.as_bytes.result.now c.in-Some.row.now c.row_found-found.result.len
    row (ap (λ r. r.len) c.row_found-found.ensures) c.as_bytes.ensures.value

pub returns-then-is_text-clause-found : goal.returns-then-is_text-clause-found
returns-then-is_text-clause-found c =
    let row = rw c.requires at c.in-Some.ensures.row in
    let text =
    is_text-row c.args.in_value c.args.follows c.name_of.result.now c.in-Some.row.now.name c.as_bytes.result.now
    c.args.text.now c.row_found-found.result.len c.name_of.ensures
    c.as_bytes.ensures.value (ap (λ r. r.len) c.row_found-found.ensures) c.if-is_text.ensures in
    rw (← row, text) refl

pub returns-then-is_text-clause-fault : goal.returns-then-is_text-clause-fault
returns-then-is_text-clause-fault c =
    let row = rw c.requires at c.in-Some.ensures.row in
    let text =
    is_text-row c.args.in_value c.args.follows c.name_of.result.now c.in-Some.row.now.name c.as_bytes.result.now
    c.args.text.now c.row_found-found.result.len c.name_of.ensures
    c.as_bytes.ensures.value (ap (λ r. r.len) c.row_found-found.ensures) c.if-is_text.ensures in
    rw (← row, text) refl
