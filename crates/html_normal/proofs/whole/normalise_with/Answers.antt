use Rattle.std.proofs.Common.{refl}
use Rattle.std.proofs.lemmas.Result.{err_from_is_err_and}
use Rattle.html_forest.specs.Walk.{walked}
use Rattle.html_normal.specs.declared.report.Report.{Report}
use Rattle.html_normal.proofs.Meanings.{normalised, reads-counted, write-failed, writes-counted}
use Rattle.html_normal.proofs.whole.normalise_with.Goals as goal

pub returns-in_err-serialize-clause-err : goal.returns-in_err-serialize-clause-err
returns-in_err-serialize-clause-err g c =
    let p = err_from_is_err_and c.from_residual-in_err-serialize.result c.from_residual-in_err-serialize.ensures.1 in
    let given = c.get_document-id in
    let wrote = c.in_err-serialize.ensures.text (walked given.new.self given.result c.default.result.traversal_scope) refl in
    rw (p.1, p.2)
    (write-failed c.default.result given.new.self c.in_ok-forest.forest given.result c.default.ensures
    given.ensures.document given.ensures.same
    given.ensures.is_forest.document_first c.args.rules _ c.args.exact.tokenizer c.in_err-serialize.field-0.0 _ _ _ _
    c.in_ok-forest.ensures.ok wrote)

pub returns-in_err-serialize-clause-read_failures : goal.returns-in_err-serialize-clause-read_failures
returns-in_err-serialize-clause-read_failures g c =
    let p = err_from_is_err_and c.from_residual-in_err-serialize.result c.from_residual-in_err-serialize.ensures.1 in
    rw (p.1, p.2) (reads-counted Report c.in_err-serialize.field-0.0 _ _ _ _ c.in_ok-forest.ensures.counted)

pub returns-in_err-serialize-clause-write_failures : goal.returns-in_err-serialize-clause-write_failures
returns-in_err-serialize-clause-write_failures g c =
    let p = err_from_is_err_and c.from_residual-in_err-serialize.result c.from_residual-in_err-serialize.ensures.1 in
    let given = c.get_document-id in
    let wrote = c.in_err-serialize.ensures.text (walked given.new.self given.result c.default.result.traversal_scope) refl in
    rw (p.1, p.2) (writes-counted Report c.in_err-serialize.field-0.0 _ _ _ wrote)

pub returns-clause-ok : goal.returns-clause-ok
returns-clause-ok g c whole told =
    let given = c.get_document-id in
    let wrote = c.in_ok-serialize.ensures.text (walked given.new.self given.result c.default.result.traversal_scope) refl in
    normalised c.default.result given.new.self c.in_ok-forest.forest given.result c.default.ensures
    given.ensures.document given.ensures.same
    given.ensures.is_forest.document_first c.args.rules _ c.args.exact.tokenizer whole _ _ _ _ _ _
    (c.in_ok-forest.ensures.ok whole told) wrote c.in_ok-plain.ensures.ok c.quirks.ensures c.error_count.ensures
