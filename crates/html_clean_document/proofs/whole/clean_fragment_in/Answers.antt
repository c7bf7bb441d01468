use Rattle.std.proofs.Common.{ap, None, refl}
use Rattle.std.proofs.lemmas.Result.{err_from_is_err_and}
use Rattle.markup.specs.declared.serializer.TraversalScope.TheVariants.{ChildrenOnly}
use Rattle.html_clean.specs.declared.counts.Cleaned.{Cleaned}
use Rattle.html_forest.specs.Walk.{walked}
use Rattle.html_serialize.specs.Puts.{WriterView}
use Rattle.html_clean_document.specs.Clean.{IsFragmentOf}
use Rattle.html_clean_document.proofs.Meanings.{fragment-walked, reads-counted, was-cleaned, write-counted, write-failed}
use Rattle.html_clean_document.proofs.whole.clean_fragment_in.Goals as goal

pub returns-in_err-write_clean-clause-err : goal.returns-in_err-write_clean-clause-err
returns-in_err-write_clean-clause-err g c =
    let p = err_from_is_err_and c.from_residual-in_err-write_clean.result c.from_residual-in_err-write_clean.ensures.1 in
    let given = c.get_document-document in
    let f = c.in_ok-forest in
    let wrote = c.in_err-write_clean.ensures.text (walked given.new.self c.root.result (ChildrenOnly None)) refl in
    rw (p.1, p.2)
    (write-failed (IsFragmentOf c.args.references c.args.context) c.args.policy.now
    (walked given.new.self c.root.result (ChildrenOnly None)) c.in_err-write_clean.field-0.0 _ _ _ _
    (λ whole told. fragment-walked given.new.self f.forest given.ensures.same c.root.result c.root.ensures
    c.args.references c.args.context whole _ (f.ensures.ok whole told)) wrote)

pub returns-in_err-write_clean-clause-read_failures : goal.returns-in_err-write_clean-clause-read_failures
returns-in_err-write_clean-clause-read_failures g c =
    let p = err_from_is_err_and c.from_residual-in_err-write_clean.result c.from_residual-in_err-write_clean.ensures.1 in
    rw (p.1, p.2) (reads-counted Cleaned c.in_err-write_clean.field-0.0 _ _ _ _ c.in_ok-forest.ensures.counted)

pub returns-in_err-write_clean-clause-write_failures : goal.returns-in_err-write_clean-clause-write_failures
returns-in_err-write_clean-clause-write_failures g c =
    let p = err_from_is_err_and c.from_residual-in_err-write_clean.result c.from_residual-in_err-write_clean.ensures.1 in
    let given = c.get_document-document in
    let wrote = c.in_err-write_clean.ensures.text (walked given.new.self c.root.result (ChildrenOnly None)) refl in
    rw (p.1, p.2) (write-counted (IsFragmentOf c.args.references c.args.context) c.args.policy.now
    (walked given.new.self c.root.result (ChildrenOnly None)) c.in_err-write_clean.field-0.0 _ _ wrote)

pub returns-clause-ok : goal.returns-clause-ok
returns-clause-ok g c whole told =
    let given = c.get_document-document in
    let f = c.in_ok-forest in
    let wrote = c.in_ok-write_clean.ensures.text (walked given.new.self c.root.result (ChildrenOnly None)) refl in
    let read = f.ensures.ok whole told in
    was-cleaned (IsFragmentOf c.args.references c.args.context) c.args.policy.now
    (walked given.new.self c.root.result (ChildrenOnly None)) whole _ _ _ c.in_ok-write_clean.field-0
    (fragment-walked given.new.self f.forest given.ensures.same c.root.result c.root.ensures c.args.references
    c.args.context whole _ read) read.taken wrote

pub returns-clause-write_failures : goal.returns-clause-write_failures
returns-clause-write_failures g c =
    let given = c.get_document-document in
    let wrote = c.in_ok-write_clean.ensures.text (walked given.new.self c.root.result (ChildrenOnly None)) refl in
    ap (λ (t : WriterView). t.failures) wrote.writes
