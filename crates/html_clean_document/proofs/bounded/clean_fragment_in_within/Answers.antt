use Rattle.std.proofs.Common.{ap, None, refl}
use Rattle.std.proofs.lemmas.Result.{err_from_is_err_and}
use Rattle.markup.specs.Forest.{Forest}
use Rattle.markup.specs.declared.serializer.TraversalScope.TheVariants.{ChildrenOnly}
use Rattle.html_forest.specs.Walk.{walked}
use Rattle.html_serialize.specs.Puts.{WriterView}
use Rattle.html_clean_document.specs.Clean.{IsFragmentOf}
use Rattle.html_clean_document.proofs.Meanings.{fragment-walked, failed-within, read-failed, reading-writes-nothing, reads-same}
use Rattle.html_clean_document.proofs.Meanings.{was-within, within-counted, within-reads}
use Rattle.html_clean_document.proofs.bounded.clean_fragment_in_within.Goals as goal

pub returns-in_err-forest-clause-err : goal.returns-in_err-forest-clause-err
returns-in_err-forest-clause-err g c =
    let p = err_from_is_err_and c.from_residual.result c.from_residual.ensures.1 in
    rw (p.1, p.2) (read-failed (IsFragmentOf c.args.references c.args.context) c.args.policy.now c.args.bounds.now
    c.in_err-forest.field-0.0 _ _ _ _
    refl c.in_err-forest.ensures.err)

pub returns-in_err-forest-clause-read_failures : goal.returns-in_err-forest-clause-read_failures
returns-in_err-forest-clause-read_failures g c =
    let p = err_from_is_err_and c.from_residual.result c.from_residual.ensures.1 in
    rw (p.1, p.2) (reads-same Forest c.in_err-forest.field-0.0 _ _ _ _ c.in_err-forest.ensures.counted)

pub returns-in_err-forest-clause-write_failures : goal.returns-in_err-forest-clause-write_failures
returns-in_err-forest-clause-write_failures g c =
    let p = err_from_is_err_and c.from_residual.result c.from_residual.ensures.1 in
    rw (p.1, p.2) (reading-writes-nothing c.in_err-forest.field-0.0 _ _ _ c.in_err-forest.ensures.err)

pub returns-in_err-write_clean_within-clause-err : goal.returns-in_err-write_clean_within-clause-err
returns-in_err-write_clean_within-clause-err g c =
    let p = err_from_is_err_and c.from_residual-in_err-write_clean_within.result c.from_residual-in_err-write_clean_within.ensures.1 in
    let given = c.get_document-document in
    let f = c.in_ok-forest in
    let walk = walked given.new.self c.root.result (ChildrenOnly None) in
    let wrote = c.in_err-write_clean_within.ensures.text walk refl in
    rw (p.1, p.2)
    (failed-within (IsFragmentOf c.args.references c.args.context) c.args.policy.now c.args.bounds.now walk
    c.in_err-write_clean_within.field-0.0 _ _ _ _
    (λ whole told. (
      fragment-walked given.new.self f.forest given.ensures.same c.root.result c.root.ensures
          c.args.references c.args.context whole _ (f.ensures.ok whole told),
      (f.ensures.ok whole told).taken,
    )) wrote)

pub returns-in_err-write_clean_within-clause-read_failures : goal.returns-in_err-write_clean_within-clause-read_failures
returns-in_err-write_clean_within-clause-read_failures g c =
    let p = err_from_is_err_and c.from_residual-in_err-write_clean_within.result c.from_residual-in_err-write_clean_within.ensures.1 in
    rw (p.1, p.2) (within-reads c.in_err-write_clean_within.field-0.0 _ _ _ _ c.in_ok-forest.ensures.counted)

pub returns-in_err-write_clean_within-clause-write_failures : goal.returns-in_err-write_clean_within-clause-write_failures
returns-in_err-write_clean_within-clause-write_failures g c =
    let p = err_from_is_err_and c.from_residual-in_err-write_clean_within.result c.from_residual-in_err-write_clean_within.ensures.1 in
    let given = c.get_document-document in
    let walk = walked given.new.self c.root.result (ChildrenOnly None) in
    let wrote = c.in_err-write_clean_within.ensures.text walk refl in
    rw (p.1, p.2) (within-counted (IsFragmentOf c.args.references c.args.context) c.args.policy.now c.args.bounds.now walk
    c.in_err-write_clean_within.field-0.0 _ _ wrote)

pub returns-clause-ok : goal.returns-clause-ok
returns-clause-ok g c whole told =
    let given = c.get_document-document in
    let f = c.in_ok-forest in
    let walk = walked given.new.self c.root.result (ChildrenOnly None) in
    let wrote = c.in_ok-write_clean_within.ensures.text walk refl in
    was-within (IsFragmentOf c.args.references c.args.context) c.args.policy.now c.args.bounds.now walk
    whole _ _ _ c.in_ok-write_clean_within.field-0
    (fragment-walked given.new.self f.forest given.ensures.same c.root.result c.root.ensures
    c.args.references c.args.context whole _
    (f.ensures.ok whole told)) (f.ensures.ok whole told).taken wrote

pub returns-clause-write_failures : goal.returns-clause-write_failures
returns-clause-write_failures g c =
    let given = c.get_document-document in
    let walk = walked given.new.self c.root.result (ChildrenOnly None) in
    let wrote = c.in_ok-write_clean_within.ensures.text walk refl in
    ap (λ (t : WriterView). t.failures) wrote.writes
