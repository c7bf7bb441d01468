use Rattle.std.proofs.Common.{inr, refl}
use Rattle.std.proofs.lemmas.Result.{err_from_is_err_and}
use Rattle.figpliers.specs.Walk.{walked}
use Rattle.figpliers_program.specs.declared.faults.Verdict.TheVariants.{Fine}
use Rattle.figpliers_program.proofs.Printing.{cut-as}
use Rattle.figpliers_program.proofs.Texts.{document-given, given}
use Rattle.figpliers_program.proofs.commands.normal.Goals as goal

pub returns-in_err-serialize : goal.returns-in_err-serialize
returns-in_err-serialize g c =
    let p = err_from_is_err_and c.from_residual.result c.from_residual.ensures.1 in
    let same = document-given c.args.forest.now c.document.result c.default.result c.keeps.ensures.is_forest.document_first
    c.document.ensures c.default.ensures in
    let wrote = c.in_err-serialize.ensures.text (walked c.args.forest.now c.document.result c.default.result.traversal_scope) refl in
    rw (p.1, p.2) (inr (
      given c.default.result c.args.forest.now c.document.result,
      Fine,
      (same, refl),
      cut-as (Unit {0}) _ _ _ c.in_err-serialize.field-0.0 wrote,
    ))

pub returns : goal.returns
returns g c = (
  given c.default.result c.args.forest.now c.document.result,
  (
    document-given c.args.forest.now c.document.result c.default.result c.keeps.ensures.is_forest.document_first c.document.ensures
        c.default.ensures,
    refl,
  ),
  c.in_ok-serialize.ensures.text (walked c.args.forest.now c.document.result c.default.result.traversal_scope) refl,
)
