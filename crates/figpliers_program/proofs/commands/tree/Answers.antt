use Rattle.std.proofs.Common.{ap, inr, refl}
use Rattle.std.proofs.lemmas.Result.{err_from_is_err_and}
use Rattle.figpliers.specs.Lines.{tree_lines}
use Rattle.figpliers_program.specs.declared.faults.Verdict.TheVariants.{Fine}
use Rattle.figpliers_program.proofs.Printing.{cut-as}
use Rattle.figpliers_program.proofs.commands.tree.Goals as goal

pub returns-in_err-write_tree : goal.returns-in_err-write_tree
returns-in_err-write_tree g c =
    let p = err_from_is_err_and c.from_residual.result c.from_residual.ensures.1 in
    rw (p.1, p.2) (inr (
      tree_lines c.args.forest.now c.document.result,
      Fine,
      (ap (tree_lines c.args.forest.now) c.document.ensures, refl),
      cut-as (Unit {0}) _ _ _ c.in_err-write_tree.field-0.0 c.in_err-write_tree.ensures.writes,
    ))

pub returns : goal.returns
returns g c = (
  tree_lines c.args.forest.now c.document.result,
  (ap (tree_lines c.args.forest.now) c.document.ensures, refl),
  c.in_ok-write_tree.ensures.writes,
)
