use Rattle.std.proofs.Common.{inl, inr, refl}
use Rattle.std.proofs.lemmas.Result.{err_from_is_err_and}
use Rattle.std.specs.String.{string_bytes}
use Rattle.figpliers_program.specs.Pages.{ended}
use Rattle.figpliers_program.specs.declared.faults.Verdict.TheVariants.{Fine}
use Rattle.figpliers_program.proofs.Texts.{rendered}
use Rattle.figpliers_program.proofs.commands.text.Goals as goal

pub returns-in_err-text : goal.returns-in_err-text
returns-in_err-text g c =
    let p = err_from_is_err_and c.from_residual.result c.from_residual.ensures.1 in
    rw (p.1, p.2) (inl (refl, refl))

pub returns-in_err-put_ended : goal.returns-in_err-put_ended
returns-in_err-put_ended g c =
    let p = err_from_is_err_and c.from_residual-in_err-put_ended.result c.from_residual-in_err-put_ended.ensures.1 in
    rw (p.1, p.2) (inr (
      ended (string_bytes c.in_ok-text.text),
      Fine,
      rendered c.args.forest.now _ (string_bytes c.in_ok-text.text) c.document.ensures c.in_ok-text.ensures.ok,
      rw c.as_str.ensures.value at c.in_err-put_ended.ensures,
    ))

pub returns : goal.returns
returns g c = (
  ended (string_bytes c.in_ok-text.text),
  rendered c.args.forest.now _ (string_bytes c.in_ok-text.text) c.document.ensures c.in_ok-text.ensures.ok,
  rw c.as_str.ensures.value at c.in_ok-put_ended.ensures,
)
