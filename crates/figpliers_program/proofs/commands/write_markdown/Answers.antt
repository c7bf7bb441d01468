use Rattle.std.proofs.Common.{inl, inr, refl}
use Rattle.std.proofs.lemmas.Result.{err_from_is_err_and}
use Rattle.figpliers_program.specs.declared.faults.Verdict.TheVariants.{Fine}
use Rattle.figpliers_program.proofs.commands.write_markdown.Goals as goal

pub returns-in_err-text : goal.returns-in_err-text
returns-in_err-text g c =
    let p = err_from_is_err_and c.from_residual.result c.from_residual.ensures.1 in
    rw (p.1, p.2) (inl (refl, refl))

pub returns-in_err-put : goal.returns-in_err-put
returns-in_err-put g c =
    let p = err_from_is_err_and c.from_residual-in_err-put.result c.from_residual-in_err-put.ensures.1 in
    rw (p.1, p.2) (inr (c.as_str.result.now, Fine, refl, c.in_err-put.ensures.prints))

pub returns : goal.returns
returns g c = (c.as_str.result.now, refl, c.in_ok-put.ensures.prints)
