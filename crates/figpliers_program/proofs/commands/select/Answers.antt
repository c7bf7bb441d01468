use Rattle.std.proofs.Common.{◌≡◌, Bool, false, inr, length, refl, true}
use Rattle.std.specs.Prelude.{if◌then◌else◌, not}
use Rattle.std.proofs.lemmas.Result.{err_from_is_err_and}
use Rattle.html_listings.specs.Selected.{selected_in, selected_text}
use Rattle.figpliers_program.specs.Pages.{verdict_on}
use Rattle.figpliers_program.specs.declared.faults.Verdict.TheVariants.{Fine, Nothing}
use Rattle.figpliers_program.proofs.Printing.{cut-as}
use Rattle.figpliers_program.proofs.commands.select.Goals as goal

-- an answer is yes, or no
not_both : (any : Bool) → any ≡ false → any ≡ true → ⊥
not_both false e k = cc
not_both true e k = cc

some_found : (none any : Bool) → any ≡ not none → any ≡ true → Fine ≡ (if none then Nothing else Fine)
some_found true any e k = absurd (not_both any e k)
some_found false any e k = refl

none_found : (none any : Bool) → any ≡ not none → any ≡ false → Nothing ≡ (if none then Nothing else Fine)
none_found true any e k = refl
none_found false any e k = absurd (not_both any k e)

pub returns-in_err-write_selected : goal.returns-in_err-write_selected
returns-in_err-write_selected g c =
    let p = err_from_is_err_and c.from_residual.result c.from_residual.ensures.1 in
    rw (p.1, p.2) (inr (
      selected_text c.args.show.now c.args.selectors.now c.args.forest.now c.args.name.now c.args.has_several,
      verdict_on (length (selected_in c.args.selectors.now c.args.forest.now)),
      (refl, refl),
      cut-as Bool _ _ _ c.in_err-write_selected.field-0.0 c.in_err-write_selected.ensures.writes,
    ))
