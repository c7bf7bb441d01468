use Rattle.std.proofs.Common.{inr, refl}
use Rattle.std.proofs.lemmas.Result.{err_from_is_err_and}
use Rattle.html_listings.specs.Listings.{links_text}
use Rattle.figpliers_program.specs.declared.faults.Verdict.TheVariants.{Fine}
use Rattle.figpliers_program.proofs.Printing.{cut-as}
use Rattle.figpliers_program.proofs.commands.links.Goals as goal

pub returns-in_err-write_links : goal.returns-in_err-write_links
returns-in_err-write_links g c =
    let p = err_from_is_err_and c.from_residual.result c.from_residual.ensures.1 in
    rw (p.1, p.2) (inr (
      links_text c.args.listing.now c.args.forest.now c.args.name.now c.args.has_several,
      Fine,
      (refl, refl),
      cut-as (Unit {0}) _ _ _ c.in_err-write_links.field-0.0 c.in_err-write_links.ensures,
    ))

pub returns : goal.returns
returns g c = (
  links_text c.args.listing.now c.args.forest.now c.args.name.now c.args.has_several,
  (refl, refl),
  c.in_ok-write_links.ensures,
)
