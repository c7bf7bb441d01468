use Rattle.std.proofs.lemmas.Result.{err_from_is_err_and}
use Rattle.html_extracts.proofs.Listing.{begun-nothing}
use Rattle.html_listings.proofs.selected.put_count.Goals as goal

pub returns-in_err-line-in-Count : goal.returns-in_err-line-in-Count
returns-in_err-line-in-Count g c =
    let p = err_from_is_err_and c.from_residual.result c.from_residual.ensures.1 in
    rw (p.1, p.2) (begun-nothing _ _)
