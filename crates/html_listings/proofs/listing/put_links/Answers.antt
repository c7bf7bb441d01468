use Rattle.std.proofs.lemmas.Result.{err_from_is_err_and}
use Rattle.std.specs.String.{string_bytes}
use Rattle.html_listings.specs.Listings.{line_of}
use Rattle.html_listings.proofs.Pieces.{until}
use Rattle.html_listings.proofs.listing.put_links.Goals as goal

pub returns-in_err-put_link : goal.returns-in_err-put_link
returns-in_err-put_link g c =
    let page = c.args.page.now in
    let p = err_from_is_err_and c.from_residual.result c.from_residual.ensures.1 in
    rw (p.1, p.2) (until (line_of c.args.listing.now page.forest.now page.name.now (string_bytes page.prefix) page.base) c.args.links.now
    c.loop-link.link-index c.link-item.result c.link-item.result _ _ _ c.in_err-put_link.field-0.0 c.loop-link-test.true c.link-item.is
    c.loop-link.invariant c.in_err-put_link.ensures)
