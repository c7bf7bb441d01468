use Rattle.std.proofs.lemmas.Result.{err_from_is_err_and}
use Rattle.std.specs.String.{string_bytes}
use Rattle.html_listings.specs.Selected.{element_text}
use Rattle.html_listings.proofs.Pieces.{until}
use Rattle.html_listings.proofs.selected.put_elements.Goals as goal

pub returns-in_err-put_element : goal.returns-in_err-put_element
returns-in_err-put_element g c =
    let page = c.args.page.now in
    let p = err_from_is_err_and c.from_residual.result c.from_residual.ensures.1 in
    rw (p.1, p.2) (until (element_text c.args.show.now page.forest.now page.file.now (string_bytes page.prefix)) c.args.found.now
    c.loop-id.id-index c.id-item.result c.id-item.result _ _ _ c.in_err-put_element.field-0.0 c.loop-id-test.true c.id-item.is
    c.loop-id.invariant c.in_err-put_element.ensures)
