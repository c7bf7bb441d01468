use Rattle.std.proofs.lemmas.Result.{err_from_is_err_and}
use Rattle.html_extracts.proofs.Listing.{begun-all}
use Rattle.html_extracts.proofs.tree.LineWriterSerializer.start_elem.Goals as goal

pub returns-in_err-put_element-clause-answers : goal.returns-in_err-put_element-clause-answers
returns-in_err-put_element-clause-answers g c =
    let p = err_from_is_err_and c.from_residual.result c.from_residual.ensures.1 in
    rw (p.1, p.2) c.in_err-put_element.ensures.writes

pub returns-in_err-extend_from_slice-clause-answers : goal.returns-in_err-extend_from_slice-clause-answers
returns-in_err-extend_from_slice-clause-answers g c =
    let p = err_from_is_err_and c.from_residual-in_err-extend_from_slice.result c.from_residual-in_err-extend_from_slice.ensures.1 in
    rw (p.1, p.2) (begun-all _ _ _ c.in_ok-put_element.ensures.writes)
