use Rattle.markup.specs.declared.flags.ElementFlags.{ElementFlags}
use Rattle.markup.proofs.Forests.{IsMade-create_element}
use Rattle.html_forest_tests.proofs.rows.paragraph.Goals as goal

pub append-requires-clause-child : goal.append-requires-clause-child
append-requires-clause-child g c =
    let is = c.get_document-document.ensures.is_forest in
    let flags : ElementFlags = record c.default.result { template = c.is_html_name.result } in
    rw (c.in_ok-made.ensures.ok, c.in_ok-made.ensures.named, c.get_document-document.ensures.document)
    ((IsMade-create_element _ _ _ flags is).loose 0 is.document)
