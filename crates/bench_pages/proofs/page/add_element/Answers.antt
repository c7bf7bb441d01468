use Rattle.std.proofs.Common.{false}
use Rattle.markup.specs.declared.flags.ElementFlags.{ElementFlags}
use Rattle.markup.proofs.Forests.{IsMade-create_element}
use Rattle.bench_pages.proofs.page.add_element.Goals as goal

-- A new element stands nowhere, so it may be put into the document.
pub append-requires-clause-child : goal.append-requires-clause-child
append-requires-clause-child c =
    let flags : ElementFlags = record {
      template = false;
      mathml_annotation_xml_integration_point = false;
      had_duplicate_attributes = false;
    } in
    let made = IsMade-create_element c.get_document-before.new.self c.in_ok-name.name c.in_ok-attributes.attributes
    flags c.get_document-before.ensures.is_forest in
    rw (
      c.get_document-document.ensures.same,
      c.in_ok-element.ensures.ok,
      c.get_document-document.ensures.document,
      c.in_ok-element.ensures.named,
    )
    (made.loose 0 c.get_document-before.ensures.is_forest.document)
