use Rattle.std.proofs.Common.{false}
use Rattle.html_rules.specs.Names.{flags_of, namespace_of}
use Rattle.html_parser_tests.proofs.Forms.{form-name, named-behind, top-behind}
use Rattle.html_parser_tests.proofs.calls.new_form.Goals as goal

pub returns-clause-top : goal.returns-clause-top
returns-clause-top g c =
    let sink = g.Sink.TreeSink in
    top-behind c.new-name.result c.new-attributes.result
    (flags_of (namespace_of c.new-name.result.ns) c.new-name.result.local c.new-attributes.result false)
    c.create_element.result (sink.forest c.args.sink.now) (sink.forest c.get_document.new.self) (sink.forest c.create_element.new.sink)
    c.get_document.ensures.same c.get_document.ensures.is_forest c.requires c.create_element.ensures.ok

pub returns-clause-named : goal.returns-clause-named
returns-clause-named g c =
    let sink = g.Sink.TreeSink in
    named-behind c.new-name.result c.new-attributes.result
    (flags_of (namespace_of c.new-name.result.ns) c.new-name.result.local c.new-attributes.result false)
    sink.node c.create_element.result (sink.forest c.get_document.new.self) (sink.forest c.create_element.new.sink)
    c.get_document.ensures.is_forest c.create_element.ensures.named c.create_element.ensures.ok
    (form-name c.from_known-ns.result c.in_ok-local.local c.new-name.result c.new-name.ensures
    c.from_known-ns.ensures c.in_ok-local.ensures.ok)
