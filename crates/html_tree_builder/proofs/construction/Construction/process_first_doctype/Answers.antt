use Rattle.std.proofs.Common.{◌∙◌, ap}
use Rattle.html_tree_builder.specs.States.{state_of}
use Rattle.html_tree_builder.proofs.DoctypesTaken.{first-doctype}
use Rattle.html_tree_builder.proofs.construction.Construction.process_first_doctype.Goals as goal

pub returns-clause-ok : goal.returns-clause-ok
returns-clause-ok g c = λ a.
    let f = g.Sink.TreeSink.forest c.set_quirks_mode.new.sink in
    let s = state_of a c.args.self.now (g.Sink.TreeSink.forest c.args.sink.now) in
    let told = state_of a c.args.self.now (g.Sink.TreeSink.forest c.report_doctype.new.sink) in
    let put = state_of a c.append_doctype.new.self (g.Sink.TreeSink.forest c.append_doctype.new.sink) in
    let laid = state_of a c.set_quirks_mode.new.self f in
    let judged = c.doctype_error_and_quirks-is_error.result in
    first-doctype c.args.doctype s told put laid (state_of a c.set_mode.new.self f) judged.0 c.self.inside.opts.iframe_srcdoc
    c.rules.result judged.1
    c.doctype_error_and_quirks-is_error.ensures.error (c.report_doctype.ensures.state a) (c.in_ok-append_doctype.ensures.ok a)
    (ap (λ b. b.opts.iframe_srcdoc) c.self.view_is) (c.rules.ensures ∙ ap (λ b. b.stack.rules) c.self.view_is)
    c.doctype_error_and_quirks-is_error.ensures.quirks
    (c.set_quirks_mode.ensures a) (c.set_mode.ensures a f)

pub append_doctype-requires : goal.append_doctype-requires
append_doctype-requires g c = record { stands = c.report_doctype.ensures.stands c.requires.stands }
