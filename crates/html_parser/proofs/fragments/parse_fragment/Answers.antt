use Rattle.std.proofs.Common.{◌∙◌, ap, refl, subst, sym}
use Rattle.std.specs.Prelude.{IfOk, IsSome}
use Rattle.markup.specs.Forest.{above_of, create_element, data_of, element_name}
use Rattle.html_tree_builder.specs.States.{answers_of, setting_of}
use Rattle.html_parser.specs.Documents.{Begins}
use Rattle.html_parser.proofs.FragmentsBegun.{flags_by, new-beginning, new-context, new-form, new-top}
use Rattle.html_parser.proofs.fragments.parse_fragment.Goals as goal

pub parse_fragment_for_element-requires-clause-top : goal.parse_fragment_for_element-requires-clause-top
parse_fragment_for_element-requires-clause-top g c =
    let sink = g.Sink.TreeSink in
    let f = sink.forest c.get_document.new.self in
    let top = ap (λ x. above_of x 0) c.get_document.ensures.same ∙ c.requires.top in
    ap (λ x. above_of x 0) c.in_ok-context.ensures.ok ∙ new-top f c.args.context_name c.args.context_attrs
    (flags_by c.args.context_name c.args.context_attrs) c.get_document.ensures.is_forest top

pub parse_fragment_for_element-requires-clause-context : goal.parse_fragment_for_element-requires-clause-context
parse_fragment_for_element-requires-clause-context g c =
    let sink = g.Sink.TreeSink in
    let f = sink.forest c.get_document.new.self in
    let flags = flags_by c.args.context_name c.args.context_attrs in
    let named =
    ap (λ x. element_name (data_of x (sink.node c.in_ok-context.context))) c.in_ok-context.ensures.ok
    ∙ (ap (λ k. element_name (data_of (create_element f c.args.context_name c.args.context_attrs flags) k)) c.in_ok-context.ensures.named
    ∙ new-context f c.args.context_name c.args.context_attrs flags c.get_document.ensures.is_forest) in
    subst (λ o. IsSome o) (sym named) refl

pub returns-clause-begins : goal.returns-clause-begins
returns-clause-begins g c =
    let sink = g.Sink.TreeSink in
    let setting = setting_of (answers_of sink.integration_point sink.allows_shadow_roots sink.attaches_shadow) c.args.opts.tree_builder in
    let same = new-beginning c.args.table c.args.opts.tokenizer setting c.args.context_name c.args.context_attrs
    c.args.scripting (sink.forest c.args.sink) (sink.forest c.get_document.new.self) _ _
    c.get_document.ensures.same c.get_document.ensures.is_forest c.in_ok-context.ensures.named c.in_ok-context.ensures.ok in
    subst (λ b. IfOk c.parse_fragment_for_element.result
    (λ parser. Begins sink b parser.has_failed parser.tokenizer parser.input_buffer)) same c.parse_fragment_for_element.ensures.begins

pub parse_fragment_for_element-requires-clause-form : goal.parse_fragment_for_element-requires-clause-form
parse_fragment_for_element-requires-clause-form g c =
    let sink = g.Sink.TreeSink in
    new-form c.args.opts.tree_builder.rules c.args.context_name c.args.context_attrs (sink.forest c.args.sink)
    (sink.forest c.get_document.new.self) _ _ c.get_document.ensures.same c.get_document.ensures.is_forest
    c.in_ok-context.ensures.named c.in_ok-context.ensures.ok c.requires.form
