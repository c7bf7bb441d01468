use Rattle.std.proofs.Common.{◌≡◌, ◌∙◌, Some, ap, refl, subst, sym}
use Rattle.std.specs.Prelude.{IfSome, IsSome, codes}
use Rattle.markup.specs.Forest.{above_of, data_of, element_name}
use Rattle.markup.specs.Named.{IsTree}
use Rattle.html_tokens.specs.TextState.{is_text_state}
use Rattle.html_rules.specs.Documents.{form_of_context, tokenizer_state}
use Rattle.html_rules.specs.Names.{Html, element_name_of}
use Rattle.html_tree_builder.specs.States.{answers_of, context_in, number_if, setting_of}
use Rattle.html_parser.proofs.FragmentsBegun.{begun-context, fragment-begins, of-context, state-text}
use Rattle.html_parser.proofs.fragments.parse_fragment_for_element.Goals as goal

pub new_for_fragment-requires-clause-top : goal.new_for_fragment-requires-clause-top
new_for_fragment-requires-clause-top g c = ap (λ f. above_of f 0) c.get_document.ensures.same ∙ c.requires.top

pub new_for_fragment-requires-clause-context : goal.new_for_fragment-requires-clause-context
new_for_fragment-requires-clause-context g c =
    subst (λ f. IsSome (element_name (data_of f (g.Sink.TreeSink.node c.args.context))))
    (sym c.get_document.ensures.same) c.requires.context

pub new_for_fragment-requires-clause-form : goal.new_for_fragment-requires-clause-form
new_for_fragment-requires-clause-form g c =
    subst (λ f. IfSome (form_of_context c.args.opts.tree_builder.rules
    (context_in c.args.opts.tree_builder.rules f (g.Sink.TreeSink.node c.args.context)) (number_if g.Sink.TreeSink.node c.args.form))
    (λ n. element_name (data_of f n) ≡ Some (element_name_of Html (codes "form")))) (sym c.get_document.ensures.same) c.requires.form

pub tokenizer_state_for_context_elem-state-requires : goal.tokenizer_state_for_context_elem-state-requires
tokenizer_state_for_context_elem-state-requires g c =
    let sink = g.Sink.TreeSink in
    let setting = setting_of (answers_of sink.integration_point sink.allows_shadow_roots sink.attaches_shadow) c.args.opts.tree_builder in
    let f = sink.forest c.get_document.new.self in
    let e = begun-context setting (context_in c.args.opts.tree_builder.rules f (sink.node c.args.context))
    (number_if sink.node c.args.form) f _
    c.in_ok-builder.ensures.begun in
    subst (λ o. IsSome o) (sym e) refl

pub over-requires-clause-text : goal.over-requires-clause-text
over-requires-clause-text g c =
    let sink = g.Sink.TreeSink in
    let setting = setting_of (answers_of sink.integration_point sink.allows_shadow_roots sink.attaches_shadow) c.args.opts.tree_builder in
    let f = sink.forest c.get_document.new.self in
    let context = context_in c.args.opts.tree_builder.rules f (sink.node c.args.context) in
    let e = begun-context setting context (number_if sink.node c.args.form) f _ c.in_ok-builder.ensures.begun in
    let is = of-context _ context (λ x. c.tokenizer_state_for_context_elem-state.result ≡ tokenizer_state x
    c.args.scripting) e c.tokenizer_state_for_context_elem-state.ensures in
    ap is_text_state is ∙ state-text context c.args.scripting

pub returns-clause-begins : goal.returns-clause-begins
returns-clause-begins g c =
    let sink = g.Sink.TreeSink in
    let setting = setting_of (answers_of sink.integration_point sink.allows_shadow_roots sink.attaches_shadow) c.args.opts.tree_builder in
    let f = sink.forest c.get_document.new.self in
    let context = context_in c.args.opts.tree_builder.rules f (sink.node c.args.context) in
    let e = begun-context setting context (number_if sink.node c.args.form) f _ c.in_ok-builder.ensures.begun in
    let is = of-context _ context (λ x. c.tokenizer_state_for_context_elem-state.result ≡ tokenizer_state x
    c.args.scripting) e c.tokenizer_state_for_context_elem-state.ensures in
    let tree : IsTree f = record { forest = c.get_document.ensures.is_forest; contents = c.get_document.ensures.contents } in
    fragment-begins sink c.args.table c.args.opts.tokenizer setting (sink.node c.args.context)
    (number_if sink.node c.args.form) c.args.scripting (sink.forest c.args.sink) f
    _ _ c.over.result.has_failed c.over.result.tokenizer c.over.result.input_buffer
    c.each_text_has_a_document.ensures c.get_document.ensures.same tree c.requires.top c.requires.form
    c.in_ok-builder.ensures.begun is c.over.ensures
