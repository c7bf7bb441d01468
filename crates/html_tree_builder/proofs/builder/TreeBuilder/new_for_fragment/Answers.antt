use Rattle.std.proofs.Common.{◌≡◌, ◌∙◌, Some, ap, codes, refl, subst, sym}
use Rattle.std.specs.Prelude.{IfSome, IsSome}
use Rattle.markup.specs.Forest.{above_of, data_of, element_name}
use Rattle.html_rules.specs.Documents.{before_fragment, form_of_context}
use Rattle.html_rules.specs.Names.{Html, element_name_of}
use Rattle.html_stack.specs.Stacks.{open_of}
use Rattle.html_tree_builder.specs.States.{built, context_in, number_if, setting_of}
use Rattle.html_tree_builder.proofs.Acted.{its_answers}
use Rattle.html_tree_builder.proofs.BuildersBegun.{form-node, fragment-usable}
use Rattle.html_tree_builder.proofs.builder.TreeBuilder.new_for_fragment.Goals as goal

pub for_fragment-requires-clause-form : goal.for_fragment-requires-clause-form
for_fragment-requires-clause-form g c =
    let rules = c.args.opts.rules in
    let n = g.Sink.TreeSink.node c.args.context in
    let form = number_if g.Sink.TreeSink.node c.args.form in
    let f = g.Sink.TreeSink.forest c.get_document.new.self in
    form-node f f (form_of_context rules (open_of g.Sink.TreeSink.node c.in_ok-context.context) form) refl
    (subst (λ context. IfSome (form_of_context rules context form)
    (λ n. element_name (data_of f n) ≡ Some (element_name_of Html (codes "form")))) (sym c.in_ok-context.ensures.ok)
    (subst (λ x. IfSome (form_of_context rules (context_in rules x n) form)
    (λ n. element_name (data_of x n) ≡ Some (element_name_of Html (codes "form")))) (sym c.get_document.ensures.same) c.requires.form))

pub returns-clause-begun : goal.returns-clause-begun
returns-clause-begun g c =
    let a = its_answers g.Sink.TreeSink in
    let setting = setting_of a c.args.opts in
    let n = g.Sink.TreeSink.node c.args.context in
    let form = number_if g.Sink.TreeSink.node c.args.form in
    let f = g.Sink.TreeSink.forest c.get_document.new.self in
    c.in_ok-construction.ensures.ok a
    ∙ ap (λ context. before_fragment setting context form f) c.in_ok-context.ensures.ok
    ∙ ap (λ x. before_fragment setting (context_in c.args.opts.rules x n) form x) c.get_document.ensures.same

pub returns-clause-usable : goal.returns-clause-usable
returns-clause-usable g c =
    let a = its_answers g.Sink.TreeSink in
    let setting = setting_of a c.args.opts in
    let n = g.Sink.TreeSink.node c.args.context in
    let form = number_if g.Sink.TreeSink.node c.args.form in
    let f = g.Sink.TreeSink.forest c.get_document.new.self in
    let r = g.Sink.TreeSink.forest c.for_fragment.new.sink in
    fragment-usable setting n form (g.Sink.TreeSink.forest c.args.sink) f
    (built g.Sink.TreeSink c.in_ok-construction.construction r) c.get_document.ensures.same
    c.get_document.ensures.is_forest c.get_document.ensures.contents
    c.requires.top c.requires.context c.requires.form
    (c.in_ok-construction.ensures.ok a ∙ ap (λ context. before_fragment setting context form f) c.in_ok-context.ensures.ok)

pub context_of-requires : goal.context_of-requires
context_of-requires g c = subst (λ f. IsSome (element_name (data_of f (g.Sink.TreeSink.node c.args.context))))
    (sym c.get_document.ensures.same) c.requires.context

pub for_fragment-requires-clause-tree : goal.for_fragment-requires-clause-tree
for_fragment-requires-clause-tree g c = record { forest = c.get_document.ensures.is_forest; contents = c.get_document.ensures.contents }

pub for_fragment-requires-clause-top : goal.for_fragment-requires-clause-top
for_fragment-requires-clause-top g c = ap (λ f. above_of f 0) c.get_document.ensures.same ∙ c.requires.top
