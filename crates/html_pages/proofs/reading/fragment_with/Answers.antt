use Rattle.std.proofs.Common.{◌≡◌, ◌∙◌, ℕ, List, None, ap, codes, subst, sym}
use Rattle.std.specs.Prelude.{IfSome}
use Rattle.std.specs.Str.{chars}
use Rattle.std.specs.String.{string_bytes}
use Rattle.markup.specs.declared.names.QualName.{QualName}
use Rattle.html_normal.specs.Document.{forest_answers}
use Rattle.html_parser.specs.Documents.{new_context}
use Rattle.html_rules.specs.Documents.{form_of_context}
use Rattle.html_rules.specs.Names.{Html, element_name_of}
use Rattle.html_tree_builder.specs.States.{setting_of}
use Rattle.html_pages.specs.Pages.{IsFragmentBy, html_name}
use Rattle.html_pages.proofs.Contexts.{form-named}
use Rattle.html_pages.proofs.Parsed.{fragment-made, on-err, on-ok}
use Rattle.html_pages.proofs.reading.fragment_with.Goals as goal

abbrev named : List ℕ → List ℕ → QualName
named ns local = record { prefix = None; ns = ns; local = local }

pub returns-clause-ok : goal.returns-clause-ok
returns-clause-ok c =
    let name_is : c.new-name.result ≡ html_name (chars c.args.context.now) =
    c.new-name.ensures ∙ (ap (λ (ns : List ℕ). named ns c.in_ok-local.local) c.from_known-html.ensures
    ∙ ap (named _) c.in_ok-local.ensures.ok) in
    on-ok c.whole.result c.whole.ensures.ok
    (λ out built. subst (λ (n : QualName). IsFragmentBy c.args.rules c.args.references n (chars (string_bytes c.args.text)) out) name_is
    (fragment-made _ (λ sink made is. is) c.args.rules c.args.references c.fragment_options.result.tokenizer
    (setting_of forest_answers c.fragment_options.result.tree_builder) c.in_ok-forest.forest c.new-name.result
    c.new-2.result (chars (string_bytes c.args.text)) out
    c.fragment_options.ensures.tokenizer c.fragment_options.ensures.tree_builder c.in_ok-forest.ensures.ok c.new-2.ensures
    (built _ c.in_ok-parser.ensures.begins)))

pub returns-clause-fault : goal.returns-clause-fault
returns-clause-fault c = on-err c.whole.result c.whole.ensures.fault (λ fault h. h _ c.in_ok-parser.ensures.begins)

pub parse_fragment-requires-clause-form : goal.parse_fragment-requires-clause-form
parse_fragment-requires-clause-form c =
    let name_is : c.new-name.result ≡ html_name (chars c.args.context.now) =
    c.new-name.ensures ∙ (ap (λ (ns : List ℕ). named ns c.in_ok-local.local) c.from_known-html.ensures
    ∙ ap (named _) c.in_ok-local.ensures.ok) in
    subst (λ r. IfSome (form_of_context r (new_context r c.new-name.result c.in_ok-forest.forest) None)
    (λ n. c.new-name.result ≡ element_name_of Html (codes "form"))) (sym c.fragment_options.ensures.rules)
    (subst (λ (name : QualName). IfSome (form_of_context c.args.rules (new_context c.args.rules name c.in_ok-forest.forest) None)
    (λ n. name ≡ element_name_of Html (codes "form"))) (sym name_is)
    (form-named c.args.rules (chars c.args.context.now) c.in_ok-forest.forest))
