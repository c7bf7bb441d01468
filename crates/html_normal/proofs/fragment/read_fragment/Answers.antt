use Rattle.std.proofs.Common.{◌≡◌, [], None, codes, rules, subst, sym}
use Rattle.std.specs.Prelude.{IfSome}
use Rattle.std.proofs.lemmas.Result.{err_from_is_err_and}
use Rattle.markup.specs.Forest.{Forest}
use Rattle.html_parser.specs.Documents.{new_context}
use Rattle.html_rules.specs.Documents.{form_of_context}
use Rattle.html_rules.specs.Names.{Html, element_name_of}
use Rattle.html_normal.specs.Document.{forest_answers}
use Rattle.html_normal.proofs.Fragments.{fragment-made}
use Rattle.html_normal.proofs.Meanings.{counts-any, finish-fault, none-refused, not-refused}
use Rattle.html_tree_builder.specs.States.{setting_of}
use Rattle.html_normal.proofs.fragment.read_fragment.Goals as goal

pub returns-in_err-read_into-clause-err : goal.returns-in_err-read_into-clause-err
returns-in_err-read_into-clause-err g c =
    let p = err_from_is_err_and c.from_residual-in_err-read_into.result c.from_residual-in_err-read_into.ensures.1 in
    let begins = c.in_ok-parser.ensures.begins in
    rw (p.1, p.2) (not-refused _ c.in_err-read_into.field-0.0 _ _
    (none-refused _ _ _ begins.starts.read begins.taken) c.in_err-read_into.ensures.err)

pub returns-in_err-read_into-clause-counted : goal.returns-in_err-read_into-clause-counted
returns-in_err-read_into-clause-counted g c =
    let p = err_from_is_err_and c.from_residual-in_err-read_into.result c.from_residual-in_err-read_into.ensures.1 in
    rw (p.1, p.2) (counts-any (Unit {0}) Forest c.in_err-read_into.field-0.0 _ _ _ _ c.in_err-read_into.ensures.counted)

pub returns-in_err-finish-clause-err : goal.returns-in_err-finish-clause-err
returns-in_err-finish-clause-err g c =
    let p = err_from_is_err_and c.from_residual-in_err-finish.result c.from_residual-in_err-finish.ensures.1 in
    let begins = c.in_ok-parser.ensures.begins in
    let read = c.in_ok-read_into.ensures.ok.reads.reads _ [] begins.starts.read in
    let fails = rw c.in_ok-read_into.ensures.rest.free at c.in_err-finish.ensures.gives in
    rw (p.1, p.2) (finish-fault _ c.in_err-finish.field-0.0 _ _ _ _ _ read begins.taken fails)

pub returns-clause-ok : goal.returns-clause-ok
returns-clause-ok g c =
    let begins = c.in_ok-parser.ensures.begins in
    let all = c.in_ok-read_into.ensures.ok in
    let read = all.reads.reads _ [] begins.starts.read in
    let gives = rw c.in_ok-read_into.ensures.rest.free at c.in_ok-finish.ensures.gives in
    fragment-made _ _ c.args.exact.tokenizer c.args.context c.options.result.tokenizer
    (setting_of forest_answers c.options.result.tree_builder) _ c.in_ok-forest.forest _ _ all.bytes
    c.read_into.new.parser.input_buffer.characters _ (λ sink is. is) c.options.ensures.tokenizer
    c.options.ensures.tree_builder (search rules) c.in_ok-forest.ensures.ok
    c.in_ok-read_into.ensures.rest.empty all.text all.moved all.end (gives _ _ read)

pub parse_fragment-requires-clause-form : goal.parse_fragment-requires-clause-form
parse_fragment-requires-clause-form g c =
    subst (λ r. IfSome (form_of_context r (new_context r c.args.context c.in_ok-forest.forest) None)
    (λ n. c.args.context ≡ element_name_of Html (codes "form"))) (sym c.options.ensures.rules) tt
