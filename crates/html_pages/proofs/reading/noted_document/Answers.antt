use Rattle.std.proofs.lemmas.Str.{IsUtf8-string_bytes}
use Rattle.std.proofs.Common.{◌∙◌, ℕ, List, ap}
use Rattle.std.specs.List.{list_any}
use Rattle.std.specs.Str.{chars}
use Rattle.html_tokens.specs.Forbidden.{is_forbidden}
use Rattle.std.specs.String.{string_bytes}
use Rattle.std.proofs.lemmas.Result.{err_from_is_err_and}
use Rattle.html_normal.specs.Document.{forest_answers}
use Rattle.html_rules.specs.declared.rules.Rules.TheVariants.{Html5ever}
use Rattle.html_tree_builder.specs.States.{setting_of}
use Rattle.html_places.specs.declared.noted.NotedForest.{NotedForest}
use Rattle.html_pages.proofs.Emitted.{page-of-all}
use Rattle.html_pages.proofs.Parsed.{page-made}
use Rattle.html_pages.proofs.Takings.{is-free}
use Rattle.html_pages.proofs.reading.noted_document.Goals as goal

pub whole_in_pieces-requires-clause-free : goal.whole_in_pieces-requires-clause-free
whole_in_pieces-requires-clause-free c = is-free _ _ c.in_ok-parser.parser c.in_ok-parser.ensures.begins

pub returns-in_err-built-clause-fault : goal.returns-in_err-built-clause-fault
returns-in_err-built-clause-fault c =
    let p = err_from_is_err_and c.from_residual-in_err-built.result c.from_residual-in_err-built.ensures.1 in
    rw (p.1, p.2) (c.in_err-built.ensures.fault _ c.in_ok-parser.ensures.begins)

pub returns-clause-ok : goal.returns-clause-ok
returns-clause-ok c =
    let text = c.as_str-text.ensures.value in
    let built = rw (c.new-pieces.ensures.rest, text) at c.in_ok-built.ensures.ok in
    rw c.in_ok-made.ensures.forest
    (page-of-all c.args.references c.exact_for-exact.result.tokenizer (string_bytes c.args.page) c.in_ok-built.built.forest
    (c.exact_for-exact.ensures.tokenizer ∙ ap (λ (bytes : List ℕ). list_any is_forbidden (chars bytes)) text)
    (page-made _ (λ (n : NotedForest). n.forest) (λ sink made is. ap (λ (n : NotedForest). n.forest) is)
    Html5ever c.args.references c.exact_for-exact.result.tokenizer c.options.result.tokenizer
    (setting_of forest_answers c.options.result.tree_builder) c.in_ok-sink.sink.forest (string_bytes c.args.page) c.in_ok-built.built
    c.options.ensures.tokenizer c.options.ensures.tree_builder c.in_ok-sink.ensures.ok
    (IsUtf8-string_bytes c.args.page) (built _ c.in_ok-parser.ensures.begins)))

pub returns-clause-places : goal.returns-clause-places
returns-clause-places c = rw (c.whole_in_pieces.ensures.text, c.new-pieces.ensures.text, c.as_str-text.ensures.value) at
    c.in_ok-made.ensures.placed
