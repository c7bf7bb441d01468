use Rattle.std.proofs.lemmas.Str.{IsUtf8-string_bytes}
use Rattle.std.proofs.Common.{false}
use Rattle.std.specs.String.{string_bytes}
use Rattle.html_normal.specs.Document.{forest_answers}
use Rattle.html_tree_builder.specs.States.{setting_of}
use Rattle.html_pages.proofs.Parsed.{on-err, on-ok, page-made}
use Rattle.html_pages.proofs.reading.document_with.Goals as goal

pub returns-clause-ok : goal.returns-clause-ok
returns-clause-ok c =
    on-ok c.whole.result c.whole.ensures.ok
    (λ out built. page-made _ (λ f. f) (λ sink made is. is) c.args.rules c.args.references false c.options_with.result.tokenizer
    (setting_of forest_answers c.options_with.result.tree_builder) c.in_ok-forest.forest (string_bytes c.args.page) out
    c.options_with.ensures.tokenizer c.options_with.ensures.tree_builder c.in_ok-forest.ensures.ok
    (IsUtf8-string_bytes c.args.page) (built _ c.in_ok-parser.ensures.begins))

pub returns-clause-fault : goal.returns-clause-fault
returns-clause-fault c = on-err c.whole.result c.whole.ensures.fault (λ fault h. h _ c.in_ok-parser.ensures.begins)
