use Rattle.std.proofs.Common.{[]}
use Rattle.std.proofs.lemmas.Result.{err_from_is_err_and}
use Rattle.markup.specs.Forest.{Forest}
use Rattle.html_normal.specs.Document.{forest_answers}
use Rattle.html_normal.proofs.Meanings.{counts-any, document-made, finish-fault, none-refused, not-refused}
use Rattle.html_tree_builder.specs.States.{setting_of}
use Rattle.html_normal.proofs.document.read_document_with.Goals as goal

pub returns-in_err-read_into-clause-err : goal.returns-in_err-read_into-clause-err
returns-in_err-read_into-clause-err g c =
    let p = err_from_is_err_and c.from_residual-in_err-read_into.result c.from_residual-in_err-read_into.ensures.1 in
    let begins = c.in_ok-parser.ensures.begins in
    rw (p.1, p.2) (not-refused _ c.in_err-read_into.field-0.0 _ _
    (none-refused _ _ _ begins.starts.read begins.taken) c.in_err-read_into.ensures.err)

pub returns-in_err-read_into-clause-counted : goal.returns-in_err-read_into-clause-counted
returns-in_err-read_into-clause-counted g c =
    let p = err_from_is_err_and c.from_residual-in_err-read_into.result c.from_residual-in_err-read_into.ensures.1 in
    rw (p.1, p.2) (counts-any (Unit {0}) Forest c.in_err-read_into.field-0.0 _ _ _ _ c.in_err-read_into.ensures.counted)

pub returns-in_err-finish-clause-err : goal.returns-in_err-finish-clause-err
returns-in_err-finish-clause-err g c =
    let p = err_from_is_err_and c.from_residual-in_err-finish.result c.from_residual-in_err-finish.ensures.1 in
    let begins = c.in_ok-parser.ensures.begins in
    let read = c.in_ok-read_into.ensures.ok.reads.reads _ [] begins.starts.read in
    let fails = rw c.in_ok-read_into.ensures.rest.free at c.in_err-finish.ensures.gives in
    rw (p.1, p.2) (finish-fault _ c.in_err-finish.field-0.0 _ _ _ _ _ read begins.taken fails)

pub returns-clause-ok : goal.returns-clause-ok
returns-clause-ok g c =
    let begins = c.in_ok-parser.ensures.begins in
    let all = c.in_ok-read_into.ensures.ok in
    let read = all.reads.reads _ [] begins.starts.read in
    let gives = rw c.in_ok-read_into.ensures.rest.free at c.in_ok-finish.ensures.gives in
    document-made _ c.args.rules _ c.args.exact.tokenizer c.options_with.result.tokenizer
    (setting_of forest_answers c.options_with.result.tree_builder) c.in_ok-forest.forest _ _ all.bytes
    c.read_into.new.parser.input_buffer.characters _ (λ sink is. is) c.options_with.ensures.tokenizer
    c.options_with.ensures.tree_builder c.in_ok-forest.ensures.ok
    c.in_ok-read_into.ensures.rest.empty all.text all.moved all.end (gives _ _ read)
