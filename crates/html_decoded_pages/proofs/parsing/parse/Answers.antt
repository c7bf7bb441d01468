use Rattle.std.specs.Str.{chars}
use Rattle.std.specs.String.{string_bytes}
use Rattle.std.proofs.lemmas.Result.{err_from_is_err_and}
use Rattle.html_decoded_pages.proofs.Parsed.{parsed-read, reading-fault}
use Rattle.html_decoded_pages.proofs.parsing.parse.Goals as goal

pub returns-in_err-other-clause-fault : goal.returns-in_err-other-clause-fault
returns-in_err-other-clause-fault g c =
    let p = err_from_is_err_and c.from_residual-in_err-other.result c.from_residual-in_err-other.ensures.1 in
    let fails = rw c.in_err-other.was at c.read_in-answer.ensures.err in
    rw (p.1, p.2) (reading-fault g.Sink.TreeSink _ c.begin-tokenizer.result _ c.begin-tokenizer.ensures fails)

pub returns-clause-ok : goal.returns-clause-ok
returns-clause-ok g c =
    parsed-read g.Sink.TreeSink c.args.references c.args.exact.tokenizer (g.Sink.TreeSink.forest c.args.sink)
    (chars (string_bytes c.args.text)) c.args.encoding c.options.result.tokenizer c.options.result.tree_builder
    c.begin-tokenizer.result c.read_in-answer.new.tokenizer c.in_ok-input.input.characters c.read_in-answer.result
    c.in_ok-other.other c.sink_of-left.result c.outcome_of.result c.options.ensures.tokenizer c.options.ensures.tree_builder
    c.begin-tokenizer.ensures c.in_ok-input.ensures.ok c.read_in-answer.ensures.ok c.in_ok-other.was c.sink_of-left.ensures
    c.outcome_of.ensures
