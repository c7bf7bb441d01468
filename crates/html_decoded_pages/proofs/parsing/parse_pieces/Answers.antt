use Rattle.std.proofs.Common.{refl}
use Rattle.std.specs.Str.{chars}
use Rattle.std.proofs.lemmas.Result.{err_from_is_err_and}
use Rattle.html_decoded_pages.proofs.Parsed.{parsed-read, reading-fault}
use Rattle.html_decoded_pages.proofs.parsing.parse_pieces.Goals as goal

pub returns-in_err-other-clause-fault : goal.returns-in_err-other-clause-fault
returns-in_err-other-clause-fault g c =
    let p = err_from_is_err_and c.from_residual.result c.from_residual.ensures.1 in
    let fails = rw c.in_err-other.was at c.read_pieces_in-answer.ensures.err in
    rw (p.1, p.2) (reading-fault g.Sink.TreeSink _ c.begin-tokenizer.result _ c.begin-tokenizer.ensures fails)

pub returns-clause-ok : goal.returns-clause-ok
returns-clause-ok g c =
    parsed-read g.Sink.TreeSink c.args.references c.args.exact.tokenizer (g.Sink.TreeSink.forest c.args.sink)
    (chars c.args.pieces.now.rest.now) c.args.encoding c.options.result.tokenizer c.options.result.tree_builder
    c.begin-tokenizer.result c.read_pieces_in-answer.new.tokenizer (chars c.args.pieces.now.rest.now) c.read_pieces_in-answer.result
    c.in_ok-other.other c.sink_of-left.result c.outcome_of.result c.options.ensures.tokenizer c.options.ensures.tree_builder
    c.begin-tokenizer.ensures refl c.read_pieces_in-answer.ensures.ok c.in_ok-other.was c.sink_of-left.ensures
    c.outcome_of.ensures
