use Rattle.std.proofs.lemmas.Result.{err_from_is_err_and}
use Rattle.html_pages.proofs.Parsed.{whole-built, whole-failed}
use Rattle.html_pages.proofs.reading.whole.Goals as goal

pub returns-in_err-one-clause-fault : goal.returns-in_err-one-clause-fault
returns-in_err-one-clause-fault g c =
    let p = err_from_is_err_and c.from_residual.result c.from_residual.ensures.1 in
    rw (p.1, p.2) (λ begin begins. whole-failed g.Sink.TreeSink begin c.args.parser.has_failed
    c.args.parser.tokenizer c.args.parser.input_buffer begins _ c.in_err-one.field-0.0 c.in_err-one.ensures.gives)

pub returns-clause-ok : goal.returns-clause-ok
returns-clause-ok g c = λ begin begins. whole-built g.Sink.TreeSink begin c.args.parser.has_failed
    c.args.parser.tokenizer c.args.parser.input_buffer begins _ _ c.in_ok-one.ensures.gives
