-- The refusal of an error is the sink's.
use Rattle.std.proofs.lemmas.Result.{err_from_is_err_and}
use Rattle.html_tokens.specs.declared.token.Token.TheVariants.{ParseError}
use Rattle.html_tokens.proofs.TextPieces.{error-refused, given-refused}
use Rattle.html_tokens.proofs.pieces.report_error.Goals as goal

pub returns-in_err-process_token-clause-refused : goal.returns-in_err-process_token-clause-refused
returns-in_err-process_token-clause-refused g c =
    let T = g.S.TokenSink in
    let p = err_from_is_err_and c.from_residual.result c.from_residual.ensures.1 in
    rw (p.1, p.2)
    (error-refused T.is_sound T.step T.ended T.is_quiet g.met.S.TokenSink.laws T.number (T.view c.args.sink.now)
    c.requires (ParseError c.args.words) tt c.args.line_number
    c.in_err-process_token.field-0.0 (T.view c.process_token.new.self) c.in_err-process_token.ensures.gives)

pub returns-in_err-process_token-clause-refusal : goal.returns-in_err-process_token-clause-refusal
returns-in_err-process_token-clause-refusal g c =
    let T = g.S.TokenSink in
    let p = err_from_is_err_and c.from_residual.result c.from_residual.ensures.1 in
    rw (p.1, p.2)
    (given-refused T.number (T.step (T.view c.args.sink.now) (ParseError c.args.words) c.args.line_number)
    c.in_err-process_token.field-0.0 (T.view c.process_token.new.self) c.in_err-process_token.ensures.gives)
