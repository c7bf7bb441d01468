use Rattle.std.proofs.Common.{[], refl}
use Rattle.html_tokens.specs.declared.states.State.TheVariants as state
use Rattle.html_tokens.specs.declared.token.Token.TheVariants.{CommentToken}
use Rattle.html_tokenizer.specs.Steps.{a_fault}
use Rattle.html_tokenizer.proofs.Errors.RefusedErrors.{tells-erred_besides, tells-failed}
use Rattle.html_tokenizer.proofs.tokenizer.Tokenizer.emit_faulty_comment.Goals as goal

pub returns-in_err-report_error : goal.returns-in_err-report_error
returns-in_err-report_error g c =
    let m = g.Sink.TokenSink in
    tells-failed m g.met.Sink.TokenSink.laws a_fault _ c.report_error.new.self _ _ _ _ c.in_err-report_error.ensures
    c.from_residual.ensures.1

pub returns : goal.returns
returns g c =
    let m = g.Sink.TokenSink in
    tells-erred_besides m g.met.Sink.TokenSink.laws a_fault (λ k. CommentToken k.comment)
    (λ k. record k { comment = []; state = state.Data }) (λ k s. refl) (λ k s. refl) c.args.self.now
    c.report_error.new.self _ _ c.in_ok-report_error.ensures c.emit_comment.ensures
