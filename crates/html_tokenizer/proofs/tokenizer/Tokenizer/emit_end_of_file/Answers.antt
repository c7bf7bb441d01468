use Rattle.html_tokens.specs.declared.token.Token.TheVariants.{EOFToken}
use Rattle.html_tokenizer.proofs.Errors.RefusedErrors.{told-alone, untold}
use Rattle.html_tokenizer.specs.Steps.{nothing_owed}
use Rattle.html_tokenizer.proofs.tokenizer.Tokenizer.emit_end_of_file.Goals as goal

pub returns-in_err-_reply : goal.returns-in_err-_reply
returns-in_err-_reply g c =
    let m = g.Sink.TokenSink in
    untold m g.met.Sink.TokenSink.laws
    (λ token. Unit {0}) nothing_owed _ _ EOFToken tt c.line-line.result c.line-line.ensures _ _
    (record { sound = c.in_err-_reply.ensures.sound; loans = c.in_err-_reply.ensures.same_references })
    c.in_err-_reply.ensures.gives c.in_err-_reply.ensures.unchanged c.in_err-_reply.ensures.failed_before c.from_residual.ensures.1

pub returns : goal.returns
returns g c =
    let m = g.Sink.TokenSink in
    told-alone m g.met.Sink.TokenSink.laws
    c.args.self.now c.process_token.new.self EOFToken c.line-line.result c.in_ok-_reply._reply tt c.requires.sound
    c.line-line.ensures c.in_ok-_reply.ensures.gives
    (c.in_ok-_reply.ensures.sound c.in_ok-_reply.ensures.failed_after) c.in_ok-_reply.ensures.failed_after
    c.in_ok-_reply.ensures.same_references c.in_ok-_reply.ensures.counts
