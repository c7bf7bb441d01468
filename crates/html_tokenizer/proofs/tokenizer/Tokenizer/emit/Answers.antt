use Rattle.html_tokenizer.proofs.Errors.RefusedErrors.{told-alone, untold}
use Rattle.html_tokenizer.specs.Steps.{IsOfText, nothing_owed}
use Rattle.html_tokenizer.proofs.tokenizer.Tokenizer.emit.Goals as goal

pub returns-in_err-_reply : goal.returns-in_err-_reply
returns-in_err-_reply g c =
    let m = g.Sink.TokenSink in
    untold m g.met.Sink.TokenSink.laws
    IsOfText nothing_owed _ _ c.args.token c.requires.of_text c.line-line.result c.line-line.ensures _ _
    (record { sound = c.in_err-_reply.ensures.sound; loans = c.in_err-_reply.ensures.same_references })
    c.in_err-_reply.ensures.gives c.in_err-_reply.ensures.unchanged c.in_err-_reply.ensures.failed_before c.from_residual.ensures.1

pub returns : goal.returns
returns g c =
    let m = g.Sink.TokenSink in
    told-alone m g.met.Sink.TokenSink.laws
    c.args.self.now c.process_token.new.self c.args.token c.line-line.result c.in_ok-_reply._reply c.requires.no_tag
    c.requires.sound c.line-line.ensures c.in_ok-_reply.ensures.gives
    (c.in_ok-_reply.ensures.sound c.in_ok-_reply.ensures.failed_after) c.in_ok-_reply.ensures.failed_after
    c.in_ok-_reply.ensures.same_references c.in_ok-_reply.ensures.counts
