use Rattle.html_tokenizer.proofs.HeldReferences.AmbiguousStates.{rcdata-unknown, rcdata-unknown_failed}
use Rattle.html_tokenizer.proofs.tokenizer.Tokenizer.consume_unknown_in_rcdata.Goals as goal

pub returns-in_err-emit_shown : goal.returns-in_err-emit_shown
returns-in_err-emit_shown g c =
    let m = g.Sink.TokenSink in
    rcdata-unknown_failed m g.met.Sink.TokenSink.laws _ _ _ _ _ c.requires.at c.requires.sound c.requires.named
    c.from_residual.ensures.1 c.in_err-emit_shown.ensures

pub returns : goal.returns
returns g c =
    let m = g.Sink.TokenSink in
    rcdata-unknown m g.met.Sink.TokenSink.laws c.args.self.now c.emit_shown.new.self c.args.c c.requires.at
    c.requires.sound c.requires.named c.in_ok-emit_shown.ensures
