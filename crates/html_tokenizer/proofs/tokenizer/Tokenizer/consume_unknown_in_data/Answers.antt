use Rattle.html_tokenizer.proofs.HeldReferences.AmbiguousStates.{data-unknown, data-unknown_failed}
use Rattle.html_tokenizer.proofs.tokenizer.Tokenizer.consume_unknown_in_data.Goals as goal

pub returns-in_err-emit_char : goal.returns-in_err-emit_char
returns-in_err-emit_char g c =
    let m = g.Sink.TokenSink in
    data-unknown_failed m g.met.Sink.TokenSink.laws _ _ _ _ _ c.requires.at c.requires.sound c.requires.named
    c.from_residual.ensures.1 c.in_err-emit_char.ensures

pub returns : goal.returns
returns g c =
    let m = g.Sink.TokenSink in
    data-unknown m g.met.Sink.TokenSink.laws c.args.self.now c.emit_char.new.self c.args.c c.requires.at
    c.requires.sound c.requires.named c.in_ok-emit_char.ensures
