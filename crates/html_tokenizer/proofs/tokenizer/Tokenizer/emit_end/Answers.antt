use Rattle.html_tokenizer.proofs.EndOfInput.Emitted.{ended, not-closed}
use Rattle.html_tokenizer.proofs.tokenizer.Tokenizer.emit_end.Goals as goal

pub returns-in_err-emit_held : goal.returns-in_err-emit_held
returns-in_err-emit_held g c =
    let m = g.Sink.TokenSink in
    not-closed m _ _ _ _ c.in_err-emit_held.ensures c.from_residual.ensures.1

pub returns : goal.returns
returns g c =
    let m = g.Sink.TokenSink in
    ended m c.args.self.now c.emit_held.new.self _ _ c.in_ok-emit_held.ensures c.emit_end_of_file.ensures
