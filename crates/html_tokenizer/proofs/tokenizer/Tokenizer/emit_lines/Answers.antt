use Rattle.std.proofs.Common.{refl}
use Rattle.html_tokenizer.proofs.Fronts.Lines.{lines-kept, lines-refused}
use Rattle.html_tokenizer.proofs.tokenizer.Tokenizer.emit_lines.Goals as goal

pub returns : goal.returns
returns g c =
    let m = g.Sink.TokenSink in
    lines-kept m g.met.Sink.TokenSink.laws c.args.self.now c.emit.new.self _ c.args.lines c.args.breaks
    c.requires.at c.requires.sound c.requires.filled c.requires.lines c.requires.breaks c.in_ok-emit.ensures refl

pub returns-in_err-emit : goal.returns-in_err-emit
returns-in_err-emit g c =
    let m = g.Sink.TokenSink in
    lines-refused m g.met.Sink.TokenSink.laws c.args.self.now c.emit.new.self c.args.lines _ c.from_residual.result
    c.requires.at c.requires.sound c.requires.filled c.requires.lines c.in_err-emit.ensures c.from_residual.ensures.1
