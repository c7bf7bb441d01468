use Rattle.html_tokenizer.proofs.Fronts.Ahead.{ahead_text-kept, ahead_value-kept}
use Rattle.html_tokenizer.proofs.tokenizer.Tokenizer.consume_ahead.Goals as goal

pub returns-in-AttributeValue : goal.returns-in-AttributeValue
returns-in-AttributeValue g c =
    let m = g.Sink.TokenSink in
    ahead_value-kept m g.met.Sink.TokenSink.laws c.args.kind c.args.self.now _ _ _ _ c.requires.run c.requires.sound
    c.in-AttributeValue.is c.append.ensures.ok c.append.ensures.fault

pub returns-in_default : goal.returns-in_default
returns-in_default g c =
    let m = g.Sink.TokenSink in
    ahead_text-kept m g.met.Sink.TokenSink.laws c.args.kind c.args.self.now c.emit.new.self c.args.run c.emit.result
    c.requires.run c.requires.fits c.requires.sound c.in_default.not-AttributeValue c.emit.ensures
