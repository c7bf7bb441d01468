use Rattle.html_tokenizer.proofs.HeldReferences.AmbiguousStates.{value-unknown}
use Rattle.html_tokenizer.proofs.tokenizer.Tokenizer.consume_unknown_in_value.Goals as goal

pub returns : goal.returns
returns g c =
    let m = g.Sink.TokenSink in
    value-unknown m c.args.self.now c.args.kind c.args.c c.push.new.self c.requires.at c.requires.sound
    c.requires.named c.in_ok-push.ensures.ok
