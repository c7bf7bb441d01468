use Rattle.html_tokens.specs.declared.states.State.TheVariants as state
use Rattle.html_tokenizer.proofs.Fronts.Attributes.{none-taken, plain-front}
use Rattle.html_tokenizer.proofs.tokenizer.Tokenizer.consume_plain.Goals as goal

pub returns-then-not-is_filled-clause-ok : goal.returns-then-not-is_filled-clause-ok
returns-then-not-is_filled-clause-ok g c =
    let m = g.Sink.TokenSink in
    none-taken m c.args.self.now c.args.text.now state.BeforeAttributeValue c.requires.at c.requires.sound

pub returns-clause-ok : goal.returns-clause-ok
returns-clause-ok g c =
    let m = g.Sink.TokenSink in
    plain-front m c.args.self.now c.args.text.now _ _ _ c.requires.at c.requires.sound c.split.ensures.whole
    c.split.ensures.cut (c.is_filled.ensures c.if-not-is_filled.false)
    (rw c.plain_stops.ensures at c.split.ensures.lacking) c.in_ok-self.ensures.ok
