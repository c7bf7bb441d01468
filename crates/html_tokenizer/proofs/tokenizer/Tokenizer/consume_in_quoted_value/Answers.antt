use Rattle.html_tokenizer.proofs.Attributes.Values.{value-reference, quoted-more, quoted-close}
use Rattle.html_tokenizer.proofs.tokenizer.Tokenizer.consume_in_quoted_value.Goals as goal

pub returns-then-c-quote : goal.returns-then-c-quote
returns-then-c-quote g c =
    let m = g.Sink.TokenSink in
    quoted-close m c.args.self.now c.finish_attribute.new.self _ _ _ c.requires.at c.requires.sound c.requires.quote
    c.if-c-quote.true c.in_ok-finish_attribute.ensures.ok

pub returns-then-c-eq38 : goal.returns-then-c-eq38
returns-then-c-eq38 g c =
    let m = g.Sink.TokenSink in
    value-reference m c.args.self.now c.args.kind _ _ c.requires.at c.requires.sound c.if-c-eq38.true c.new.ensures

pub returns : goal.returns
returns g c =
    let m = g.Sink.TokenSink in
    quoted-more m c.args.self.now _ _ _ _ c.requires.at c.requires.sound
    c.requires.quote c.if-c-quote.false c.if-c-eq38.false (rw c.shown.ensures at c.in_ok-push.ensures.ok)
