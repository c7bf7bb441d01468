use Rattle.std.proofs.lemmas.Result.{IfOk-weaker}
use Rattle.html_tokenizer.proofs.Fronts.Tags.{opening-in, opening-shorter, opening-taken}
use Rattle.html_tokenizer.proofs.tokenizer.Tokenizer.consume_opening.Goals as goal

pub consume_attributes-requires-clause-at : goal.consume_attributes-requires-clause-at
consume_attributes-requires-clause-at g c =
    let m = g.Sink.TokenSink in
    opening-in m g.met.Sink.TokenSink.laws c.args.self.now _ _ _ c.requires.at c.in_ok-open_tag.ensures.ok

pub returns-clause-ok : goal.returns-clause-ok
returns-clause-ok g c =
    let m = g.Sink.TokenSink in
    IfOk-weaker c.consume_attributes.result _ _
    (λ rest front. opening-taken m g.met.Sink.TokenSink.laws c.args.self.now c.open_tag.new.self
    c.consume_attributes.new.self _ _ _ _ c.requires.at c.requires.sound c.requires.text c.requires.name
    c.in_ok-open_tag.ensures.ok front) c.consume_attributes.ensures.ok

pub returns-clause-shorter : goal.returns-clause-shorter
returns-clause-shorter g c =
    let m = g.Sink.TokenSink in
    IfOk-weaker c.consume_attributes.result _ _
    (λ rest front. opening-shorter m g.met.Sink.TokenSink.laws c.open_tag.new.self c.consume_attributes.new.self
    _ _ _ _ front) c.consume_attributes.ensures.ok
