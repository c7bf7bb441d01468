use Rattle.std.proofs.lemmas.Result.{IfOk-weaker}
use Rattle.html_tokens.specs.declared.states.State.TheVariants as state
use Rattle.html_tokenizer.proofs.Fronts.Attributes.{none-taken, equals-front}
use Rattle.html_tokenizer.proofs.tokenizer.Tokenizer.consume_equals.Goals as goal

pub returns-in_default-clause-ok : goal.returns-in_default-clause-ok
returns-in_default-clause-ok g c =
    let m = g.Sink.TokenSink in
    none-taken m c.args.self.now c.args.text.now state.AttributeName c.requires.at c.requires.sound

pub returns-clause-ok : goal.returns-clause-ok
returns-clause-ok g c =
    let m = g.Sink.TokenSink in
    IfOk-weaker c.consume_value.result _ _ (λ rest front. equals-front m c.args.self.now c.consume_value.new.self _
    _ _ c.requires.at c.requires.sound c.in-Some.ensures.whole front) c.consume_value.ensures.ok
