use Rattle.html_tokenizer.proofs.Attributes.Values.{value_after}
use Rattle.html_tokenizer.proofs.tokenizer.Tokenizer.consume_after_value.Goals as goal

pub returns : goal.returns
returns g c =
    let m = g.Sink.TokenSink in
    value_after m c.args.self.now _ _ _ c.requires.at c.before_attribute_name_state.ensures
