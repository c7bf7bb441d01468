use Rattle.html_tokenizer.proofs.Text.States.{plaintext-kept}
use Rattle.html_tokenizer.proofs.tokenizer.Tokenizer.plaintext_state.Goals as goal

pub returns : goal.returns
returns g c =
    let m = g.Sink.TokenSink in
    plaintext-kept m g.met.Sink.TokenSink.laws _ _ _ _ c.requires.at c.requires.sound c.consume_shown.ensures
