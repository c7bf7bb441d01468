use Rattle.html_tokenizer.proofs.EndOfInput.Text.{open-closes}
use Rattle.html_tokenizer.proofs.tokenizer.Tokenizer.end_tag_open.Goals as goal

pub returns : goal.returns
returns g c =
    let m = g.Sink.TokenSink in
    open-closes m g.met.Sink.TokenSink.laws _ _ _ c.requires.at c.requires.sound c.emit_unopened.ensures
