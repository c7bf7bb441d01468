use Rattle.html_tokenizer.proofs.EndOfInput.Text.{end_open-closes}
use Rattle.html_tokenizer.proofs.tokenizer.Tokenizer.end_end_tag_open.Goals as goal

pub returns : goal.returns
returns g c =
    let m = g.Sink.TokenSink in
    end_open-closes m g.met.Sink.TokenSink.laws _ _ _ c.requires.at c.requires.sound c.emit_unopened_end.ensures
