use Rattle.html_tokenizer.proofs.EndOfInput.References.{data-closes}
use Rattle.html_tokenizer.proofs.tokenizer.Tokenizer.end_data_reference.Goals as goal

pub returns : goal.returns
returns g c =
    let m = g.Sink.TokenSink in
    data-closes m g.met.Sink.TokenSink.laws _ _ _ _ c.requires.at c.requires.sound c.requires.held c.emit_reference.ensures
