use Rattle.html_tokenizer.proofs.EndOfInput.References.{rcdata-closes}
use Rattle.html_tokenizer.proofs.tokenizer.Tokenizer.end_rcdata_reference.Goals as goal

pub returns : goal.returns
returns g c =
    let m = g.Sink.TokenSink in
    rcdata-closes m g.met.Sink.TokenSink.laws _ _ _ _ c.requires.at c.requires.sound c.requires.held c.emit_reference.ensures
