use Rattle.html_tokenizer.proofs.EndOfInput.References.{value-closes}
use Rattle.html_tokenizer.proofs.tokenizer.Tokenizer.end_value_reference.Goals as goal

pub returns : goal.returns
returns g c =
    let m = g.Sink.TokenSink in
    value-closes m _ _ _ _ _ c.requires.at c.requires.sound c.requires.held c.report_error.ensures
