use Rattle.html_tokenizer.proofs.EndOfInput.Text.{cdata-closes}
use Rattle.html_tokenizer.proofs.tokenizer.Tokenizer.end_cdata_section.Goals as goal

pub returns : goal.returns
returns g c =
    let m = g.Sink.TokenSink in
    cdata-closes m _ _ _ c.requires.at c.requires.sound c.report_error.ensures
