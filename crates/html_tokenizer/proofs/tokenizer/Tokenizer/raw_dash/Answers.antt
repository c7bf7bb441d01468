use Rattle.html_tokenizer.proofs.RawText.States.{raw-escaped_dash, raw-dash_told}
use Rattle.html_tokenizer.proofs.tokenizer.Tokenizer.raw_dash.Goals as goal

pub returns-in-ScriptDataEscaped : goal.returns-in-ScriptDataEscaped
returns-in-ScriptDataEscaped g c =
    let m = g.Sink.TokenSink in
    raw-escaped_dash m g.met.Sink.TokenSink.laws _ _ _ _ _ c.requires.at c.requires.sound c.in-ScriptDataEscaped.is c.consume_char.ensures

pub returns-in-Rcdata : goal.returns-in-Rcdata
returns-in-Rcdata g c =
    let m = g.Sink.TokenSink in
    raw-dash_told m g.met.Sink.TokenSink.laws _ _ _ _ c.requires.at c.requires.sound c.in-Rcdata.is c.consume_char-in-Rcdata.ensures
