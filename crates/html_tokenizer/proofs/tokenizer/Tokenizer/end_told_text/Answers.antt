use Rattle.html_tokenizer.proofs.EndOfInput.Text.{told-closes}
use Rattle.html_tokenizer.proofs.tokenizer.Tokenizer.end_told_text.Goals as goal

pub returns : goal.returns
returns g c =
    let m = g.Sink.TokenSink in
    told-closes m c.args.self.now _ _ c.requires.at c.requires.fresh c.requires.sound
    c.as_str-letters.ensures.letters c.emit_escaped_end.ensures
