use Rattle.html_tokenizer.proofs.EndOfInput.Markup.{keyword-closes}
use Rattle.html_tokenizer.proofs.tokenizer.Tokenizer.end_keyword_part.Goals as goal

pub returns : goal.returns
returns g c =
    let m = g.Sink.TokenSink in
    keyword-closes m g.met.Sink.TokenSink.laws c.args.self.now _ _ c.requires.sound c.requires.at
    c.is_empty-is_empty.ensures.part c.end_doctype.ensures
