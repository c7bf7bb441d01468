use Rattle.html_tokenizer.proofs.EndOfInput.Tags.{tag-closes}
use Rattle.html_tokenizer.proofs.tokenizer.Tokenizer.end_tag_part.Goals as goal

pub returns : goal.returns
returns g c =
    let m = g.Sink.TokenSink in
    tag-closes m _ _ _ c.requires.at c.requires.fresh c.requires.sound c.report_error.ensures
