use Rattle.html_tokenizer.proofs.EndOfInput.Markup.{declaration-closes}
use Rattle.html_tokenizer.proofs.tokenizer.Tokenizer.end_declaration.Goals as goal

pub returns : goal.returns
returns g c =
    let m = g.Sink.TokenSink in
    declaration-closes m g.met.Sink.TokenSink.laws c.args.self.now _ _ c.requires.sound c.in_ok-self.field-0
    c.requires.at c.text.ensures.part c.in_ok-self.ensures.ok c.emit_faulty_comment.ensures
