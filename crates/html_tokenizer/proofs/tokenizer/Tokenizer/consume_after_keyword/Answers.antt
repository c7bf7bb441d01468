use Rattle.html_tokenizer.proofs.Declarations.Doctypes.{keyword-other}
use Rattle.html_tokenizer.proofs.tokenizer.Tokenizer.consume_after_keyword.Goals as goal

pub returns : goal.returns
returns g c =
    let m = g.Sink.TokenSink in
    keyword-other m g.met.Sink.TokenSink.laws c.args.self.now _ c.args.c _ c.args.kind c.requires.at
    c.before_doctype_identifier_state.ensures
