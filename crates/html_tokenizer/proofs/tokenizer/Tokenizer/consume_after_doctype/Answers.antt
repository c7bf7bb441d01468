use Rattle.html_tokenizer.proofs.Declarations.Doctypes.{doctype-other}
use Rattle.html_tokenizer.proofs.tokenizer.Tokenizer.consume_after_doctype.Goals as goal

pub returns : goal.returns
returns g c =
    let m = g.Sink.TokenSink in
    doctype-other m g.met.Sink.TokenSink.laws c.args.self.now _ c.args.c _ c.requires.at c.before_doctype_name_state.ensures
