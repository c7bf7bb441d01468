use Rattle.html_tokenizer.proofs.Declarations.Doctypes.{after_public-other}
use Rattle.html_tokenizer.proofs.tokenizer.Tokenizer.consume_after_identifier.Goals as goal

pub returns-in-Public : goal.returns-in-Public
returns-in-Public g c =
    let m = g.Sink.TokenSink in
    after_public-other m g.met.Sink.TokenSink.laws c.args.self.now _ c.args.c _ (rw c.in-Public.is at c.requires.at)
    c.after_doctype_public_identifier_state.ensures
