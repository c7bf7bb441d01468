use Rattle.html_tokenizer.proofs.Declarations.Openings.{bogus-opened}
use Rattle.html_tokenizer.proofs.tokenizer.Tokenizer.declare_nothing.Goals as goal

pub returns : goal.returns
returns g c =
    let m = g.Sink.TokenSink in
    bogus-opened m g.met.Sink.TokenSink.laws _ c.args.self.now _ c.args.c c.in_ok-self.field-0 _ c.requires.at
    c.text.ensures.part c.requires.nothing c.in_ok-self.ensures.ok c.bogus_comment_state.ensures
