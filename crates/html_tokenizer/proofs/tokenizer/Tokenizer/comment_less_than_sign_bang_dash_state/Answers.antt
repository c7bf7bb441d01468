use Rattle.html_tokenizer.proofs.Declarations.Comments.{less-than-dash_kept}
use Rattle.html_tokenizer.proofs.tokenizer.Tokenizer.comment_less_than_sign_bang_dash_state.Goals as goal

pub returns : goal.returns
returns g c =
    let m = g.Sink.TokenSink in
    less-than-dash_kept m g.met.Sink.TokenSink.laws c.args.self.now _ c.args.c _ c.requires.at c.comment_end_dash_state.ensures
