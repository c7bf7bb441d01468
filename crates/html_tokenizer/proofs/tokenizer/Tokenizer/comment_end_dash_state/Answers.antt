use Rattle.std.proofs.lemmas.Bool.{ne_eqb}
use Rattle.html_tokenizer.proofs.Declarations.Comments.{end_dash-dash, end_dash-other}
use Rattle.html_tokenizer.proofs.tokenizer.Tokenizer.comment_end_dash_state.Goals as goal

pub returns-then-c-eq45 : goal.returns-then-c-eq45
returns-then-c-eq45 g c =
    let m = g.Sink.TokenSink in
    rw c.if-c-eq45.true (end_dash-dash m g.met.Sink.TokenSink.laws c.args.self.now c.requires.sound c.requires.at)

pub returns : goal.returns
returns g c =
    let m = g.Sink.TokenSink in
    end_dash-other m g.met.Sink.TokenSink.laws c.args.self.now _ c.args.c _ c.push.new.self c.comment_state.ensures
    c.requires.at c.in_ok-push.ensures.ok (ne_eqb c.args.c 45 c.if-c-eq45.false)
