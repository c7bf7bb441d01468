use Rattle.std.proofs.lemmas.Bool.{ne_eqb}
use Rattle.html_tokenizer.proofs.Declarations.Comments.{comment-push, comment-dash}
use Rattle.html_tokenizer.proofs.tokenizer.Tokenizer.consume_in_comment.Goals as goal

pub returns-then-c-eq45 : goal.returns-then-c-eq45
returns-then-c-eq45 g c =
    let m = g.Sink.TokenSink in
    rw c.if-c-eq45.true (comment-dash m g.met.Sink.TokenSink.laws c.args.self.now c.requires.sound c.requires.at)

pub returns : goal.returns
returns g c =
    let m = g.Sink.TokenSink in
    comment-push m g.met.Sink.TokenSink.laws c.args.self.now c.args.c c.requires.sound c.push.new.self c.requires.at
    (ne_eqb c.args.c 45 c.if-c-eq45.false) (rw c.shown.ensures at c.in_ok-push.ensures.ok)
