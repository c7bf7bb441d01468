use Rattle.std.specs.Str.{chars}
use Rattle.std.proofs.lemmas.Bool.{ne_eqb}
use Rattle.html_tokens.specs.declared.states.State.TheVariants as state
use Rattle.html_tokenizer.specs.Steps.{nothing_owed}
use Rattle.html_tokenizer.proofs.Declarations.Comments.{end_state-says, end-bang_held, end-dash_more, end-other, comment-took}
use Rattle.html_tokenizer.proofs.Declarations.Comments.{comment-failed}
use Rattle.html_tokenizer.proofs.tokenizer.Tokenizer.consume_after_dashes.Goals as goal

pub returns-in_err-emit_comment : goal.returns-in_err-emit_comment
returns-in_err-emit_comment g c =
    let m = g.Sink.TokenSink in
    comment-failed m g.met.Sink.TokenSink.laws
    nothing_owed _ _ _ state.CommentEnd _ _ _ c.if-c-eq62.true c.requires.at c.requires.sound
    c.from_residual.ensures.1 c.in_err-emit_comment.ensures (end_state-says m g.met.Sink.TokenSink.laws _)

pub returns-then-c-eq62 : goal.returns-then-c-eq62
returns-then-c-eq62 g c =
    let m = g.Sink.TokenSink in
    comment-took m g.met.Sink.TokenSink.laws
    _ _ _ state.CommentEnd _ c.if-c-eq62.true c.requires.at c.requires.sound c.in_ok-emit_comment.ensures
    (end_state-says m g.met.Sink.TokenSink.laws _)

pub returns-then-c-eq33 : goal.returns-then-c-eq33
returns-then-c-eq33 g c =
    let m = g.Sink.TokenSink in
    rw c.if-c-eq33.true (end-bang_held m g.met.Sink.TokenSink.laws c.args.self.now c.requires.sound c.requires.at)

pub returns-then-c-eq45 : goal.returns-then-c-eq45
returns-then-c-eq45 g c =
    let m = g.Sink.TokenSink in
    rw c.if-c-eq45.true (end-dash_more m g.met.Sink.TokenSink.laws c.args.self.now c.requires.sound c.push.new.self
    c.in_ok-push.ensures.ok c.requires.at)

pub returns : goal.returns
unfolding chars
returns g c =
    let m = g.Sink.TokenSink in
    end-other m g.met.Sink.TokenSink.laws c.args.self.now _ c.args.c _ c.push_str.new.self c.comment_state.ensures
    c.requires.at c.in_ok-push_str.ensures.ok (ne_eqb c.args.c 62 c.if-c-eq62.false)
    (ne_eqb c.args.c 33 c.if-c-eq33.false) (ne_eqb c.args.c 45 c.if-c-eq45.false)
