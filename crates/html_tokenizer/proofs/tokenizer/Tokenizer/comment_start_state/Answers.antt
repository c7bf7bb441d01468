use Rattle.std.proofs.Common.{sym}
use Rattle.std.proofs.lemmas.Bool.{ne_eqb}
use Rattle.html_tokens.specs.declared.states.State.TheVariants as state
use Rattle.html_tokenizer.specs.Steps.{a_fault}
use Rattle.html_tokenizer.proofs.Declarations.Comments.{start-says, start-dash, start-other, comment-took, comment-failed}
use Rattle.html_tokenizer.proofs.tokenizer.Tokenizer.comment_start_state.Goals as goal

pub returns-then-c-eq45 : goal.returns-then-c-eq45
returns-then-c-eq45 g c =
    let m = g.Sink.TokenSink in
    rw c.if-c-eq45.true (start-dash m g.met.Sink.TokenSink.laws c.args.self.now c.requires.sound c.requires.at)

pub returns-in_err-emit_faulty_comment : goal.returns-in_err-emit_faulty_comment
returns-in_err-emit_faulty_comment g c =
    let m = g.Sink.TokenSink in
    comment-failed m g.met.Sink.TokenSink.laws
    a_fault _ _ _ state.CommentStart c.clear.new.self _ _ c.if-c-eq62.true c.requires.at c.requires.sound
    c.from_residual.ensures.1 c.in_err-emit_faulty_comment.ensures (rw c.clear.ensures (start-says m g.met.Sink.TokenSink.laws _))

pub returns-then-c-eq62 : goal.returns-then-c-eq62
returns-then-c-eq62 g c =
    let m = g.Sink.TokenSink in
    comment-took m g.met.Sink.TokenSink.laws
    _ _ _ state.CommentStart c.clear.new.self c.if-c-eq62.true c.requires.at c.requires.sound
    c.in_ok-emit_faulty_comment.ensures (rw c.clear.ensures (start-says m g.met.Sink.TokenSink.laws _))

pub returns : goal.returns
returns g c =
    let m = g.Sink.TokenSink in
    start-other m g.met.Sink.TokenSink.laws c.args.self.now _ c.args.c _ c.clear.new.self c.comment_state.ensures
    c.requires.at c.clear.ensures (ne_eqb 62 c.args.c (λ e. c.if-c-eq62.false (sym e)))
    (ne_eqb 45 c.args.c (λ e. c.if-c-eq45.false (sym e)))
