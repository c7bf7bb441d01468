use Rattle.std.specs.Str.{chars}
use Rattle.std.proofs.lemmas.Bool.{ne_eqb}
use Rattle.html_tokens.specs.declared.states.State.TheVariants as state
use Rattle.html_tokenizer.specs.Steps.{a_fault}
use Rattle.html_tokenizer.proofs.Declarations.Comments.{end_bang-says, bang-other, comment-took, comment-failed}
use Rattle.html_tokenizer.proofs.tokenizer.Tokenizer.comment_end_bang_state.Goals as goal

pub returns-in_err-emit_faulty_comment : goal.returns-in_err-emit_faulty_comment
returns-in_err-emit_faulty_comment g c =
    let m = g.Sink.TokenSink in
    comment-failed m g.met.Sink.TokenSink.laws
    a_fault _ _ _ state.CommentEndBang _ _ _ c.if-c-eq62.true c.requires.at c.requires.sound
    c.from_residual.ensures.1 c.in_err-emit_faulty_comment.ensures (end_bang-says m g.met.Sink.TokenSink.laws _)

pub returns-then-c-eq62 : goal.returns-then-c-eq62
returns-then-c-eq62 g c =
    let m = g.Sink.TokenSink in
    comment-took m g.met.Sink.TokenSink.laws
    _ _ _ state.CommentEndBang _ c.if-c-eq62.true c.requires.at c.requires.sound c.in_ok-emit_faulty_comment.ensures
    (end_bang-says m g.met.Sink.TokenSink.laws _)

pub returns : goal.returns
unfolding chars
returns g c =
    let m = g.Sink.TokenSink in
    bang-other m g.met.Sink.TokenSink.laws c.args.self.now _ c.args.c _ c.push_str.new.self c.comment_state.ensures
    c.requires.at c.in_ok-push_str.ensures.ok (ne_eqb c.args.c 62 c.if-c-eq62.false)
