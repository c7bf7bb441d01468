use Rattle.std.proofs.lemmas.Bool.{ne_eqb}
use Rattle.html_tokens.specs.declared.states.State.TheVariants as state
use Rattle.html_tokenizer.specs.Steps.{a_fault}
use Rattle.html_tokenizer.proofs.Declarations.Comments.{bogus-says, bogus-push, comment-took, comment-failed}
use Rattle.html_tokenizer.proofs.tokenizer.Tokenizer.consume_in_bogus_comment.Goals as goal

pub returns-in_err-emit_bogus_comment : goal.returns-in_err-emit_bogus_comment
returns-in_err-emit_bogus_comment g c =
    let m = g.Sink.TokenSink in
    comment-failed m g.met.Sink.TokenSink.laws
    a_fault _ _ _ state.BogusComment _ _ _ c.if-c-eq62.true c.requires.at c.requires.sound c.from_residual.ensures.1
    c.in_err-emit_bogus_comment.ensures (bogus-says m g.met.Sink.TokenSink.laws _)

pub returns-then-c-eq62 : goal.returns-then-c-eq62
returns-then-c-eq62 g c =
    let m = g.Sink.TokenSink in
    comment-took m g.met.Sink.TokenSink.laws
    _ _ _ state.BogusComment _ c.if-c-eq62.true c.requires.at c.requires.sound c.in_ok-emit_bogus_comment.ensures
    (bogus-says m g.met.Sink.TokenSink.laws _)

pub returns : goal.returns
returns g c =
    let m = g.Sink.TokenSink in
    bogus-push m g.met.Sink.TokenSink.laws c.args.self.now c.args.c c.requires.sound c.push.new.self c.requires.at
    (ne_eqb c.args.c 62 c.if-c-eq62.false) (rw c.shown.ensures at c.in_ok-push.ensures.ok)
