use Rattle.std.proofs.Common.{◌∙◌, Some, ap, sym}
use Rattle.html_tokenizer.specs.declared.tokenizer.Tokenizer.{Tokenizer}
use Rattle.html_tokens.specs.declared.token.Token.TheVariants.{TagToken}
use Rattle.html_tokenizer.proofs.Errors.RefusedErrors.{refused-now, took-stays}
use Rattle.html_tokenizer.specs.Steps.{IsOfText, state_after}
use Rattle.html_tokenizer.proofs.Errors.Rises.{rises-own}
use Rattle.html_tokenizer.proofs.Tags.TagEnds.{start-name, tag-failed, tag-refused, tag-ended}
use Rattle.html_tokenizer.proofs.tokenizer.Tokenizer.emit_start_tag.Goals as goal

pub returns-in_err-emit_faulty_tag : goal.returns-in_err-emit_faulty_tag
returns-in_err-emit_faulty_tag g c =
    let m = g.Sink.TokenSink in
    tag-failed m _ _ _ _ c.from_residual-in_err-emit_faulty_tag.ensures.1 c.in_err-emit_faulty_tag.ensures

pub returns-in_err-reply : goal.returns-in_err-reply
returns-in_err-reply g c =
    let m = g.Sink.TokenSink in
    tag-refused m c.args.self.now c.emit_faulty_tag.new.self _ c.line-line.result _ _
    c.in_ok-emit_faulty_tag.ensures c.line-line.ensures c.from_residual-in_err-reply.ensures.1
    (record { sound = c.in_err-reply.ensures.sound; loans = c.in_err-reply.ensures.same_references })
    (refused-now m g.met.Sink.TokenSink.laws IsOfText _ _ (TagToken c.emit_faulty_tag.new.self.tag) tt
    c.line-line.result _ c.in_err-reply.ensures.gives c.in_err-reply.ensures.unchanged c.in_err-reply.ensures.failed_before)

pub returns : goal.returns
returns g c =
    let m = g.Sink.TokenSink in
    tag-ended m c.args.self.now c.emit_faulty_tag.new.self c.follow.new.self c.process_tag.new.self
    c.keep_last_start_tag.new.self.raw_end c.process_tag.new.tag c.line-line.result c.in_ok-reply.reply
    c.follow.result c.requires.fresh c.requires.sound c.in_ok-emit_faulty_tag.ensures
    (c.keep_last_start_tag.ensures.name ∙ ap Some c.in_ok-name.ensures.ok
    ∙ sym (start-name c.args.self.now.tag c.args.self.now.raw_end.name c.requires.kind)) c.line-line.ensures
    c.in_ok-reply.ensures.gives (c.in_ok-reply.ensures.sound c.in_ok-reply.ensures.failed_after)
    (took-stays m g.met.Sink.TokenSink.laws _ _ c.in_ok-reply.ensures.failed_after c.in_ok-reply.ensures.same_references)
    (rises-own m.errors _ _ _ c.in_ok-reply.ensures.counts)
    (c.follow.ensures.moved ∙ ap (λ (k : Tokenizer _). record k { state = state_after c.in_ok-reply.reply })
    c.keep_last_start_tag.ensures.changed) c.follow.ensures.answer
