use Rattle.std.proofs.Common.{Ok}
use Rattle.html_tokenizer.proofs.Fronts.Attributes.{ended-fresh, tag-closes, tag-unclosed}
use Rattle.html_tokenizer.proofs.tokenizer.Tokenizer.close_tag.Goals as goal

pub emit_tag-requires-clause-fresh : goal.emit_tag-requires-clause-fresh
emit_tag-requires-clause-fresh g c =
    let m = g.Sink.TokenSink in
    rw c.in_ok-end_attribute.ensures.ok (ended-fresh m c.args.self.now c.requires.at)

pub returns : goal.returns
returns g c =
    let m = g.Sink.TokenSink in
    tag-closes m c.args.self.now c.emit_tag.new.self (Ok c.in_ok-answer.field-0) c.requires.at c.requires.sound
    (rw c.in_ok-end_attribute.ensures.ok at c.in_ok-answer.ensures)

pub returns-in_err-answer : goal.returns-in_err-answer
returns-in_err-answer g c =
    let m = g.Sink.TokenSink in
    tag-unclosed m c.args.self.now c.emit_tag.new.self _ c.args.answer.now c.from_residual-in_err-answer.result
    c.requires.at c.requires.sound (rw c.in_ok-end_attribute.ensures.ok at c.in_err-answer.ensures)
    c.from_residual-in_err-answer.ensures.1
