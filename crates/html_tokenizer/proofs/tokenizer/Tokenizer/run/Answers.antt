use Rattle.html_tokenizer.proofs.Feeds.Pieces.{started, going-on, fed-whole, fed-script, fed-encoding, not-fed}
use Rattle.html_tokenizer.proofs.tokenizer.Tokenizer.run.Goals as goal

pub returns-in_err-move_on : goal.returns-in_err-move_on
returns-in_err-move_on g c =
    let m = g.Sink.TokenSink in
    not-fed m _ c.loop-answer.self _ _ c.loop-answer.input _ _ _ c.loop-answer.invariant c.in_err-move_on.ensures c.from_residual.ensures.1

pub loop-answer-preserved : goal.loop-answer-preserved
loop-answer-preserved g c =
    let m = g.Sink.TokenSink in
    going-on m _ c.loop-answer.self _ _ c.loop-answer.input _ c.loop-answer.invariant (rw c.in-Continue.is at c.in_ok-move_on.ensures)

pub returns-in-Suspend : goal.returns-in-Suspend
returns-in-Suspend g c =
    let m = g.Sink.TokenSink in
    fed-whole m _ c.loop-answer.self _ _ c.loop-answer.input _ c.loop-answer.invariant
    (rw c.in-Suspend.is at c.in_ok-move_on.ensures) c.as_str-letters.ensures.begins c.is_empty-no_keyword.ensures.part

pub returns-in-Script : goal.returns-in-Script
returns-in-Script g c =
    let m = g.Sink.TokenSink in
    fed-script m _ c.loop-answer.self _ _ c.loop-answer.input _ _ c.loop-answer.invariant (rw c.in-Script.is at c.in_ok-move_on.ensures)

pub returns-in-EncodingIndicator : goal.returns-in-EncodingIndicator
returns-in-EncodingIndicator g c =
    let m = g.Sink.TokenSink in
    fed-encoding m _ c.loop-answer.self _ _ c.loop-answer.input _ _ c.loop-answer.invariant
    (rw c.in-EncodingIndicator.is at c.in_ok-move_on.ensures)

pub loop-answer-init : goal.loop-answer-init
loop-answer-init g c =
    let m = g.Sink.TokenSink in
    started m c.args.self.now c.args.input.now c.requires.ready
