use Rattle.html_tokenizer.proofs.Text.Runs.{comment_run-kept, name_run-kept, text_run-kept}
use Rattle.html_tokenizer.proofs.tokenizer.Tokenizer.consume_run.Goals as goal

pub returns-in-BogusComment : goal.returns-in-BogusComment
returns-in-BogusComment g c =
    let m = g.Sink.TokenSink in
    comment_run-kept m g.met.Sink.TokenSink.laws _ _ _ _ c.requires.run c.requires.sound c.in-BogusComment.is
    c.append.ensures.ok c.append.ensures.fault

pub returns-in_default : goal.returns-in_default
returns-in_default g c =
    let m = g.Sink.TokenSink in
    text_run-kept m g.met.Sink.TokenSink.laws _ _ _ _ c.requires.run c.requires.sound
    c.in_default.not-AttributeValue c.in_default.not-BogusComment c.in_default.not-Comment c.in_default.not-AttributeName c.emit.ensures

pub returns-in-AttributeName : goal.returns-in-AttributeName
returns-in-AttributeName g c =
    let m = g.Sink.TokenSink in
    name_run-kept m c.args.self.now _ _ _ c.requires.run c.requires.sound c.in-AttributeName.is
    (rw c.as_str.ensures at c.push_lowered.ensures.ok) c.push_lowered.ensures.fault
