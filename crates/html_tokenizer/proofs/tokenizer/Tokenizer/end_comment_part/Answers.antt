use Rattle.html_tokenizer.proofs.EndOfInput.Markup.{bogus-closes, comment-closes, start-closes}
use Rattle.html_tokenizer.proofs.tokenizer.Tokenizer.end_comment_part.Goals as goal

pub returns-in-BogusComment : goal.returns-in-BogusComment
returns-in-BogusComment g c =
    let m = g.Sink.TokenSink in
    bogus-closes m g.met.Sink.TokenSink.laws c.args.self.now _ _ c.requires.sound
    (record { state = c.in-BogusComment.is; fresh = c.requires.fresh }) c.emit_bogus_comment.ensures

pub returns-in-CommentStart : goal.returns-in-CommentStart
returns-in-CommentStart g c =
    let m = g.Sink.TokenSink in
    start-closes m g.met.Sink.TokenSink.laws c.args.self.now _ _ c.requires.sound c.requires.fresh
    c.in-CommentStart.is c.end_comment_start.ensures

pub returns-in_default : goal.returns-in_default
returns-in_default g c =
    let m = g.Sink.TokenSink in
    comment-closes m g.met.Sink.TokenSink.laws c.args.self.now _ _ c.requires.sound c.requires.fresh c.requires.at
    c.in_default.not-MarkupDeclarationOpen c.in_default.not-CommentStart c.in_default.not-CommentStartDash c.end_comment.ensures
