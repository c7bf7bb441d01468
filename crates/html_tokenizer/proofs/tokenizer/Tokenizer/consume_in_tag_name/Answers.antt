use Rattle.std.proofs.Common.{◌∙◌, sym}
use Rattle.html_tokenizer.proofs.Tags.States.{tag_name-space, tag_name-slash, tag_name-close, tag_name-more}
use Rattle.html_tokenizer.proofs.tokenizer.Tokenizer.consume_in_tag_name.Goals as goal

pub returns-then-is_white_space : goal.returns-then-is_white_space
returns-then-is_white_space g c =
    let m = g.Sink.TokenSink in
    tag_name-space m _ _ c.requires.at c.requires.sound (sym c.is_white_space.ensures ∙ c.if-is_white_space.true)

pub returns-then-c-eq47 : goal.returns-then-c-eq47
returns-then-c-eq47 g c =
    let m = g.Sink.TokenSink in
    tag_name-slash m _ _ c.requires.at c.requires.sound c.if-c-eq47.true

pub returns-then-c-eq62 : goal.returns-then-c-eq62
returns-then-c-eq62 g c =
    let m = g.Sink.TokenSink in
    tag_name-close m _ _ _ _ c.requires.at c.requires.sound c.if-c-eq62.true c.emit_tag.ensures

pub returns : goal.returns
returns g c =
    let m = g.Sink.TokenSink in
    tag_name-more m _ _ _ c.requires.at c.requires.sound
    (sym c.is_white_space.ensures ∙ c.if-is_white_space.false) c.if-c-eq47.false c.if-c-eq62.false
    (rw c.lowered.ensures at c.in_ok-push.ensures.ok)
