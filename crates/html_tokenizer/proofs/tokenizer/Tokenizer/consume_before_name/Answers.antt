use Rattle.std.proofs.Common.{◌∙◌, sym}
use Rattle.html_tokenizer.proofs.Attributes.Names.{before-space, before-slash, before-close, before-name}
use Rattle.html_tokenizer.proofs.tokenizer.Tokenizer.consume_before_name.Goals as goal

pub returns-then-is_white_space : goal.returns-then-is_white_space
returns-then-is_white_space g c =
    let m = g.Sink.TokenSink in
    before-space m _ _ c.requires.at c.requires.sound (sym c.is_white_space.ensures ∙ c.if-is_white_space.true)

pub returns-then-c-eq47 : goal.returns-then-c-eq47
returns-then-c-eq47 g c =
    let m = g.Sink.TokenSink in
    before-slash m _ _ c.requires.at c.requires.sound c.if-c-eq47.true

pub returns-then-c-eq62 : goal.returns-then-c-eq62
returns-then-c-eq62 g c =
    let m = g.Sink.TokenSink in
    before-close m _ _ _ _ c.requires.at c.requires.sound c.if-c-eq62.true c.emit_tag.ensures

pub returns : goal.returns
returns g c =
    let m = g.Sink.TokenSink in
    before-name m _ _ _ c.requires.at c.requires.sound
    (sym c.is_white_space.ensures ∙ c.if-is_white_space.false) c.if-c-eq47.false c.if-c-eq62.false
    (rw (c.lowered.ensures, c.empty-name.ensures) at c.in_ok-push.ensures.ok)
