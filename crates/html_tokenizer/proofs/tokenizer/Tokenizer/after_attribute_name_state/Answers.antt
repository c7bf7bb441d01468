use Rattle.std.proofs.Common.{◌∙◌, sym}
use Rattle.html_tokenizer.proofs.Attributes.Names.{after-space, after-equals, after-other}
use Rattle.html_tokenizer.proofs.tokenizer.Tokenizer.after_attribute_name_state.Goals as goal

pub returns-then-is_white_space : goal.returns-then-is_white_space
returns-then-is_white_space g c =
    let m = g.Sink.TokenSink in
    after-space m _ _ c.requires.at c.requires.sound (sym c.is_white_space.ensures ∙ c.if-is_white_space.true)

pub returns-then-c-eq61 : goal.returns-then-c-eq61
returns-then-c-eq61 g c =
    let m = g.Sink.TokenSink in
    after-equals m _ _ c.requires.at c.requires.sound c.if-c-eq61.true

pub returns : goal.returns
returns g c =
    let m = g.Sink.TokenSink in
    after-other m c.args.self.now c.finish_without_value.new.self _ _ _ c.requires.at
    (sym c.is_white_space.ensures ∙ c.if-is_white_space.false) c.if-c-eq61.false
    c.in_ok-finish_without_value.ensures.ok c.before_attribute_name_state.ensures
