use Rattle.std.proofs.Common.{◌∙◌, sym}
use Rattle.html_tokenizer.proofs.Attributes.Values.{value_before-space, value_before-close, value_before-quote}
use Rattle.html_tokenizer.proofs.Attributes.Values.{value_before-apostrophe, value_before-other}
use Rattle.html_tokenizer.proofs.tokenizer.Tokenizer.consume_before_value.Goals as goal

pub returns-then-is_white_space : goal.returns-then-is_white_space
returns-then-is_white_space g c =
    let m = g.Sink.TokenSink in
    value_before-space m _ _ c.requires.at c.requires.sound (sym c.is_white_space.ensures ∙ c.if-is_white_space.true)

pub returns-then-c-eq62 : goal.returns-then-c-eq62
returns-then-c-eq62 g c =
    let m = g.Sink.TokenSink in
    value_before-close m c.args.self.now c.finish_without_value.new.self _ _ _ c.requires.at c.if-c-eq62.true
    c.in_ok-finish_without_value.ensures.ok c.before_attribute_name_state.ensures

pub returns-then-c-eq34 : goal.returns-then-c-eq34
returns-then-c-eq34 g c =
    let m = g.Sink.TokenSink in
    value_before-quote m c.args.self.now _ _ c.requires.at c.requires.sound c.if-c-eq34.true c.clear.ensures

pub returns-then-c-eq39 : goal.returns-then-c-eq39
returns-then-c-eq39 g c =
    let m = g.Sink.TokenSink in
    value_before-apostrophe m c.args.self.now _ _ c.requires.at c.requires.sound c.if-c-eq39.true c.clear.ensures

pub returns : goal.returns
returns g c =
    let m = g.Sink.TokenSink in
    value_before-other m c.args.self.now _ _ _ _ c.requires.at
    (sym c.is_white_space.ensures ∙ c.if-is_white_space.false) c.if-c-eq62.false c.if-c-eq34.false c.if-c-eq39.false
    c.clear.ensures c.unquoted_value_state.ensures
