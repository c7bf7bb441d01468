use Rattle.std.proofs.Common.{◌∙◌, sym}
use Rattle.html_tokens.specs.declared.states.AttrValueKind.TheVariants as value
use Rattle.html_tokenizer.proofs.Attributes.Values.{value-reference, unquoted-more, unquoted-end}
use Rattle.html_tokenizer.proofs.tokenizer.Tokenizer.consume_in_unquoted_value.Goals as goal

pub returns-then-ends_word : goal.returns-then-ends_word
returns-then-ends_word g c =
    let m = g.Sink.TokenSink in
    unquoted-end m c.args.self.now c.finish_attribute.new.self _ _ _ c.requires.at (sym c.ends_word.ensures ∙ c.if-ends_word.true)
    c.in_ok-finish_attribute.ensures.ok c.before_attribute_name_state.ensures

pub returns-then-c-eq38 : goal.returns-then-c-eq38
returns-then-c-eq38 g c =
    let m = g.Sink.TokenSink in
    value-reference m c.args.self.now value.Unquoted _ _ c.requires.at c.requires.sound c.if-c-eq38.true c.new.ensures

pub returns : goal.returns
returns g c =
    let m = g.Sink.TokenSink in
    unquoted-more m c.args.self.now _ _ c.requires.at c.requires.sound
    (sym c.ends_word.ensures ∙ c.if-ends_word.false) c.if-c-eq38.false (rw c.shown.ensures at c.in_ok-push.ensures.ok)
