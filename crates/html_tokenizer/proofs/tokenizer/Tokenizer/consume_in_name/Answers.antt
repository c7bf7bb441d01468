use Rattle.std.proofs.Common.{◌∙◌, sym}
use Rattle.html_tokenizer.proofs.Attributes.Names.{name-more, name-end}
use Rattle.html_tokenizer.proofs.tokenizer.Tokenizer.consume_in_name.Goals as goal

pub returns-then-ends_name : goal.returns-then-ends_name
returns-then-ends_name g c =
    let m = g.Sink.TokenSink in
    name-end m _ _ _ _ c.requires.at (sym c.ends_name.ensures ∙ c.if-ends_name.true) c.after_attribute_name_state.ensures

pub returns : goal.returns
returns g c =
    let m = g.Sink.TokenSink in
    name-more m _ _ _ c.requires.at c.requires.sound (sym c.ends_name.ensures ∙ c.if-ends_name.false)
    (rw c.lowered.ensures at c.in_ok-push.ensures.ok)
