use Rattle.html_tokenizer.proofs.RawText.Names.{deep_end-kept, deep_end-failed}
use Rattle.html_tokenizer.proofs.tokenizer.Tokenizer.double_escaped_end_tag.Goals as goal

pub returns-in_err-emit_end_tag : goal.returns-in_err-emit_end_tag
returns-in_err-emit_end_tag g c =
    let m = g.Sink.TokenSink in
    deep_end-failed m g.met.Sink.TokenSink.laws _ _ _ _ _ _ c.requires.at c.requires.sound
    c.emit_end_tag.ensures.letters c.requires.told c.from_residual-in_err-emit_end_tag.ensures.1 c.in_err-emit_end_tag.ensures.is

pub returns : goal.returns
returns g c =
    let m = g.Sink.TokenSink in
    deep_end-kept m g.met.Sink.TokenSink.laws _ c.emit_end_tag.new.self _ _ _ _ _ c.requires.at c.requires.sound
    c.emit_end_tag.ensures.letters c.in_ok-self.ensures.ok c.requires.told c.in_ok-emit_end_tag.ensures.is
    c.script_data_double_escape_end_state.ensures
