use Rattle.html_tokenizer.proofs.RawText.Names.{deep_open-kept, deep_open-failed}
use Rattle.html_tokenizer.proofs.tokenizer.Tokenizer.double_escaped_end_tag_open.Goals as goal

pub returns-in_err-emit_two : goal.returns-in_err-emit_two
returns-in_err-emit_two g c =
    let m = g.Sink.TokenSink in
    deep_open-failed m g.met.Sink.TokenSink.laws _ _ _ _ _ _ c.requires.at c.requires.sound c.requires.told
    c.from_residual.ensures.1 c.in_err-emit_two.ensures

pub returns : goal.returns
returns g c =
    let m = g.Sink.TokenSink in
    deep_open-kept m g.met.Sink.TokenSink.laws _ c.emit_two.new.self _ _ _ _ _ c.requires.at c.requires.sound
    c.new.ensures c.requires.told c.in_ok-emit_two.ensures c.script_data_double_escape_end_state.ensures
