use Rattle.std.proofs.Common.{sym}
use Rattle.html_tokenizer.proofs.RawText.Scripts.{word-letter_told, word-kept}
use Rattle.html_tokenizer.proofs.tokenizer.Tokenizer.double_escape_start.Goals as goal

pub returns-then-is_ascii_alphabetic : goal.returns-then-is_ascii_alphabetic
returns-then-is_ascii_alphabetic g c =
    let m = g.Sink.TokenSink in
    word-letter_told m g.met.Sink.TokenSink.laws _ _ _ _ _ c.requires.at c.requires.sound
    (sym c.if-is_ascii_alphabetic.ensures.value) c.in_ok-push.ensures.ok c.consume_char.ensures

pub returns : goal.returns
returns g c =
    let m = g.Sink.TokenSink in
    word-kept m g.met.Sink.TokenSink.laws _ _ _ _ _ c.requires.at c.kind_after_word-kind.ensures.letters
    (sym c.if-is_ascii_alphabetic.ensures.value) c.kind_after_word-kind.ensures.is c.raw_data_state.ensures
