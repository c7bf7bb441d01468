use Rattle.std.proofs.Common.{sym}
use Rattle.html_tokenizer.proofs.RawText.States.{raw-reference, raw-amp_told}
use Rattle.html_tokenizer.proofs.tokenizer.Tokenizer.raw_ampersand.Goals as goal

pub returns-then-has_references : goal.returns-then-has_references
returns-then-has_references g c =
    let m = g.Sink.TokenSink in
    raw-reference m g.met.Sink.TokenSink.laws _ _ _ c.requires.at c.requires.sound (sym c.if-has_references.ensures) c.new.ensures

pub returns-else-has_references : goal.returns-else-has_references
returns-else-has_references g c =
    let m = g.Sink.TokenSink in
    raw-amp_told m g.met.Sink.TokenSink.laws _ _ _ _ c.requires.at c.requires.sound (sym c.if-has_references.ensures) c.consume_char.ensures
