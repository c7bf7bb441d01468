use Rattle.std.proofs.Common.{◌≡◌, length}
use denote.Text.{Utf8}
use denote.Shadow.{shadow}
use Rattle.html_tokenizer.specs.Fronts.{TakesFront}
use Rattle.html_tokenizer.proofs.tokenizer.Tokenizer.consume_attributes.Given as goal

abbrev pub invariant-loop-name : goal.invariant-loop-name
invariant-loop-name g l =
    let m = g.Sink.TokenSink in
    shadow (Utf8 l.rest) × TakesFront m l.fn.self l.self l.fn.text l.rest × (l.self.sink ≡ l.fn.self.sink)

abbrev pub decreases-loop-name : goal.decreases-loop-name
decreases-loop-name g l = length l.rest
