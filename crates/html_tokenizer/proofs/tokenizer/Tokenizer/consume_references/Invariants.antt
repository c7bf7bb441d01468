use Rattle.std.proofs.Common.{◌≡◌, length}
use denote.Text.{Utf8}
use denote.Shadow.{shadow}
use Rattle.html_tokenizer.specs.Fronts.{TakesFront}
use Rattle.html_tokenizer.proofs.tokenizer.Tokenizer.consume_references.Given as goal

abbrev pub invariant-loop-found : goal.invariant-loop-found
invariant-loop-found g l =
    let m = g.Sink.TokenSink in
    shadow (Utf8 l.rest) × TakesFront m l.fn.self l.self l.fn.text l.rest
    × (l.self ≡ record l.fn.self { attribute_value = l.self.attribute_value })

abbrev pub decreases-loop-found : goal.decreases-loop-found
decreases-loop-found g l = length l.rest
