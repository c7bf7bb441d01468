use Rattle.std.proofs.Common.{◌≡◌, ◌∙◌, ap, ◌++◌, drop, take}
use Rattle.std.proofs.lemmas.List.{drop-append-le}
use Rattle.std.specs.String.{string_bytes}
use Rattle.html_encodings.specs.Decoders.{Output}
use Rattle.html_encodings.specs.Handlers.{reading, utf8_of}
use Rattle.html_encodings_multibyte.specs.Every.{every_step}
use Rattle.html_decoded_source.specs.Sources.{Decoding, left_of}
use Rattle.html_decoded_source.proofs.Left.{held-decoded}
use Rattle.html_decoded_source.proofs.source.DecodedSource.decode_held.Goals as goal

pub returns-in-Ok-clause-same : goal.returns-in-Ok-clause-same
returns-in-Ok-clause-same g c =
    let own = c.self.inside in
    let first = string_bytes own.text in
    let piece = take own.held own.buffer.items in
    let told : string_bytes c.feed.new.text ≡
    first ++ utf8_of (reading every_step own.decoder.handler (take own.held c.deref.result.now)).written =
    ap (λ (o : Output). o.text) c.in-Ok.ensures.output in
    let written : string_bytes c.feed.new.text ≡ first ++ utf8_of (reading every_step own.decoder.handler piece).written =
    rw c.deref.ensures.value at told in
    held-decoded g.R.Source.left own.source own.decoder.handler c.feed.new.self.handler
    piece (drop own.given first) _ own.has_ended
    (ap (λ (d : Decoding _). d.has_ended) c.self.view_is ∙ c.requires.open)
    (ap (λ bytes. drop own.given bytes) written ∙ drop-append-le own.given first _ c.self.invariant.1)
    (rw c.deref.ensures.value at c.in-Ok.ensures.state)
    ∙ ap (left_of g.R.Source.left) c.self.view_is
