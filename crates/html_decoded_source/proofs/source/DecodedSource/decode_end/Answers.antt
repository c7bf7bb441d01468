use Rattle.std.proofs.Common.{◌≡◌, ◌∙◌, ◌++◌, ap, drop, take, sym, subst}
use Rattle.std.proofs.lemmas.List.{drop-append-le}
use Rattle.std.specs.Io.KnownBytes.{IsAtEnd}
use Rattle.std.specs.String.{string_bytes}
use Rattle.html_encodings.specs.Decoders.{Output}
use Rattle.html_encodings.specs.Handlers.{utf8_of}
use Rattle.html_encodings_multibyte.specs.Every.{every_end}
use Rattle.html_decoded_source.specs.Sources.{Decoding, left_of}
use Rattle.html_decoded_source.proofs.Left.{end-decoded}
use Rattle.html_decoded_source.proofs.source.DecodedSource.decode_end.Goals as goal

pub returns-in-Ok-clause-same : goal.returns-in-Ok-clause-same
returns-in-Ok-clause-same g c =
    let own = c.self.inside in
    let first = string_bytes own.text in
    let told : string_bytes c.finish.new.text ≡ first ++ utf8_of (every_end own.decoder.handler) =
    ap (λ (o : Output). o.text) c.in-Ok.ensures.ok in
    end-decoded g.R.Source.left own.source own.decoder.handler (take own.held own.buffer.items) (drop own.given first) _ own.has_ended
    (ap (λ (d : Decoding _). d.held) c.self.view_is ∙ c.requires.none)
    (ap (λ (d : Decoding _). d.has_ended) c.self.view_is ∙ c.requires.open)
    (ap (λ bytes. drop own.given bytes) told ∙ drop-append-le own.given first _ c.self.invariant.1)
    (subst (λ source. IsAtEnd (g.R.Source.left source)) (sym (ap (λ (d : Decoding _). d.source) c.self.view_is)) c.requires.end)
    ∙ ap (left_of g.R.Source.left) c.self.view_is
